-- Runs, step by step.
use Rattle.std.proofs.Common.{◌≡◌, ℕ, suc, ◌+◌, ◌-◌, ◌<◌, ◌≤◌, Some, None, refl, ap, sym, ◌∙◌, arith}
use Rattle.machine.specs.Rules.{Rules}
use Rattle.machine.specs.Step.{State, stepped}
use Rattle.runs.specs.Runs.{Ran, ran, later, stopped, goes_on, counted, end_of}
use Rattle.runs.specs.declared.report.Ending.{Ending}
use Rattle.runs.specs.declared.report.Ending.TheVariants.{Spent}

-- a run with no budget is spent
pub run_none : (r : Rules) (s : State) → ran r 0 s ≡ stopped 0 Spent s
unfolding ran
run_none r s = refl

-- a run with some budget takes a step
pub run_some : (r : Rules) (n : ℕ) (s : State) → ran r (suc n) s ≡ goes_on (stepped r s).turn (end_of (stepped r s).turn) (stepped r s).state (ran r n (stepped r s).state)
unfolding ran
run_some r n s = refl

-- some steps more before a run, by how many there are in all
steps_are : (m n : ℕ) (x : Ran) → m ≡ n → later m x ≡ later n x
steps_are m n x e = ap (λ k. later k x) e

-- steps before steps are their sum
pub later_later : (a b : ℕ) (x : Ran) → later a (later b x) ≡ later (a + b) x
later_later a b x = ap (λ n. record { report = record { steps = n; ending = x.report.ending }; state = x.state }) (omega arith)

-- no step before a run is the run
pub later_none : (x : Ran) → later 0 x ≡ x
later_none x = ap (λ n. record { report = record { steps = n; ending = x.report.ending }; state = x.state }) (omega arith)

-- with budget left, one is the successor of the rest
one_left : (b k : ℕ) → k < b → b - k ≡ suc (b - (k + 1))
one_left b k h = omega (arith, h)

-- a run after some steps, by its next one
next_step : (r : Rules) (b k : ℕ) (s : State) (whole : Ran) → k < b → whole ≡ later k (ran r (b - k) s) → whole ≡ later k (goes_on (stepped r s).turn (end_of (stepped r s).turn) (stepped r s).state (ran r (b - (k + 1)) (stepped r s).state))
next_step r b k s whole h e = e ∙ ap (λ n. later k (ran r n s)) (one_left b k h) ∙ ap (later k) (run_some r _ s)

-- a step that ends no run leaves a run with one step more before it
pub run_goes_on : (r : Rules) (b k : ℕ) (s t : State) (whole : Ran) → k < b → whole ≡ later k (ran r (b - k) s) → end_of (stepped r s).turn ≡ None → t ≡ (stepped r s).state → whole ≡ later (k + 1) (ran r (b - (k + 1)) t)
run_goes_on r b k s t whole h e none is =
    next_step r b k s whole h e
    ∙ ap (λ o. later k (goes_on (stepped r s).turn o (stepped r s).state (ran r (b - (k + 1)) (stepped r s).state))) none
    ∙ later_later k 1 _
    ∙ ap (λ u. later (k + 1) (ran r (b - (k + 1)) u)) (sym is)

-- a step that ends a run is its last
pub run_ends : (r : Rules) (b k : ℕ) (s : State) (e : Ending) (whole : Ran) → k < b → whole ≡ later k (ran r (b - k) s) → end_of (stepped r s).turn ≡ Some e → whole ≡ stopped (k + counted (stepped r s).turn) e (stepped r s).state
run_ends r b k s e whole h is some =
    next_step r b k s whole h is
    ∙ ap (λ o. later k (goes_on (stepped r s).turn o (stepped r s).state (ran r (b - (k + 1)) (stepped r s).state))) some

-- a run whose budget is used up
pub run_spent : (r : Rules) (b k : ℕ) (s : State) (whole : Ran) → b ≤ k → k ≤ b → whole ≡ later k (ran r (b - k) s) → whole ≡ stopped b Spent s
run_spent r b k s whole low high e =
    e ∙ ap (λ n. later k (ran r n s)) (omega (arith, low)) ∙ ap (later k) (run_none r s)
    ∙ ap (λ n. stopped n Spent s) (omega (arith, low, high))
