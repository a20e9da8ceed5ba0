-- Runs that end in a fault.
use Rattle.std.proofs.Common.{◌≡◌, ℕ, zero, suc, ◌≤◌, Bool, true, false, cond, length, Ok, Err, Result, Some, None, Option, ◌⊎◌, inl, inr, refl, sym, ap, ◌∙◌, arith, rules, nat_le, ◌==◌}
use Rattle.machine.specs.Act.{After}
use Rattle.machine.specs.Rules.{Rules}
use Rattle.machine.specs.Step.{State, state, ended, stepped}
use Rattle.machine.specs.declared.cause.Cause.{Cause}
use Rattle.machine.specs.declared.fault.Fault.{Fault}
use Rattle.machine.specs.declared.layout.Layout.{Layout}
use Rattle.machine.specs.declared.turn.Turn.{Turn}
use Rattle.machine.specs.declared.turn.Turn.TheVariants.{Next, Halted, Exited}
use Rattle.permit.specs.Rights.{Rights}
use Rattle.runs.specs.Laws.{by_permit, Wider, SpentAtPermitFaults}
use Rattle.runs.specs.Runs.{Ran, ran, later, stopped, goes_on, counted, end_of, Settings, Held, Called, called_by, after_run}
use Rattle.runs.specs.declared.refusal.CallRefusal.TheVariants.{OtherMemory, HasExited, BudgetTooLarge}
use Rattle.runs.specs.declared.report.Ending.{Ending}
use Rattle.runs.specs.declared.report.Ending.TheVariants.{Spent, Fault as Faulted}
use Rattle.runs.specs.declared.report.Ending.TheVariants as ending
use Rattle.runs.proofs.Runs.{run_none, run_some}
use Rattle.runs.proofs.Wider.{under}
use Rattle.runs.proofs.WiderRuns.{follows_run}

-- a fault leaves the state from before the step
ended_fault : (s : State) (a : Result After Cause) (f : Fault) → (ended s a).turn ≡ Err f → (ended s a).state ≡ s
ended_fault s (Ok x) f e = cc
ended_fault s (Err q) f e = refl

pub fault_keeps : (r : Rules) (s : State) (f : Fault) → (stepped r s).turn ≡ Err f → (stepped r s).state ≡ s
unfolding stepped
fault_keeps r s f e = ended_fault s _ f e

-- a run that is spent
spent_at : ℕ → State → Ran
spent_at n s = stopped n Spent s

-- what the first step tells of a run that ends in a fault: it faults, and no step is counted; or there is one step more than the rest has
first_step : (t : Result Turn Fault) (s here : State) (a b : Ran) (n : ℕ) (f : Fault)
    → (goes_on t (end_of t) here a).report.steps ≡ n → (goes_on t (end_of t) here a).report.ending ≡ Faulted f
    → ((g : Fault) → t ≡ Err g → here ≡ s)
    → (a.report.ending ≡ Faulted f → b ≡ stopped a.report.steps Spent a.state)
    → (n ≡ 0 × (goes_on t (end_of t) here a).state ≡ s) ⊎ ((m : ℕ) × (n ≡ suc m) × (m ≡ a.report.steps) × (goes_on t (end_of t) here b ≡ stopped n Spent (goes_on t (end_of t) here a).state))
first_step (Ok Next) s here a b n f is so keeps rest =
    let more : n ≡ suc a.report.steps = sym is ∙ omega arith in
    inr (a.report.steps, more, refl, ap (later 1) (rest so) ∙ ap (λ k. stopped k Spent a.state) is)
first_step (Ok Halted) s here a b n f is so keeps rest = absurd (apart so)
  where
    apart : ending.Halted ≡ Faulted f → ⊥
    apart e = cc
first_step (Ok (Exited c)) s here a b n f is so keeps rest = absurd (apart so)
  where
    apart : ending.Exited c ≡ Faulted f → ⊥
    apart e = cc
first_step (Err g) s here a b n f is so keeps rest = inl (sym is, keeps g refl)

-- the run of so many steps, by what the first step tells
spent_by : (r : Rules) (b n : ℕ) (s : State) → (n ≡ 0 × (goes_on (stepped r s).turn (end_of (stepped r s).turn) (stepped r s).state (ran r b (stepped r s).state)).state ≡ s) ⊎ ((m : ℕ) × (n ≡ suc m) × (m ≡ (ran r b (stepped r s).state).report.steps) × (goes_on (stepped r s).turn (end_of (stepped r s).turn) (stepped r s).state (ran r (ran r b (stepped r s).state).report.steps (stepped r s).state) ≡ stopped n Spent (goes_on (stepped r s).turn (end_of (stepped r s).turn) (stepped r s).state (ran r b (stepped r s).state)).state)) → ran r n s ≡ stopped n Spent (ran r (suc b) s).state
spent_by r b n s (inl h) =
    ap (λ k. ran r k s) h.0 ∙ run_none r s ∙ ap (stopped 0 Spent) (sym h.1 ∙ ap (λ x. x.state) (sym (run_some r b s))) ∙ ap (λ k. stopped k Spent (ran r (suc b) s).state) (sym h.0)
spent_by r b n s (inr (m, more, steps, e)) =
    ap (λ k. ran r k s) more ∙ run_some r m s
    ∙ ap (λ k. goes_on (stepped r s).turn (end_of (stepped r s).turn) (stepped r s).state (ran r k (stepped r s).state)) steps
    ∙ e ∙ ap (λ x. stopped n Spent x.state) (sym (run_some r b s))

-- a run of as many steps as one that faults took is spent, and leaves the same
pub fault_spent : (r : Rules) (b n : ℕ) (s : State) (f : Fault) → (ran r b s).report.steps ≡ n → (ran r b s).report.ending ≡ Faulted f → ran r n s ≡ stopped n Spent (ran r b s).state
fault_spent r zero n s f is so = absurd (apart (sym (ap (λ x. x.report.ending) (run_none r s)) ∙ so))
  where
    apart : Spent ≡ Faulted f → ⊥
    apart e = cc
fault_spent r (suc b) n s f is so =
    spent_by r b n s (first_step (stepped r s).turn s (stepped r s).state (ran r b (stepped r s).state) (ran r (ran r b (stepped r s).state).report.steps (stepped r s).state) n f
    (sym (ap (λ x. x.report.steps) (run_some r b s)) ∙ is) (sym (ap (λ x. x.report.ending) (run_some r b s)) ∙ so)
    (λ g e. fault_keeps r s g e)
    (λ e. fault_spent r b (ran r b (stepped r s).state).report.steps (stepped r s).state f refl e))

-- a step counts at most one
counts_one : (t : Result Turn Fault) (b : ℕ) → counted t ≤ suc b
counts_one (Ok t) b = omega arith
counts_one (Err f) b = omega arith

-- steps after a step
bounded_by : (t : Result Turn Fault) (o : Option Ending) (s : State) (a : Ran) (b : ℕ) → a.report.steps ≤ b → (goes_on t o s a).report.steps ≤ suc b
bounded_by t None s a b h = omega (arith, h)
bounded_by t (Some e) s a b h = counts_one t b

-- a run takes at most as many steps as its budget has
pub run_bounded : (r : Rules) (b : ℕ) (s : State) → (ran r b s).report.steps ≤ b
run_bounded r zero s = rw (run_none r s) (omega arith)
run_bounded r (suc b) s = rw (run_some r b s) (bounded_by _ _ _ _ b (run_bounded r b (stepped r s).state))

-- under a wider permit the run of so many steps is the same
spent_wider : (p q : Rights) (l : Layout) → Wider p q → (b n : ℕ) (s : State) (f : Fault) → (ran (under p l) b s).report.steps ≡ n → (ran (under p l) b s).report.ending ≡ Faulted f → ran (under q l) n s ≡ stopped n Spent (ran (under p l) b s).state
spent_wider p q l w b n s f is so = by_law (follows_run p q l w n s) (fault_spent (under p l) b n s f is so)
  where
    by_law : (by_permit (ran (under p l) n s).report.ending ≡ true) ⊎ (ran (under q l) n s ≡ ran (under p l) n s) → ran (under p l) n s ≡ stopped n Spent (ran (under p l) b s).state → ran (under q l) n s ≡ stopped n Spent (ran (under p l) b s).state
    by_law (inl h) e = let no = rw e at h in cc
    by_law (inr i) e = i ∙ e

-- what a call leaves, by its run
leaves : (h : Held) (r : Ran) (n : ℕ) (f : Fault) → r.report.ending ≡ Faulted f → ◌≡◌ {A = Called} (record { answer = Ok (record { steps = n; ending = Spent }); held = after_run h.machine (stopped n Spent r.state) }) (record { answer = Ok (record { steps = n; ending = Spent }); held = after_run h.machine r })
leaves h r n f so = rw so refl

-- a call
called_spent : (h : Held) (p q : Rights) → Wider p q → (b n : ℕ) (f : Fault) (a e d : Bool) → nat_le b 100_000_000 ≡ d → (called_by h p (cond a (cond e (Err HasExited) (cond d (Ok b) (Err BudgetTooLarge))) (Err OtherMemory))).answer ≡ Ok (record { steps = n; ending = Faulted f }) → called_by h q (cond a (cond e (Err HasExited) (cond (nat_le n 100_000_000) (Ok n) (Err BudgetTooLarge))) (Err OtherMemory)) ≡ record { answer = Ok (record { steps = n; ending = Spent }); held = (called_by h p (cond a (cond e (Err HasExited) (cond d (Ok b) (Err BudgetTooLarge))) (Err OtherMemory))).held }
called_spent h p q w b n f false e d lawful is = cc
called_spent h p q w b n f true true d lawful is = cc
called_spent h p q w b n f true false false lawful is = cc
called_spent h p q w b n f true false true lawful is =
    let report : (ran (under p h.machine.layout) b (state h.machine.core h.cells h.meaning)).report ≡ record { steps = n; ending = Faulted f } = cc in
    let steps = ap (λ x. x.steps) report in
    let ending = ap (λ x. x.ending) report in
    let few : n ≤ b = rw steps at (run_bounded (under p h.machine.layout) b (state h.machine.core h.cells h.meaning)) in
    let fits : nat_le n 100_000_000 ≡ true = search (rules, few, lawful) in
    rw fits (ap (λ r. record { answer = Ok r.report; held = after_run h.machine r }) (spent_wider p q h.machine.layout w b n (state h.machine.core h.cells h.meaning) f steps ending) ∙ leaves h (ran (under p h.machine.layout) b (state h.machine.core h.cells h.meaning)) n f ending)

-- the last clause of the law
pub spent_at_permit_faults : (s : Settings) (h : Held) → SpentAtPermitFaults s h
spent_at_permit_faults s h q w n f is by = called_spent h s.rights q w s.budget n f (length h.cells == h.machine.size) h.machine.exited (nat_le s.budget 100_000_000) refl is
