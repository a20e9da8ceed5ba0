-- Runs one after the other are one run.
use Rattle.std.proofs.Common.{◌≡◌, ℕ, zero, suc, ◌+◌, ◌≤◌, Bool, true, false, cond, length, Ok, Err, Result, refl, sym, ap, ◌∙◌, arith, rules, nat_le, ◌==◌}
use Rattle.machine.specs.Rules.{Rules}
use Rattle.machine.specs.Step.{State, state, stepped}
use Rattle.machine.specs.declared.fault.Fault.{Fault}
use Rattle.machine.specs.declared.turn.Turn.{Turn}
use Rattle.machine.specs.declared.turn.Turn.TheVariants.{Next, Halted, Exited}
use Rattle.permit.specs.Rights.{Rights}
use Rattle.runs.specs.Runs.{Ran, ran, later, goes_on, end_of, Held, Called, called, called_by, after_run}
use Rattle.runs.specs.declared.refusal.CallRefusal.{CallRefusal}
use Rattle.runs.specs.declared.refusal.CallRefusal.TheVariants.{OtherMemory, HasExited, BudgetTooLarge}
use Rattle.runs.specs.declared.report.Ending.TheVariants.{Spent}
use Rattle.runs.specs.declared.report.Ending.TheVariants as ending
use Rattle.runs.specs.declared.report.Report.{Report}
use Rattle.runs.proofs.Runs.{run_none, run_some, later_later, later_none}
use Rattle.runs.proofs.Wider.{under}

-- a spent run after one step goes on as the rest does
spent_rest : (t : Result Turn Fault) (s : State) (a b c : Ran) → (goes_on t (end_of t) s a).report.ending ≡ Spent
    → (a.report.ending ≡ Spent → b ≡ later a.report.steps c)
    → goes_on t (end_of t) s b ≡ later (goes_on t (end_of t) s a).report.steps c
spent_rest (Ok Next) s a b c so rest = ap (later 1) (rest so) ∙ later_later 1 a.report.steps c
spent_rest (Ok Halted) s a b c so rest = absurd (apart so)
  where
    apart : ending.Halted ≡ Spent → ⊥
    apart e = cc
spent_rest (Ok (Exited n)) s a b c so rest = absurd (apart so)
  where
    apart : ending.Exited n ≡ Spent → ⊥
    apart e = cc
spent_rest (Err f) s a b c so rest = absurd (apart so)
  where
    apart : ending.Fault f ≡ Spent → ⊥
    apart e = cc

-- the state after one step and more
spent_state : (t : Result Turn Fault) (s : State) (a : Ran) → (goes_on t (end_of t) s a).report.ending ≡ Spent → (a.report.ending ≡ Spent) × ((goes_on t (end_of t) s a).state ≡ a.state) × ((goes_on t (end_of t) s a).report.steps ≡ suc a.report.steps)
spent_state (Ok Next) s a so = (so, refl, omega arith)
spent_state (Ok Halted) s a so = absurd (apart so)
  where
    apart : ending.Halted ≡ Spent → ⊥
    apart e = cc
spent_state (Ok (Exited n)) s a so = absurd (apart so)
  where
    apart : ending.Exited n ≡ Spent → ⊥
    apart e = cc
spent_state (Err f) s a so = absurd (apart so)
  where
    apart : ending.Fault f ≡ Spent → ⊥
    apart e = cc

-- a spent run takes as many steps as its budget has
spent_steps : (r : Rules) (a : ℕ) (s : State) → (ran r a s).report.ending ≡ Spent → (ran r a s).report.steps ≡ a
spent_steps r zero s so = ap (λ x. x.report.steps) (run_none r s)
spent_steps r (suc a) s so =
    let here = spent_state (stepped r s).turn (stepped r s).state (ran r a (stepped r s).state) (sym (ap (λ x. x.report.ending) (run_some r a s)) ∙ so) in
    ap (λ x. x.report.steps) (run_some r a s) ∙ here.2 ∙ ap suc (spent_steps r a (stepped r s).state here.0)

-- a run of a summed budget: a run of the first budget, and then one of the second
pub run_sum : (r : Rules) (a b : ℕ) (s : State) → (ran r a s).report.ending ≡ Spent → ran r (a + b) s ≡ later (ran r a s).report.steps (ran r b (ran r a s).state)
run_sum r zero b s so =
    let sum : zero + b ≡ b = omega arith in
    ap (λ n. ran r n s) sum ∙ ap (ran r b) (sym (ap (λ x. x.state) (run_none r s)))
    ∙ sym (later_none (ran r b (ran r zero s).state)) ∙ ap (λ n. later n (ran r b (ran r zero s).state)) (sym (ap (λ x. x.report.steps) (run_none r s)))
run_sum r (suc a) b s so =
    let sum : suc a + b ≡ suc (a + b) = omega arith in
    let one = run_some r a s in
    let so_here = sym (ap (λ x. x.report.ending) one) ∙ so in
    let here = spent_state (stepped r s).turn (stepped r s).state (ran r a (stepped r s).state) so_here in
    let there : (ran r (suc a) s).state ≡ (ran r a (stepped r s).state).state = ap (λ x. x.state) one ∙ here.1 in
    ap (λ n. ran r n s) sum ∙ run_some r (a + b) s
    ∙ spent_rest (stepped r s).turn (stepped r s).state (ran r a (stepped r s).state) (ran r (a + b) (stepped r s).state) (ran r b (ran r a (stepped r s).state).state) so_here (λ e. run_sum r a b (stepped r s).state e)
    ∙ ap (λ x. later x.report.steps (ran r b (ran r a (stepped r s).state).state)) (sym one)
    ∙ ap (λ x. later (ran r (suc a) s).report.steps (ran r b x)) (sym there)

-- a call that was taken, whatever was asked
taken : (h : Held) (p : Rights) (b : ℕ) (x e d : Bool) (r : Report) (after : Held) → ◌≡◌ {A = Called} (called_by h p (cond x (cond e (Err HasExited) (cond d (Ok b) (Err BudgetTooLarge))) (Err OtherMemory))) (record { answer = Ok r; held = after }) → ◌≡◌ {A = Called} (called_by h p (Ok b)) (record { answer = Ok r; held = after })
taken h p b false e d r after is = let no : ◌≡◌ {A = Result Report CallRefusal} (Err OtherMemory) (Ok r) = ap (λ c. c.answer) is in cc
taken h p b true true d r after is = let no : ◌≡◌ {A = Result Report CallRefusal} (Err HasExited) (Ok r) = ap (λ c. c.answer) is in cc
taken h p b true false false r after is = let no : ◌≡◌ {A = Result Report CallRefusal} (Err BudgetTooLarge) (Ok r) = ap (λ c. c.answer) is in cc
taken h p b true false true r after is = is

-- the run of the sum, of two that were taken
two_runs : (h : Held) (p : Rights) (a b : ℕ) (x e d : Bool) (r₀ r₁ : Report) (after : Held)
    → (called_by h p (cond x (cond e (Err HasExited) (cond d (Ok a) (Err BudgetTooLarge))) (Err OtherMemory))).answer ≡ Ok r₀ → r₀.ending ≡ Spent
    → ◌≡◌ {A = Called} (called (record { rights = p; budget = b }) (called_by h p (cond x (cond e (Err HasExited) (cond d (Ok a) (Err BudgetTooLarge))) (Err OtherMemory))).held) (record { answer = Ok r₁; held = after })
    → a + b ≤ 100_000_000
    → ◌≡◌ {A = Called} (called_by h p (cond x (cond e (Err HasExited) (cond (nat_le (a + b) 100_000_000) (Ok (a + b)) (Err BudgetTooLarge))) (Err OtherMemory))) (record { answer = Ok (record { steps = r₀.steps + r₁.steps; ending = r₁.ending }); held = after })
two_runs h p a b false e d r₀ r₁ after is so then low = cc
two_runs h p a b true true d r₀ r₁ after is so then low = cc
two_runs h p a b true false false r₀ r₁ after is so then low = cc
two_runs h p a b true false true r₀ r₁ after is so then low =
    let first = ran (under p h.machine.layout) a (state h.machine.core h.cells h.meaning) in
    let second = ran (under p h.machine.layout) b first.state in
    let report : first.report ≡ r₀ = cc in
    let spent : first.report.ending ≡ Spent = ap (λ x. x.ending) report ∙ so in
    let again = taken (after_run h.machine first) p b (length first.state.cells == h.machine.size) _ (nat_le b 100_000_000) r₁ after then in
    let report₁ : second.report ≡ r₁ = let o : ◌≡◌ {A = Result Report CallRefusal} (Ok second.report) (Ok r₁) = ap (λ c. c.answer) again in cc in
    let left : after_run h.machine second ≡ after = ap (λ c. c.held) again in
    let fits : nat_le (a + b) 100_000_000 ≡ true = search (rules, low) in
    rw fits (ap (λ r. record { answer = Ok r.report; held = after_run h.machine r }) (run_sum (under p h.machine.layout) a b (state h.machine.core h.cells h.meaning) spent)
    ∙ ap (λ k. record { answer = Ok (record { steps = k + second.report.steps; ending = second.report.ending }); held = after_run h.machine second }) (ap (λ x. x.steps) report)
    ∙ ap (λ x. record { answer = Ok (record { steps = r₀.steps + x.steps; ending = x.ending }); held = after_run h.machine second }) report₁
    ∙ ap (λ x. record { answer = Ok (record { steps = r₀.steps + r₁.steps; ending = r₁.ending }); held = x }) left)

-- two runs that were taken are one
pub called_sum : (h : Held) (p : Rights) (a b : ℕ) (r₀ r₁ : Report) (here after : Held)
    → called (record { rights = p; budget = a }) h ≡ record { answer = Ok r₀; held = here } → r₀.ending ≡ Spent
    → called (record { rights = p; budget = b }) here ≡ record { answer = Ok r₁; held = after }
    → a + b ≤ 100_000_000
    → called (record { rights = p; budget = a + b }) h ≡ record { answer = Ok (record { steps = r₀.steps + r₁.steps; ending = r₁.ending }); held = after }
called_sum h p a b r₀ r₁ here after is so then low =
    two_runs h p a b (length h.cells == h.machine.size) h.machine.exited (nat_le a 100_000_000) r₀ r₁ after (ap (λ c. c.answer) is) so (ap (λ x. called (record { rights = p; budget = b }) x) (ap (λ c. c.held) is) ∙ then) low
