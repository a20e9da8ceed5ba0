-- A run as the steps that it counts, one after the other.
use Rattle.std.proofs.Common.{◌≡◌, ◌≢◌, ℕ, zero, suc, ◌+◌, ◌-◌, ◌<◌, ◌≤◌, Bool, true, false, cond, length, Ok, Err, Result, Some, None, Option, refl, sym, ap, ◌∙◌, subst, arith, rules, nat_le, leb-true, ◌==◌}
use Rattle.machine.specs.Rules.{Rules}
use Rattle.machine.specs.Step.{State, stepped}
use Rattle.machine.specs.declared.fault.Fault.{Fault}
use Rattle.machine.specs.declared.turn.Turn.{Turn}
use Rattle.machine.specs.declared.turn.Turn.TheVariants as turn
use Rattle.permit.specs.Rights.{Rights}
use Rattle.runs.specs.Runs.{Ran, ran, later, stopped, goes_on, end_of, counted, Settings, Held, Called, called, called_by, after_run}
use Rattle.runs.specs.Steps.{state_after, turn_after, GoesOn, LastEnds, EndsAfter, left_by, rules_in, state_in, IsItsSteps, TakesItsSteps}
use Rattle.runs.specs.declared.refusal.CallRefusal.{CallRefusal}
use Rattle.runs.specs.declared.refusal.CallRefusal.TheVariants.{OtherMemory, HasExited, BudgetTooLarge}
use Rattle.runs.specs.declared.report.Ending.{Ending}
use Rattle.runs.specs.declared.report.Ending.TheVariants.{Spent, Halted, Exited, Fault as Faulted}
use Rattle.runs.specs.declared.report.Report.{Report}
use Rattle.runs.proofs.Faulting.{fault_keeps}
use Rattle.runs.proofs.Runs.{run_none, run_some}

-- the state after no step, and after one more
after_none : (r : Rules) (s : State) → state_after r s zero ≡ s
unfolding state_after
after_none r s = refl

after_more : (r : Rules) (s : State) (k : ℕ) → state_after r s (suc k) ≡ (stepped r (state_after r s k)).state
unfolding state_after
after_more r s k = refl

-- the first step may be taken before
after_first : (r : Rules) (s : State) (k : ℕ) → state_after r s (suc k) ≡ state_after r (stepped r s).state k
after_first r s zero = after_more r s zero ∙ ap (λ x. (stepped r x).state) (after_none r s) ∙ sym (after_none r (stepped r s).state)
after_first r s (suc k) = after_more r s (suc k) ∙ ap (λ x. (stepped r x).state) (after_first r s k) ∙ sym (after_more r (stepped r s).state k)

turn_first : (r : Rules) (s : State) (k : ℕ) → turn_after r s (suc k) ≡ turn_after r (stepped r s).state k
turn_first r s k = ap (λ x. (stepped r x).turn) (after_first r s k)

turn_none : (r : Rules) (s : State) → turn_after r s zero ≡ (stepped r s).turn
turn_none r s = ap (λ x. (stepped r x).turn) (after_none r s)

-- a first step that goes on, and the steps after it
goes_first : (r : Rules) (s : State) (n : ℕ) → (stepped r s).turn ≡ Ok turn.Next → GoesOn r (stepped r s).state n → GoesOn r s (suc n)
goes_first r s n is rest zero low = turn_none r s ∙ is
goes_first r s n is rest (suc k) low = turn_first r s k ∙ rest k (omega (arith, low))

goes_none : (r : Rules) (s : State) → GoesOn r s zero
goes_none r s k low = absurd (omega (arith, low))

-- the last step of a run with one more before it
last_first : (r : Rules) (s : State) (n : ℕ) (t : Turn) → (stepped r s).turn ≡ Ok turn.Next → LastEnds r (stepped r s).state n t → LastEnds r s (suc n) t
last_first r s zero t is l = absurd (l.some refl)
last_first r s (suc n) t is l =
    let one : suc n - 1 ≡ n = omega arith in
    let two : suc (suc n) - 1 ≡ suc n = omega arith in
    let before : GoesOn r (stepped r s).state n = subst (GoesOn r (stepped r s).state) one l.before in
    record {
      some = λ e. absurd (omega (arith, e));
      before = subst (GoesOn r s) (sym two) (goes_first r s n is before);
      last = ap (turn_after r s) two ∙ turn_first r s n ∙ ap (turn_after r (stepped r s).state) (sym one) ∙ l.last;
    }

-- a run of one step that ends it
last_only : (r : Rules) (s : State) (t : Turn) → (stepped r s).turn ≡ Ok t → LastEnds r s 1 t
last_only r s t is = record {
  some = λ e. absurd (omega (arith, e));
  before = goes_none r s;
  last = turn_none r s ∙ is;
}

-- how a run ends with one more step before it
ends_first : (r : Rules) (s : State) (b n : ℕ) (e : Ending) → (stepped r s).turn ≡ Ok turn.Next → EndsAfter r (stepped r s).state b n e → EndsAfter r s (suc b) (suc n) e
ends_first r s b n Spent is l = (ap suc l.0, goes_first r s n is l.1)
ends_first r s b n Halted is l = last_first r s n turn.Halted is l
ends_first r s b n (Exited c) is l = last_first r s n (turn.Exited c) is l
ends_first r s b n (Faulted f) is l = (goes_first r s n is l.0, omega (arith, l.1), turn_first r s n ∙ l.2)

-- what is shown of a run
record Shown (r : Rules) (s : State) (b : ℕ) (w : Ran) : Type 0 where
  within : w.report.steps ≤ b
  ends : EndsAfter r s b w.report.steps w.report.ending
  leaves : w.state ≡ state_after r s w.report.steps

-- one step, and the run after it
step_shown : (r : Rules) (s : State) (b : ℕ) (rest : Ran) (t : Result Turn Fault) → (stepped r s).turn ≡ t → ((f : Fault) → t ≡ Err f → (stepped r s).state ≡ s)
    → Shown r (stepped r s).state b rest → Shown r s (suc b) (goes_on t (end_of t) (stepped r s).state rest)
step_shown r s b rest (Ok turn.Next) is still l =
    let sum : 1 + rest.report.steps ≡ suc rest.report.steps = omega arith in
    record {
      within = omega (arith, l.within);
      ends = subst (λ (n : ℕ). EndsAfter r s (suc b) n rest.report.ending) (sym sum) (ends_first r s b rest.report.steps rest.report.ending is l.ends);
      leaves = l.leaves ∙ sym (after_first r s rest.report.steps) ∙ ap (state_after r s) (sym sum);
    }
step_shown r s b rest (Ok turn.Halted) is still l = record {
  within = omega arith;
  ends = last_only r s turn.Halted is;
  leaves = sym (after_none r (stepped r s).state) ∙ sym (after_first r s zero);
}
step_shown r s b rest (Ok (turn.Exited c)) is still l = record {
  within = omega arith;
  ends = last_only r s (turn.Exited c) is;
  leaves = sym (after_none r (stepped r s).state) ∙ sym (after_first r s zero);
}
step_shown r s b rest (Err f) is still l = record {
  within = omega arith;
  ends = (goes_none r s, omega arith, turn_none r s ∙ is);
  leaves = still f refl ∙ sym (after_none r s);
}

run_shown : (r : Rules) (b : ℕ) (s : State) → Shown r s b (ran r b s)
run_shown r zero s = subst (Shown r s zero) (sym (run_none r s)) (record { within = omega arith; ends = (refl, goes_none r s); leaves = sym (after_none r s) })
run_shown r (suc b) s =
    subst (Shown r s (suc b)) (sym (run_some r b s))
    (step_shown r s b (ran r b (stepped r s).state) (stepped r s).turn refl (fault_keeps r s) (run_shown r b (stepped r s).state))

-- a call, by what was asked
call_shown : (s : Settings) (h : Held) (a e d : Bool) → (c : Called) → c ≡ called_by h s.rights (cond a (cond e (Err HasExited) (cond d (Ok s.budget) (Err BudgetTooLarge))) (Err OtherMemory)) → TakesItsSteps s h c.answer c.held
call_shown s h false e d c is = subst (λ (c : Called). TakesItsSteps s h c.answer c.held) (sym is) refl
call_shown s h true true d c is = subst (λ (c : Called). TakesItsSteps s h c.answer c.held) (sym is) refl
call_shown s h true false false c is = subst (λ (c : Called). TakesItsSteps s h c.answer c.held) (sym is) refl
call_shown s h true false true c is =
    let run = run_shown (rules_in s h) s.budget (state_in h) in
    subst (λ (c : Called). TakesItsSteps s h c.answer c.held) (sym is) (record {
      within = run.within;
      ends = run.ends;
      leaves = ap (λ x. left_by h x (ran (rules_in s h) s.budget (state_in h)).report.ending) run.leaves;
    })

-- a run is the steps that it counts, one after the other
pub takes_its_steps : (s : Settings) (h : Held) → TakesItsSteps s h (called s h).answer (called s h).held
takes_its_steps s h = call_shown s h (length h.cells == h.machine.size) h.machine.exited (nat_le s.budget 100_000_000) (called s h) refl

-- the same of an answer and of what is left, as a call has them
pub steps_of_call : (s : Settings) (h after : Held) (a : Result Report CallRefusal) → a ≡ (called s h).answer → after ≡ (called s h).held → TakesItsSteps s h a after
steps_of_call s h after a answer left =
    subst (λ (k : Held). TakesItsSteps s h a k) (sym left) (subst (λ (x : Result Report CallRefusal). TakesItsSteps s h x (called s h).held) (sym answer) (takes_its_steps s h))
