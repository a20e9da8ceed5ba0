-- A run that ended in a fault, and its next step.
use Rattle.std.proofs.Common.{◌≡◌, ℕ, zero, suc, Bool, true, false, cond, length, Some, Ok, Err, Result, refl, sym, ap, ◌∙◌, nat_le, ◌==◌}
use Rattle.machine.specs.Act.{After}
use Rattle.machine.specs.Rules.{Rules}
use Rattle.machine.specs.Step.{State, state, ended, stepped}
use Rattle.machine.specs.declared.cause.Cause.{Cause}
use Rattle.machine.specs.declared.fault.Fault.{Fault}
use Rattle.machine.specs.declared.turn.Turn.{Turn}
use Rattle.machine.specs.declared.turn.Turn.TheVariants.{Next, Halted, Exited}
use Rattle.permit.specs.Rights.{Rights}
use Rattle.runs.specs.Runs.{Ran, ran, stopped, goes_on, end_of, has_exited, Held, called, called_by, after_run}
use Rattle.runs.specs.declared.refusal.CallRefusal.{CallRefusal}
use Rattle.runs.specs.declared.refusal.CallRefusal.TheVariants.{OtherMemory, HasExited, BudgetTooLarge}
use Rattle.runs.specs.declared.report.Ending.TheVariants.{Spent, Fault as Faulted}
use Rattle.runs.specs.declared.report.Ending.TheVariants as ending
use Rattle.runs.specs.declared.report.Report.{Report}
use Rattle.runs.proofs.Runs.{run_none, run_some}
use Rattle.play.specs.Parting.{fault_of, next_fault}

-- a fault leaves the state from before the step
ended_fault : (s : State) (a : Result After Cause) (f : Fault) → (ended s a).turn ≡ Err f → (ended s a).state ≡ s
ended_fault s (Ok x) f e = cc
ended_fault s (Err q) f e = refl

fault_keeps : (r : Rules) (s : State) (f : Fault) → (stepped r s).turn ≡ Err f → (stepped r s).state ≡ s
unfolding stepped
fault_keeps r s f e = ended_fault s _ f e

-- one step that faults
faults_once : (r : Rules) (s : State) (f : Fault) → (stepped r s).turn ≡ Err f → ran r 1 s ≡ stopped 0 (Faulted f) (stepped r s).state
faults_once r s f e = run_some r 0 s ∙ ap (λ t. goes_on t (end_of t) (stepped r s).state (ran r 0 (stepped r s).state)) e

-- so the step that faulted faults again
again_by : (r : Rules) (s here : State) (t : Result Turn Fault) (a : Ran) (f : Fault)
    → (goes_on t (end_of t) here a).report.ending ≡ Faulted f
    → (a.report.ending ≡ Faulted f → ran r 1 a.state ≡ stopped 0 (Faulted f) a.state)
    → ((g : Fault) → t ≡ Err g → (here ≡ s) × (ran r 1 s ≡ stopped 0 (Faulted g) here))
    → ran r 1 (goes_on t (end_of t) here a).state ≡ stopped 0 (Faulted f) (goes_on t (end_of t) here a).state
again_by r s here (Ok Next) a f so rest step = rest so
again_by r s here (Ok Halted) a f so rest step = absurd (apart so)
  where
    apart : ending.Halted ≡ Faulted f → ⊥
    apart e = cc
again_by r s here (Ok (Exited n)) a f so rest step = absurd (apart so)
  where
    apart : ending.Exited n ≡ Faulted f → ⊥
    apart e = cc
again_by r s here (Err g) a f so rest step = ap (ran r 1) (step g refl).0 ∙ (step g refl).1 ∙ ap (λ e. stopped 0 e here) so

again : (r : Rules) (b : ℕ) (s : State) (f : Fault) → (ran r b s).report.ending ≡ Faulted f → ran r 1 (ran r b s).state ≡ stopped 0 (Faulted f) (ran r b s).state
again r zero s f so = absurd (apart (sym (ap (λ x. x.report.ending) (run_none r s)) ∙ so))
  where
    apart : Spent ≡ Faulted f → ⊥
    apart e = cc
again r (suc b) s f so =
    rw (run_some r b s)
    (again_by r s (stepped r s).state (stepped r s).turn (ran r b (stepped r s).state) f
    (sym (ap (λ x. x.report.ending) (run_some r b s)) ∙ so)
    (λ e. again r b (stepped r s).state f e)
    (λ g e. (fault_keeps r s g e, faults_once r s g e)))

-- what a call asks for is one step after a run that was taken
one_more : (h : Held) (p : Rights) (r : Ran) (f : Fault) → length r.state.cells ≡ length h.cells → (length h.cells == h.machine.size) ≡ true → r.report.ending ≡ Faulted f
    → ran (record { rights = p; layout = h.machine.layout }) 1 r.state ≡ stopped 0 (Faulted f) r.state → next_fault p (after_run h.machine r) ≡ Some f
one_more h p r f long size so then =
    by_questions (length r.state.cells == h.machine.size) (has_exited r.report.ending) (ap (λ n. n == h.machine.size) long ∙ size) (ap has_exited so)
  where
    by_questions : (x e : Bool) → x ≡ true → e ≡ false → fault_of (called_by (after_run h.machine r) p (cond x (cond e (Err HasExited) (Ok 1)) (Err OtherMemory))).answer ≡ Some f
    by_questions true false is not = ap (λ x. fault_of (Ok x.report)) then
    by_questions true true is not = cc
    by_questions false e is not = cc

pub met_again : (h : Held) (p : Rights) (b n : ℕ) (f : Fault) → (called (record { rights = p; budget = b }) h).answer ≡ Ok (record { steps = n; ending = Faulted f })
    → length (called (record { rights = p; budget = b }) h).held.cells ≡ length h.cells → next_fault p (called (record { rights = p; budget = b }) h).held ≡ Some f
met_again h p b n f is long = by_questions (length h.cells == h.machine.size) h.machine.exited (nat_le b 100_000_000) refl is long
  where
    by_questions : (x e d : Bool) → (length h.cells == h.machine.size) ≡ x
        → (called_by h p (cond x (cond e (Err HasExited) (cond d (Ok b) (Err BudgetTooLarge))) (Err OtherMemory))).answer ≡ Ok (record { steps = n; ending = Faulted f })
        → length (called_by h p (cond x (cond e (Err HasExited) (cond d (Ok b) (Err BudgetTooLarge))) (Err OtherMemory))).held.cells ≡ length h.cells
        → next_fault p (called_by h p (cond x (cond e (Err HasExited) (cond d (Ok b) (Err BudgetTooLarge))) (Err OtherMemory))).held ≡ Some f
    by_questions false e d size is long = cc
    by_questions true true d size is long = cc
    by_questions true false false size is long = cc
    by_questions true false true size is long =
        let so : (ran (record { rights = p; layout = h.machine.layout }) b (state h.machine.core h.cells h.meaning)).report.ending ≡ Faulted f = told is in
        one_more h p (ran (record { rights = p; layout = h.machine.layout }) b (state h.machine.core h.cells h.meaning)) f long size so (again (record { rights = p; layout = h.machine.layout }) b (state h.machine.core h.cells h.meaning) f so)
      where
        told : {x : Report} → ◌≡◌ {A = Result Report CallRefusal} (Ok x) (Ok (record { steps = n; ending = Faulted f })) → x.ending ≡ Faulted f
        told e = cc
