-- Runs under a wider permit.
use Rattle.std.proofs.Common.{◌≡◌, ℕ, zero, suc, Bool, true, false, length, Ok, Err, Result, Some, None, Option, ◌⊎◌, inl, inr, refl, sym, ap, ◌∙◌}
use Rattle.machine.specs.Act.{After}
use Rattle.machine.specs.Step.{State, state, ended, step_act, stepped}
use Rattle.machine.specs.declared.cause.Cause.{Cause}
use Rattle.machine.specs.declared.fault.Fault.{Fault}
use Rattle.machine.specs.declared.layout.Layout.{Layout}
use Rattle.machine.specs.declared.turn.Turn.{Turn}
use Rattle.permit.specs.Rights.{Rights}
use Rattle.runs.specs.Laws.{is_permit_fault, by_permit, ended_so, Wider, SameUnderWiderPermits}
use Rattle.runs.specs.Runs.{Ran, ran, later, goes_on, end_of, Settings, Held, called_by, after_run, run_asked}
use Rattle.runs.specs.declared.refusal.CallRefusal.{CallRefusal}
use Rattle.runs.specs.declared.report.Ending.{Ending}
use Rattle.runs.proofs.Runs.{run_none, run_some}
use Rattle.runs.proofs.Wider.{Follows, follows_command, under}

-- a step that is not taken by the permit
abbrev by_turn : Result Turn Fault → Bool
by_turn (Ok t) = false
by_turn (Err f) = is_permit_fault f.cause

-- the end of a step
ended_follows : (s : State) (a b : Result After Cause) → Follows a b → (by_turn (ended s a).turn ≡ true) ⊎ (ended s b ≡ ended s a)
ended_follows s (Ok x) b (inl h) = cc
ended_follows s (Err q) b (inl h) = inl h
ended_follows s a b (inr e) = inr (ap (ended s) e)

-- a step
follows_step : (p q : Rights) (l : Layout) → Wider p q → (s : State) → (by_turn (stepped (under p l) s).turn ≡ true) ⊎ (stepped (under q l) s ≡ stepped (under p l) s)
unfolding stepped
follows_step p q l w s = ended_follows s _ _ (follows_command p q l w (step_act s.core s.cells) s.cells s.meaning)

-- a run that a permit fault ends
ends_by_permit : (t : Result Turn Fault) (s : State) (r : Ran) → by_turn t ≡ true → by_permit (goes_on t (end_of t) s r).report.ending ≡ true
ends_by_permit (Ok t) s r h = cc
ends_by_permit (Err f) s r h = h

-- a run that goes on after a step
goes_follows : (t : Result Turn Fault) (o : Option Ending) (s : State) (a b : Ran) → (by_permit a.report.ending ≡ true) ⊎ (b ≡ a) → (by_permit (goes_on t o s a).report.ending ≡ true) ⊎ (goes_on t o s b ≡ goes_on t o s a)
goes_follows t None s a b (inl h) = inl h
goes_follows t None s a b (inr e) = inr (ap (later 1) e)
goes_follows t (Some e) s a b h = inr refl

-- a run is the same under a wider permit, or ends in a permit fault
pub follows_run : (p q : Rights) (l : Layout) → Wider p q → (n : ℕ) (s : State) → (by_permit (ran (under p l) n s).report.ending ≡ true) ⊎ (ran (under q l) n s ≡ ran (under p l) n s)
follows_run p q l w zero s = inr (run_none (under q l) s ∙ sym (run_none (under p l) s))
follows_run p q l w (suc n) s = by_step (follows_step p q l w s) (follows_run p q l w n (stepped (under p l) s).state)
  where
    by_step : (by_turn (stepped (under p l) s).turn ≡ true) ⊎ (stepped (under q l) s ≡ stepped (under p l) s) → ((by_permit (ran (under p l) n (stepped (under p l) s).state).report.ending ≡ true) ⊎ (ran (under q l) n (stepped (under p l) s).state ≡ ran (under p l) n (stepped (under p l) s).state)) → (by_permit (ran (under p l) (suc n) s).report.ending ≡ true) ⊎ (ran (under q l) (suc n) s ≡ ran (under p l) (suc n) s)
    by_step (inl h) rest = inl (rw (run_some (under p l) n s) (ends_by_permit (stepped (under p l) s).turn (stepped (under p l) s).state (ran (under p l) n (stepped (under p l) s).state) h))
    by_step (inr e) rest = rw (run_some (under p l) n s, run_some (under q l) n s, e) (goes_follows (stepped (under p l) s).turn (end_of (stepped (under p l) s).turn) (stepped (under p l) s).state (ran (under p l) n (stepped (under p l) s).state) (ran (under q l) n (stepped (under p l) s).state) rest)

-- a call
called_wider : (h : Held) (p q : Rights) → Wider p q → (r : Result ℕ CallRefusal) → ended_so by_permit (called_by h p r).answer ≡ false → called_by h q r ≡ called_by h p r
called_wider h p q w (Err f) so = refl
called_wider h p q w (Ok n) so = same (follows_run p q h.machine.layout w n (state h.machine.core h.cells h.meaning))
  where
    same : (by_permit (ran (under p h.machine.layout) n (state h.machine.core h.cells h.meaning)).report.ending ≡ true) ⊎ (ran (under q h.machine.layout) n (state h.machine.core h.cells h.meaning) ≡ ran (under p h.machine.layout) n (state h.machine.core h.cells h.meaning)) → called_by h q (Ok n) ≡ called_by h p (Ok n)
    same (inl f) = cc
    same (inr e) = ap (λ r. record { answer = Ok r.report; held = after_run h.machine r }) e

-- a run that ends in no permit fault is the same under every wider permit
pub same_under_wider : (s : Settings) (h : Held) → SameUnderWiderPermits s h
same_under_wider s h q w so = called_wider h s.rights q w (run_asked h.machine (length h.cells) s.budget) so
