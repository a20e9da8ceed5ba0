-- After an exit no run is taken.
use Rattle.std.proofs.Common.{◌≡◌, ℕ, Bool, true, false, cond, List, length, Ok, Err, Result, refl, sym, ap, ◌∙◌, nat_le, ◌==◌}
use Rattle.std.proofs.lemmas.Bool.{eq-eqb}
use Rattle.host.specs.Meaning.{Meaning}
use Rattle.permit.specs.Rights.{Rights}
use Rattle.runs.specs.Laws.{NoRunAfterExit}
use Rattle.runs.specs.Machines.{Machine}
use Rattle.runs.specs.Runs.{Settings, Held, held, called, called_by, has_exited}
use Rattle.runs.specs.declared.refusal.CallRefusal.{CallRefusal}
use Rattle.runs.specs.declared.refusal.CallRefusal.TheVariants.{OtherMemory, HasExited, BudgetTooLarge}
use Rattle.runs.specs.declared.report.Ending.TheVariants.{Exited}
use Rattle.runs.specs.declared.report.Report.{Report}

-- a run that ended in an exit leaves a machine that has exited
exited_after : (h : Held) (rights : Rights) (b n code : ℕ) (a e d : Bool)
    → (called_by h rights (cond a (cond e (Err HasExited) (cond d (Ok b) (Err BudgetTooLarge))) (Err OtherMemory))).answer ≡ Ok (record { steps = n; ending = Exited code })
    → (called_by h rights (cond a (cond e (Err HasExited) (cond d (Ok b) (Err BudgetTooLarge))) (Err OtherMemory))).held.machine.exited ≡ true
exited_after h rights b n code false e d is = cc
exited_after h rights b n code true true d is = cc
exited_after h rights b n code true false false is = cc
exited_after h rights b n code true false true is = ap (λ (r : Result Report CallRefusal). told_exit r) is
  where
    told_exit : Result Report CallRefusal → Bool
    told_exit (Ok r) = has_exited r.ending
    told_exit (Err q) = false

-- 51 of a machine that has exited
refused : (m : Machine) (c : List ℕ) (k : Meaning) (t : Settings) → m.exited ≡ true → length c ≡ m.size → (called t (held m c k)).answer ≡ Err HasExited
refused m c k t e size = rw (eq-eqb (length c) m.size size, e) refl

pub no_run_after_exit : (s : Settings) (h : Held) → NoRunAfterExit s h
no_run_after_exit s h n code is t c m size =
    refused (called s h).held.machine c m t (exited_after h s.rights s.budget n code (length h.cells == h.machine.size) h.machine.exited (nat_le s.budget 100_000_000) is) size
