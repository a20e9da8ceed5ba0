-- Laws of one run: what a larger budget and a wider permit can change.
use Rattle.std.specs.Prelude.{◌≡◌, ℕ, ◌≤◌, Bool, true, false, ◌||◌, List, length, Ok, Err, Result, ◌==◌}
use Rattle.host.specs.Meaning.{Meaning}
use Rattle.permit.specs.Rights.{Rights, register_level}
use Rattle.machine.specs.Numbers.{number_of}
use Rattle.machine.specs.declared.cause.Cause.{Cause}
use Rattle.machine.specs.declared.fault.Fault.{Fault}
use Rattle.runs.specs.Runs.{Settings, Held, held, called}
use Rattle.runs.specs.declared.refusal.CallRefusal.{CallRefusal}
use Rattle.runs.specs.declared.refusal.CallRefusal.TheVariants.{HasExited}
use Rattle.runs.specs.declared.report.Ending.{Ending}
use Rattle.runs.specs.declared.report.Ending.TheVariants.{Spent, Halted, Exited, Fault as Faulted}
use Rattle.runs.specs.declared.report.Report.{Report}

-- whether a run ended by itself: by a halt, an exit or a fault, and not since its budget was used up
abbrev pub by_itself : Ending → Bool
by_itself Spent = false
by_itself Halted = true
by_itself (Exited n) = true
by_itself (Faulted f) = true

-- 34, 40 and 41 are the faults that a permit decides
abbrev pub is_permit_fault : Cause → Bool
is_permit_fault q = number_of q == 34 || (number_of q == 40 || number_of q == 41)

-- whether a run ended in such a fault
abbrev pub by_permit : Ending → Bool
by_permit Spent = false
by_permit Halted = false
by_permit (Exited n) = false
by_permit (Faulted f) = is_permit_fault f.cause

-- a run that was taken, and whose ending passes a test
abbrev pub ended_so : (Ending → Bool) → Result Report CallRefusal → Bool
ended_so test (Ok r) = test r.ending
ended_so test (Err q) = false

-- a run that ends by itself is the same under every larger lawful budget
abbrev pub SameUnderLargerBudgets : Settings → Held → Type 0
SameUnderLargerBudgets s h =
    (n : ℕ) → s.budget ≤ n → n ≤ 100_000_000 → ended_so by_itself (called s h).answer ≡ true
    → called (record { rights = s.rights; budget = n }) h ≡ called s h

-- rights under which nothing is closed that is open under others
pub record Wider (first second : Rights) : Type 0 where
  pub registers : (r : ℕ) → register_level second r ≤ register_level first r
  pub code : second.code ≤ first.code
  pub constants : second.constants ≤ first.constants
  pub stack : first.stack ≤ second.stack

-- a run that ends in no permit fault is the same under every wider permit
abbrev pub SameUnderWiderPermits : Settings → Held → Type 0
SameUnderWiderPermits s h =
    (q : Rights) → Wider s.rights q → ended_so by_permit (called s h).answer ≡ false
    → called (record { rights = q; budget = s.budget }) h ≡ called s h

-- where a permit fault ends a run after n steps, a budget of n is used up under every wider permit, and the same is left
abbrev pub SpentAtPermitFaults : Settings → Held → Type 0
SpentAtPermitFaults s h =
    (q : Rights) → Wider s.rights q → (n : ℕ) (f : Fault) → (called s h).answer ≡ Ok (record { steps = n; ending = Faulted f }) → is_permit_fault f.cause ≡ true
    → called (record { rights = q; budget = n }) h ≡ record { answer = Ok (record { steps = n; ending = Spent }); held = (called s h).held }

-- after a run that ended in an exit no run is taken: 51 refuses it, whatever the settings, the cells and the host are
abbrev pub NoRunAfterExit : Settings → Held → Type 0
NoRunAfterExit s h =
    (n code : ℕ) → (called s h).answer ≡ Ok (record { steps = n; ending = Exited code })
    → (t : Settings) (c : List ℕ) (m : Meaning) → length c ≡ (called s h).held.machine.size
    → (called t (held (called s h).held.machine c m)).answer ≡ Err HasExited
