-- One executable, run once under two permits.
use Rattle.std.specs.Prelude.{◌≡◌, ℕ, true, false, [], ◌∷◌, None, Option, Some, Ok, Err, Result, Decides}
use Rattle.machine.specs.declared.fault.Fault.{Fault}
use Rattle.permit.specs.Open.{AsOpen}
use Rattle.permit.specs.Rights.{Rights, rights_of}
use Rattle.permit.specs.declared.permit.Permit.{Permit}
use Rattle.runs.specs.Agreement.{Agrees}
use Rattle.runs.specs.Compared.{Both, End, Compared}
use Rattle.runs.specs.Laws.{is_permit_fault}
use Rattle.runs.specs.Machines.{Machine}
use Rattle.runs.specs.Runs.{Held, called}
use Rattle.runs.specs.declared.comparison.Outcome.{Outcome}
use Rattle.runs.specs.declared.comparison.Outcome.TheVariants.{Same, PermitFault, Different}
use Rattle.runs.specs.declared.comparison.Pairing.{Pairing}
use Rattle.runs.specs.declared.refusal.CallRefusal.{CallRefusal}
use Rattle.runs.specs.declared.report.Ending.{Ending}
use Rattle.runs.specs.declared.report.Ending.TheVariants.{Spent, Halted, Exited, Fault as Faulted}
use Rattle.runs.specs.declared.report.Report.{Report}
use Rattle.runs.specs.declared.request.Call.TheVariants.{Run}
use Rattle.runs.specs.declared.request.Memory.TheVariants.{Own}
use Rattle.play.specs.Whole.{Orders, first_held, ready}
use Rattle.play.specs.declared.comparing.Parting.{Parting}
use Rattle.play.specs.declared.refusal.Refusal.{Refusal}
use Rattle.play.specs.declared.refusal.Refusal.TheVariants.{Load, NoRoom, BudgetTooLarge, Memory}

-- one run of the whole budget, asked of two machines, each under a permit of its own
abbrev pub run_under : ℕ → Permit → Permit → Pairing
run_under budget first second = record { request = record { call = Run budget; memory = Own }; first = first; second = second }

-- the fault in which a run ended, if it did
abbrev pub ended_in : Ending → Option Fault
ended_in Spent = None
ended_in Halted = None
ended_in (Exited n) = None
ended_in (Faulted f) = Some f

abbrev pub fault_of : Result Report CallRefusal → Option Fault
fault_of (Ok r) = ended_in r.ending
fault_of (Err q) = None

-- the fault that a machine meets at its next step, if it meets one
abbrev pub next_fault : Rights → Held → Option Fault
next_fault p h = fault_of (called (record { rights = p; budget = 1 }) h).answer

-- the fault at the first's next step where it met a permit fault, and else none
abbrev pub fault_at : Outcome → Rights → Held → Option Fault
fault_at Same p h = None
fault_at (PermitFault at n) p h = next_fault p h
fault_at (Different at) p h = None

-- at a permit fault the first's run of the whole budget took so many steps and ended in a fault that a permit decides, and this fault is told
abbrev pub IsMet : Outcome → Option Fault → Result Report CallRefusal → Type 0
IsMet Same f run = Unit
IsMet (PermitFault at n) f run = (g : Fault) × (f ≡ Some g) × (is_permit_fault g.cause ≡ true) × (run ≡ Ok (record { steps = n; ending = Faulted g }))
IsMet (Different at) f run = Unit

-- two machines that are loaded alike, where no other memory is handed in
abbrev pub both_first : Orders → Machine → Both
both_first o m = record { first = first_held o m; second = first_held o m; other = [] }

-- how two machines end that are loaded alike and asked for one run, and what is told of them; under a second permit that is at least as open no answer differs, and both hold the same
pub record Told (o : Orders) (m : Machine) (first second : Permit) (p : Parting) (e : End) : Type 0 where
  pub compared : Compared (run_under o.budget first second ∷ []) 0 (both_first o m) e
  pub outcome : p.outcome ≡ e.outcome
  pub as_open : Decides p.open (AsOpen (rights_of first) (rights_of second))
  pub fault : p.fault ≡ fault_at e.outcome (rights_of first) e.both.first
  pub met : IsMet e.outcome p.fault (called (record { rights = rights_of first; budget = o.budget }) (first_held o m)).answer
  pub agree : AsOpen (rights_of first) (rights_of second) → Agrees (run_under o.budget first second ∷ []) (both_first o m) e

abbrev pub PartsFrom : Orders → Machine → Permit → Permit → Parting → Type 0
PartsFrom o m first second p = (e : End) × Told o m first second p e

-- an answer is what it should be; there may be no memory for it
abbrev pub Parts : Orders → Permit → Permit → Result Parting Refusal → Type 0
Parts o first second (Ok p) = (m : Machine) × (ready o ≡ Ok m) × PartsFrom o m first second p
Parts o first second (Err (Load q)) = ready o ≡ Err (Load q)
Parts o first second (Err NoRoom) = ready o ≡ Err NoRoom
Parts o first second (Err BudgetTooLarge) = ready o ≡ Err BudgetTooLarge
Parts o first second (Err Memory) = Unit
