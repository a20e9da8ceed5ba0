-- A run as the steps that it counts, one after the other.
use Rattle.std.specs.Prelude.{◌≡◌, ◌≢◌, ℕ, zero, suc, ◌-◌, ◌<◌, ◌≤◌, Ok, Err, Result}
use Rattle.machine.specs.Rules.{Rules}
use Rattle.machine.specs.Step.{State, state, stepped}
use Rattle.machine.specs.declared.fault.Fault.{Fault}
use Rattle.machine.specs.declared.turn.Turn.{Turn}
use Rattle.machine.specs.declared.turn.Turn.TheVariants as turn
use Rattle.runs.specs.Runs.{Settings, Held, has_exited}
use Rattle.runs.specs.declared.refusal.CallRefusal.{CallRefusal}
use Rattle.runs.specs.declared.report.Ending.{Ending}
use Rattle.runs.specs.declared.report.Ending.TheVariants.{Spent, Halted, Exited, Fault as Faulted}
use Rattle.runs.specs.declared.report.Report.{Report}

-- the state after so many steps, each of which works on what the one before it left
unfoldable pub state_after : Rules → State → ℕ → State
state_after r s zero = s
state_after r s (suc k) = (stepped r (state_after r s k)).state

-- how the step ends that comes after so many
abbrev pub turn_after : Rules → State → ℕ → Result Turn Fault
turn_after r s k = (stepped r (state_after r s k)).turn

-- each of the first so many steps is taken, and the run goes on after it
abbrev pub GoesOn : Rules → State → ℕ → Type 0
GoesOn r s n = (k : ℕ) → k < n → turn_after r s k ≡ Ok turn.Next

-- some steps are taken, and the last of them alone ends the run
pub record LastEnds (r : Rules) (s : State) (n : ℕ) (t : Turn) : Type 0 where
  pub some : n ≢ 0
  pub before : GoesOn r s (n - 1)
  pub last : turn_after r s (n - 1) ≡ Ok t

-- how a run of a budget ends after so many steps: by its budget, by its last step, or by a step that is not taken
abbrev pub EndsAfter : Rules → State → ℕ → ℕ → Ending → Type 0
EndsAfter r s budget n Spent = (n ≡ budget) × GoesOn r s n
EndsAfter r s budget n Halted = LastEnds r s n turn.Halted
EndsAfter r s budget n (Exited code) = LastEnds r s n (turn.Exited code)
EndsAfter r s budget n (Faulted f) = GoesOn r s n × (n < budget) × (turn_after r s n ≡ Err f)

-- a machine, its cells and its host with what some steps left, and whether its program has exited
abbrev pub left_by : Held → State → Ending → Held
left_by h s e = record {
  machine = record { core = s.core; layout = h.machine.layout; size = h.machine.size; exited = has_exited e };
  cells = s.cells;
  meaning = s.meaning;
}

-- what a run goes by, and what it works on
abbrev pub rules_in : Settings → Held → Rules
rules_in s h = record { rights = s.rights; layout = h.machine.layout }

abbrev pub state_in : Held → State
state_in h = state h.machine.core h.cells h.meaning

-- a run that was taken: its steps are within the budget, it ends as they end, and leaves what the last of them left
pub record IsItsSteps (s : Settings) (h : Held) (r : Report) (after : Held) : Type 0 where
  pub within : r.steps ≤ s.budget
  pub ends : EndsAfter (rules_in s h) (state_in h) s.budget r.steps r.ending
  pub leaves : after ≡ left_by h (state_after (rules_in s h) (state_in h) r.steps) r.ending

-- a run that is taken is the steps that it counts, one after the other; one that is refused takes none, and leaves everything
abbrev pub TakesItsSteps : Settings → Held → Result Report CallRefusal → Held → Type 0
TakesItsSteps s h (Ok r) after = IsItsSteps s h r after
TakesItsSteps s h (Err q) after = after ≡ h
