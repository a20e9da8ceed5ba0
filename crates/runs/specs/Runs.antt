-- Runs: steps in turn.
use Rattle.std.specs.Prelude.{ℕ, zero, suc, ◌+◌, Bool, true, false, cond, List, length, Some, None, Option, Ok, Err, Result, ◌==◌, nat_le}
use Rattle.host.specs.Meaning.{Meaning}
use Rattle.permit.specs.Rights.{Rights, rights_of}
use Rattle.machine.specs.Rules.{Rules}
use Rattle.machine.specs.Step.{State, state, stepped}
use Rattle.machine.specs.declared.fault.Fault.{Fault}
use Rattle.machine.specs.declared.turn.Turn.{Turn}
use Rattle.machine.specs.declared.turn.Turn.TheVariants as turn
use Rattle.runs.specs.Machines.{Machine}
use Rattle.runs.specs.declared.refusal.CallRefusal.{CallRefusal}
use Rattle.runs.specs.declared.refusal.CallRefusal.TheVariants.{OtherMemory, HasExited, BudgetTooLarge}
use Rattle.runs.specs.declared.report.Ending.{Ending}
use Rattle.runs.specs.declared.report.Ending.TheVariants.{Spent, Halted, Exited, Fault as Faulted}
use Rattle.runs.specs.declared.report.Report.{Report}
use Rattle.runs.specs.declared.settings.Settings as code

-- how many steps a run took and how it ended, and the state that it leaves
pub record Ran : Type 0 where
  pub report : Report
  pub state : State

abbrev pub stopped : ℕ → Ending → State → Ran
stopped n e s = record { report = record { steps = n; ending = e }; state = s }

-- a run that took some steps more before
abbrev pub later : ℕ → Ran → Ran
later n r = record { report = record { steps = n + r.report.steps; ending = r.report.ending }; state = r.state }

-- how a step ends a run, if it does
abbrev pub end_of : Result Turn Fault → Option Ending
end_of (Ok turn.Next) = None
end_of (Ok turn.Halted) = Some Halted
end_of (Ok (turn.Exited code)) = Some (Exited code)
end_of (Err f) = Some (Faulted f)

-- how many steps a step counts: a fault is none
abbrev pub counted : Result Turn Fault → ℕ
counted (Ok t) = 1
counted (Err f) = 0

-- a run that a step ends, or that goes on after it
abbrev pub goes_on : Result Turn Fault → Option Ending → State → Ran → Ran
goes_on answer None s rest = later 1 rest
goes_on answer (Some e) s rest = stopped (counted answer) e s

-- a run: the budget is asked before each step
unfoldable pub ran : Rules → ℕ → State → Ran
ran r zero s = stopped 0 Spent s
ran r (suc n) s = goes_on (stepped r s).turn (end_of (stepped r s).turn) (stepped r s).state (ran r n (stepped r s).state)

-- a run's permit by its rights, and its budget
pub record Settings : Type 0 where
  pub rights : Rights
  pub budget : ℕ

abbrev pub settings_of : code.Settings → Settings
settings_of s = record { rights = rights_of s.permit.now; budget = s.budget }

-- a machine with its memory and its host
pub record Held : Type 0 where
  pub machine : Machine
  pub cells : List ℕ
  pub meaning : Meaning

abbrev pub held : Machine → List ℕ → Meaning → Held
held m c h = record { machine = m; cells = c; meaning = h }

-- 50: has the memory as many cells as when the machine was loaded? 51: has no run of it ended in an exit? 52: is the budget 100,000,000 steps or fewer?
abbrev pub run_asked : Machine → ℕ → ℕ → Result ℕ CallRefusal
run_asked m size budget =
    cond (size == m.size)
    (cond m.exited (Err HasExited)
    (cond (nat_le budget 100_000_000) (Ok budget) (Err BudgetTooLarge)))
    (Err OtherMemory)

-- whether a run ended by an exit
abbrev pub has_exited : Ending → Bool
has_exited Spent = false
has_exited Halted = false
has_exited (Exited n) = true
has_exited (Faulted f) = false

-- a machine after a run
abbrev pub after_run : Machine → Ran → Held
after_run m r = record {
  machine = record { core = r.state.core; layout = m.layout; size = m.size; exited = has_exited r.report.ending };
  cells = r.state.cells;
  meaning = r.state.meaning;
}

-- what a run answers, and what it leaves; a refusal leaves everything
pub record Called : Type 0 where
  pub answer : Result Report CallRefusal
  pub held : Held

abbrev pub called_by : Held → Rights → Result ℕ CallRefusal → Called
called_by h rights (Err q) = record { answer = Err q; held = h }
called_by h rights (Ok n) = finished (ran (record { rights = rights; layout = h.machine.layout }) n (state h.machine.core h.cells h.meaning))
  where
    finished : Ran → Called
    finished r = record { answer = Ok r.report; held = after_run h.machine r }

abbrev pub called : Settings → Held → Called
called s h = called_by h s.rights (run_asked h.machine (length h.cells) s.budget)
