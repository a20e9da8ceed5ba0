-- What the options of a command line ask of a run.
use Rattle.std.specs.Prelude.{ℕ, Bool, List, Some, None, Option}
use Rattle.run_replies.specs.Wishes.{Wishes}
use Rattle.run_replies.specs.declared.running.Extras.{Extras}

-- a number, or another where none is given
abbrev pub number_or : ℕ → Option ℕ → ℕ
number_or n None = n
number_or n (Some m) = m

-- where no option says otherwise, a run gets 100,000,000 steps, 1,048,576 cells and 65,536 writes
abbrev pub wishes_asked : List ℕ → List ℕ → Option ℕ → Option ℕ → Option ℕ → Wishes
wishes_asked executable readings budget cells writes = record {
  executable = executable;
  readings = readings;
  budget = number_or 100_000_000 budget;
  cells = number_or 1_048_576 cells;
  writes = number_or 65_536 writes;
}

-- no step is told where no option says otherwise
abbrev pub extras_asked : Option ℕ → Bool → Extras
extras_asked trace dump = record { trace = number_or 0 trace; dump = dump }
