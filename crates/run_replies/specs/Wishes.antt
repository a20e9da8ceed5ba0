-- What is asked of a run, but for its permit.
use Rattle.std.specs.Prelude.{ℕ, List}
use Rattle.permit.specs.Rights.{Rights}
use Rattle.play.specs.Whole.{Orders}
use Rattle.run_replies.specs.declared.wishes.Wishes as code

-- an executable, the tape of its readings, and how much a run may use
pub record Wishes : Type 0 where
  pub executable : List ℕ
  pub readings : List ℕ
  pub budget : ℕ
  pub cells : ℕ
  pub writes : ℕ

-- what the code is asked
abbrev pub wishes_of : code.Wishes → Wishes
wishes_of w = record { executable = w.executable.now; readings = w.readings.now; budget = w.budget; cells = w.cells; writes = w.writes }

-- what is asked of the run under some rights
abbrev pub orders_with : Wishes → Rights → Orders
orders_with w p = record { executable = w.executable; readings = w.readings; rights = p; budget = w.budget; cells = w.cells; writes = w.writes }
