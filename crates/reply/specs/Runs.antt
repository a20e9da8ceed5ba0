-- What is told of a whole run.
use Rattle.std.specs.Prelude.{ℕ, List, [], ◌++◌, Some, None, Option}
use Rattle.play.specs.Numbers.{number_of}
use Rattle.play.specs.Whole.{Outcome}
use Rattle.play.specs.declared.refusal.Refusal.{Refusal}
use Rattle.reply.specs.Replies.{Reply, refused, undone}
use Rattle.run_pages.specs.Faults.{fault_page}
use Rattle.run_pages.specs.Runs.{run_page}
use Rattle.runs.specs.declared.report.Ending.{Ending}
use Rattle.runs.specs.declared.report.Ending.TheVariants.{Spent, Halted, Exited, Fault}

-- where it ended in a fault, what that means and the command at its address
abbrev pub fault_lines : Ending → Option ℕ → List ℕ
fault_lines Spent w = []
fault_lines Halted w = []
fault_lines (Exited code) w = []
fault_lines (Fault f) w = fault_page f w

abbrev pub outcome_page : Outcome → List ℕ
outcome_page o = run_page o.report o.taken o.written ++ fault_lines o.report.ending o.word

-- a program that is not run: a refusal by its number; want of memory has none, and nothing is told of it
abbrev pub refused_with : Option ℕ → Reply
refused_with (Some n) = refused n
refused_with None = undone []

abbrev pub refused_run : Refusal → Reply
refused_run q = refused_with (number_of q)
