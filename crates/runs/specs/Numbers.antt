-- The numbers of refusals.
use Rattle.std.specs.Prelude.{ℕ}
use Rattle.executable.specs.Numbers as executable
use Rattle.runs.specs.declared.refusal.CallRefusal.{CallRefusal}
use Rattle.runs.specs.declared.refusal.CallRefusal.TheVariants.{OtherMemory, HasExited, BudgetTooLarge, OutOfRange}
use Rattle.runs.specs.declared.refusal.LoadRefusal.{LoadRefusal}
use Rattle.runs.specs.declared.refusal.LoadRefusal.TheVariants.{Executable, Memory}

-- of loading
abbrev pub load_number : LoadRefusal → ℕ
load_number (Executable q) = executable.number_of q
load_number Memory = 29

-- of runs and looks
abbrev pub call_number : CallRefusal → ℕ
call_number OtherMemory = 50
call_number HasExited = 51
call_number BudgetTooLarge = 52
call_number OutOfRange = 53
