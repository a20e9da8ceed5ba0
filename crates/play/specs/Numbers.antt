-- The numbers of refusals.
use Rattle.std.specs.Prelude.{ℕ, None, Option, Some}
use Rattle.runs.specs.Numbers.{load_number}
use Rattle.play.specs.declared.refusal.Refusal.{Refusal}
use Rattle.play.specs.declared.refusal.Refusal.TheVariants.{Load, NoRoom, BudgetTooLarge, Memory}

abbrev pub number_of : Refusal → Option ℕ
number_of (Load q) = Some (load_number q)
number_of NoRoom = Some 46
number_of BudgetTooLarge = Some 52
number_of Memory = None
