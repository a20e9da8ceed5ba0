-- The number of a refusal.
use Rattle.std.specs.Prelude.{ℕ, Some, None, Option}
use Rattle.item_lines.specs.declared.make.MakeError.{MakeError}
use Rattle.item_lines.specs.declared.make.MakeError.TheVariants.{Line, TooMany, Memory}

-- 46 of more items than a host writes; the others have none
abbrev pub number_of : MakeError → Option ℕ
number_of (Line n) = None
number_of TooMany = Some 46
number_of Memory = None
