-- A word of a command line.
use Rattle.std.specs.Prelude.{ℕ, List}
use Rattle.std.specs.Borrow.{Bor}

-- its bytes, which are lent
abbrev pub Word : Type 0
Word = Bor (List ℕ)
