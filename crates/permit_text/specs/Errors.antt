-- The number and the line of a refusal.
use Rattle.std.specs.Prelude.{ℕ, ◌≤◌, List, length, Some, None, Option}
use Rattle.lexer.specs.Text.{lines_of}
use Rattle.permit_text.specs.declared.error.PermitError.{PermitError}
use Rattle.permit_text.specs.declared.error.PermitError.TheVariants.{NoSetting, OutOfRange}

-- the number of the question that got a no; there is none where no setting stands in the line
abbrev pub number_of : PermitError → Option ℕ
number_of (NoSetting line) = None
number_of (OutOfRange line) = Some 54

-- the line that is refused
abbrev pub line_of : PermitError → ℕ
line_of (NoSetting line) = line
line_of (OutOfRange line) = line

-- a line of a text by its number, counted from 1
pub record IsLineOf (text : List ℕ) (line : ℕ) : Type 0 where
  pub first : 1 ≤ line
  pub last : line ≤ length (lines_of text)
