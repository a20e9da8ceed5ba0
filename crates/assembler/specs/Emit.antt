-- What the lines put into the executable.
use Rattle.std.specs.Prelude.{ℕ, ◌+◌, ◌*◌, ◌/◌, ◌%◌, Bool, false, cond, not, List, [], ◌∷◌, ◌++◌, replicate, is_some, Some, None, Option}
use Rattle.std.specs.List.{flat_map}
use Rattle.std.specs.Option.{unwrap_or}
use Rattle.executable.specs.Questions.{mark}
use Rattle.lexer.specs.Text.{words_of}
use Rattle.assembler.specs.Labels.{address_in, Names}
use Rattle.assembler.specs.Lines.{parts_of, statement_in}
use Rattle.assembler.specs.Statements.{Meant, code, labelled, constant, text, stack, end, end_at}
use Rattle.assembler.specs.declared.label.Label.{Label}

-- the statement of a line
abbrev pub line_says : List ℕ → Option Meant
line_says line = statement_in (parts_of (words_of line))

-- the address of a label in use; question 12 asks that there is one
abbrev pub address_of : Names → List Label → List ℕ → ℕ
address_of names ls w = unwrap_or (address_in names w ls) 0

-- the constants of a string: its characters, and a 0
abbrev pub string_constants : Option (List ℕ) → List ℕ
string_constants None = []
string_constants (Some cs) = cs ++ 0 ∷ []

-- the words that a statement puts
abbrev pub put_by : Names → List Label → Option Meant → List ℕ
put_by names ls None = []
put_by names ls (Some (code w)) = w ∷ []
put_by names ls (Some (labelled w l)) = (w + address_of names ls l) ∷ []
put_by names ls (Some (constant n)) = n ∷ []
put_by names ls (Some (text cs)) = string_constants cs
put_by names ls (Some (stack n)) = []
put_by names ls (Some (end n)) = []
put_by names ls (Some (end_at l)) = []

-- the words of all lines, in their order
abbrev pub words_from : Names → List Label → List (List ℕ) → List ℕ
words_from names ls [] = []
words_from names ls (l ∷ lines) = put_by names ls (line_says l) ++ words_from names ls lines

-- the label that a statement uses
abbrev pub uses : Option Meant → Option (List ℕ)
uses None = None
uses (Some (code w)) = None
uses (Some (labelled w l)) = Some l
uses (Some (constant n)) = None
uses (Some (text cs)) = None
uses (Some (stack n)) = None
uses (Some (end n)) = None
uses (Some (end_at l)) = Some l

-- whether a label is used that is not defined
abbrev pub is_lost : Names → List Label → Option (List ℕ) → Bool
is_lost names ls None = false
is_lost names ls (Some w) = not (is_some (address_in names w ls))

-- the line of the first such use, counted from n
abbrev pub lost_from : Names → List Label → ℕ → List (List ℕ) → Option ℕ
lost_from names ls n [] = None
lost_from names ls n (l ∷ lines) = cond (is_lost names ls (uses (line_says l))) (Some n) (lost_from names ls (n + 1) lines)

-- the first instruction: what `end` says
abbrev pub start_by : Names → List Label → Option Meant → ℕ → ℕ
start_by names ls None d = d
start_by names ls (Some (code w)) d = d
start_by names ls (Some (labelled w l)) d = d
start_by names ls (Some (constant n)) d = d
start_by names ls (Some (text cs)) d = d
start_by names ls (Some (stack n)) d = d
start_by names ls (Some (end n)) d = n
start_by names ls (Some (end_at l)) d = address_of names ls l

-- the first instruction of a text is what its first `end` says
abbrev pub start_from : Names → List Label → List (List ℕ) → ℕ
start_from names ls [] = 0
start_from names ls (l ∷ lines) = start_by names ls (line_says l) (start_from names ls lines)

-- a number as four bytes, the least first
abbrev pub four_bytes : ℕ → List ℕ
four_bytes n = n % 256 ∷ n / 256 % 256 ∷ n / 65536 % 256 ∷ n / 16777216 % 256 ∷ []

-- the header: mark, sizes in bytes, first instruction, stack pointer, processor, filler
abbrev pub header_of : ℕ → ℕ → ℕ → ℕ → List ℕ
header_of codes constants first stack_pointer =
    mark ++ (four_bytes (4 * codes) ++ (four_bytes (4 * constants) ++ (four_bytes first ++ (four_bytes stack_pointer ++ (four_bytes 239 ++ replicate 476 0)))))

-- the header, and then each word in four bytes
abbrev pub executable_of : ℕ → ℕ → ℕ → ℕ → List ℕ → List ℕ
executable_of codes constants first stack_pointer words = header_of codes constants first stack_pointer ++ flat_map four_bytes words
