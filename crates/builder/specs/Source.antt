-- What the lines of a text say, each by its name and its operands alone.
use Rattle.std.specs.Prelude.{ℕ, ◌+◌, List, [], ◌∷◌, ◌++◌, length, Some, None, Option}
use Rattle.isa.specs.Command.{instruction, encoded}
use Rattle.isa.specs.Operands.{Numbers, rr, ri, rm, j}
use Rattle.isa.specs.Table.{form_of}
use Rattle.isa.specs.declared.form.Form.{Form}
use Rattle.isa.specs.declared.form.Form.TheVariants.{Rr, Ri, Rm, J}
use Rattle.lexer.specs.Shown.{Shown}
use Rattle.lexer.specs.Text.{words_of, code_of, blanks}
use Rattle.assembler.specs.Emit.{address_of}
use Rattle.assembler.specs.Labels.{place_at, Names}
use Rattle.assembler.specs.Lines.{Parts, parts_of, named}
use Rattle.assembler.specs.Operands.{label_in, operand, register_at, integer_at, natural_at, characters_at}
use Rattle.assembler.specs.declared.label.Label.{Label}
use Rattle.assembler.specs.declared.mnemonic.Mnemonic.{Mnemonic}
use Rattle.assembler.specs.declared.mnemonic.Mnemonic.TheVariants.{Command, Word, Uint32, Text, Stack, End}

-- a line in its parts: its label, its name, its operands
abbrev pub line_parts : List ℕ → Parts
line_parts l = parts_of (words_of l)

-- the address in the place of a target: the label's where a label stands there, and else the number
abbrev pub address_by : Names → List Label → Option (List ℕ) → ℕ → ℕ
address_by names ls None n = n
address_by names ls (Some l) n = address_of names ls l

-- the address in the place of a target of a line
abbrev pub target_at : Names → List Label → ℕ → List Shown → ℕ
target_at names ls k ws = address_by names ls (label_in (operand k ws)) (natural_at k ws)

-- a command's operands by its form, in the order in which they are written
abbrev pub numbers_by : Names → List Label → Form → List Shown → Numbers
numbers_by names ls Rr ws = rr (register_at 0 ws) (register_at 1 ws) (integer_at 2 ws)
numbers_by names ls Ri ws = ri (register_at 0 ws) (integer_at 1 ws)
numbers_by names ls Rm ws = rm (register_at 0 ws) (target_at names ls 1 ws)
numbers_by names ls J ws = j (target_at names ls 0 ws)

-- code: a command is its word, and `word` the number after it
abbrev pub code_by : Names → List Label → Option Mnemonic → List Shown → List ℕ
code_by names ls None ws = []
code_by names ls (Some (Command o)) ws = encoded (instruction o (numbers_by names ls (form_of o) ws)) ∷ []
code_by names ls (Some Word) ws = natural_at 0 ws ∷ []
code_by names ls (Some Uint32) ws = []
code_by names ls (Some Text) ws = []
code_by names ls (Some Stack) ws = []
code_by names ls (Some End) ws = []

-- constants: `uint32` is the number after it, and `string` its characters and a 0
abbrev pub constants_by : Option Mnemonic → List Shown → List ℕ
constants_by None ws = []
constants_by (Some (Command o)) ws = []
constants_by (Some Word) ws = []
constants_by (Some Uint32) ws = natural_at 0 ws ∷ []
constants_by (Some Text) ws = characters_at 0 ws ++ 0 ∷ []
constants_by (Some Stack) ws = []
constants_by (Some End) ws = []

-- the code words of a line
abbrev pub line_code : Names → List Label → List ℕ → List ℕ
line_code names ls l = code_by names ls (named (line_parts l).next) (line_parts l).operands

-- the constants of a line
abbrev pub line_constants : List ℕ → List ℕ
line_constants l = constants_by (named (line_parts l).next) (line_parts l).operands

-- the code words of all lines, in their order
abbrev pub code_in : Names → List Label → List (List ℕ) → List ℕ
code_in names ls [] = []
code_in names ls (l ∷ lines) = line_code names ls l ++ code_in names ls lines

-- the constants of all lines, in their order
abbrev pub constants_in : List (List ℕ) → List ℕ
constants_in [] = []
constants_in (l ∷ lines) = line_constants l ++ constants_in lines

-- the number after the first `stack`, and 1,048,575 where there is none
abbrev pub stack_by : Option Mnemonic → List Shown → ℕ → ℕ
stack_by None ws n = n
stack_by (Some (Command o)) ws n = n
stack_by (Some Word) ws n = n
stack_by (Some Uint32) ws n = n
stack_by (Some Text) ws n = n
stack_by (Some Stack) ws n = natural_at 0 ws
stack_by (Some End) ws n = n

-- the initial stack pointer of a text
abbrev pub stack_in : List (List ℕ) → ℕ
stack_in [] = 1048575
stack_in (l ∷ lines) = stack_by (named (line_parts l).next) (line_parts l).operands (stack_in lines)

-- the address after the first `end`
abbrev pub start_by : Names → List Label → Option Mnemonic → List Shown → ℕ → ℕ
start_by names ls None ws n = n
start_by names ls (Some (Command o)) ws n = n
start_by names ls (Some Word) ws n = n
start_by names ls (Some Uint32) ws n = n
start_by names ls (Some Text) ws n = n
start_by names ls (Some Stack) ws n = n
start_by names ls (Some End) ws n = target_at names ls 0 ws

-- the first instruction of a text
abbrev pub start_in : Names → List Label → List (List ℕ) → ℕ
start_in names ls [] = 0
start_in names ls (l ∷ lines) = start_by names ls (named (line_parts l).next) (line_parts l).operands (start_in names ls lines)

-- how many words a line gives
abbrev pub count_by : Option Mnemonic → List Shown → ℕ
count_by None ws = 0
count_by (Some (Command o)) ws = 1
count_by (Some Word) ws = 1
count_by (Some Uint32) ws = 1
count_by (Some Text) ws = length (characters_at 0 ws) + 1
count_by (Some Stack) ws = 0
count_by (Some End) ws = 0

-- the words of a line, code and constants
abbrev pub count_on : List ℕ → ℕ
count_on l = count_by (named (line_parts l).next) (line_parts l).operands

-- the entry of a label that stands at a place, after so many words
abbrev pub entry_at : ℕ → ℕ → Option (List ℕ) → List Label
entry_at p k None = []
entry_at p k (Some w) = record { place = place_at p; length = length w; address = k } ∷ []

-- the labels of lines that begin at a place, after so many words: a label stands past the blanks in front of its line, and its address counts the words up to it
abbrev pub labels_in : ℕ → ℕ → List (List ℕ) → List Label
labels_in p k [] = []
labels_in p k (l ∷ lines) = entry_at (p + blanks (code_of l)) k (line_parts l).label ++ labels_in (p + length l + 1) (k + count_on l) lines
