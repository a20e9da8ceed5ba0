-- What a line says: its statement, from its mnemonic and its operands.
use Rattle.std.specs.Prelude.{ℕ, cond, ◌&&◌, List, Some, None, Ok, Err, Option, Result}
use Rattle.std.specs.Option.{option_map}
use Rattle.executable.specs.Check.{ask}
use Rattle.isa.specs.Command.{instruction, encoded}
use Rattle.isa.specs.Operands.{Numbers, rr, ri, rm, j}
use Rattle.isa.specs.Table.{form_of}
use Rattle.isa.specs.declared.form.Form.{Form}
use Rattle.isa.specs.declared.form.Form.TheVariants.{Rr, Ri, Rm, J}
use Rattle.lexer.specs.Shown.{Shown}
use Rattle.assembler.specs.Characters.{characters}
use Rattle.assembler.specs.Operands.{label_in, operand, register_at, integer_at, natural_at, characters_at, right_count, right_form, right_range}
use Rattle.assembler.specs.declared.mnemonic.Mnemonic.{Mnemonic}
use Rattle.assembler.specs.declared.mnemonic.Mnemonic.TheVariants.{Command, Word, Uint32, Text, Stack, End}
use Rattle.assembler.specs.declared.question.Question.{Question}
use Rattle.assembler.specs.declared.question.Question.TheVariants as question
use Rattle.assembler.specs.declared.statement.Statement as rust
use Rattle.assembler.specs.declared.statement.Statement.TheVariants as statement

-- a statement by its contents
pub data Meant : Type 0 where
  code : ℕ → Meant
  labelled : ℕ → List ℕ → Meant
  constant : ℕ → Meant
  text : Option (List ℕ) → Meant
  stack : ℕ → Meant
  end : ℕ → Meant
  end_at : List ℕ → Meant

-- the contents of a statement that was read
abbrev pub meant : rust.Statement → Meant
meant (statement.Code w) = code w
meant (statement.Labelled w l) = labelled w l.now
meant (statement.Constant n) = constant n
meant (statement.Text s) = text (characters s.now)
meant (statement.Stack n) = stack n
meant (statement.End n) = end n
meant (statement.EndAt l) = end_at l.now

-- a command's operands by its form; the address is 0 where a label stands for it
abbrev pub numbers_by : Form → List Shown → Numbers
numbers_by Rr ws = rr (register_at 0 ws) (register_at 1 ws) (integer_at 2 ws)
numbers_by Ri ws = ri (register_at 0 ws) (integer_at 1 ws)
numbers_by Rm ws = rm (register_at 0 ws) (natural_at 1 ws)
numbers_by J ws = j (natural_at 0 ws)

-- the label that stands for a command's address
abbrev pub label_by : Form → List Shown → Option (List ℕ)
label_by Rr ws = None
label_by Ri ws = None
label_by Rm ws = label_in (operand 1 ws)
label_by J ws = label_in (operand 0 ws)

-- the address of a label is added to the word, whose address is 0
abbrev pub code_with : ℕ → Option (List ℕ) → Meant
code_with w None = code w
code_with w (Some l) = labelled w l

-- `end` with an address, or with a label
abbrev pub end_with : ℕ → Option (List ℕ) → Meant
end_with n None = end n
end_with n (Some l) = end_at l

-- the statement of a mnemonic and operands that got a yes to questions 7, 8 and 9
abbrev pub statement_by : Mnemonic → List Shown → Meant
statement_by (Command o) ws = code_with (encoded (instruction o (numbers_by (form_of o) ws))) (label_by (form_of o) ws)
statement_by Word ws = code (natural_at 0 ws)
statement_by Uint32 ws = constant (natural_at 0 ws)
statement_by Text ws = text (Some (characters_at 0 ws))
statement_by Stack ws = stack (natural_at 0 ws)
statement_by End ws = end_with (natural_at 0 ws) (label_in (operand 0 ws))

-- none where one of the questions gets a no
abbrev pub said : Mnemonic → List Shown → Option Meant
said m ws = cond (right_count m ws && (right_form m ws && right_range m ws)) (Some (statement_by m ws)) None

-- questions 8 and 9, of as many operands as the mnemonic takes
abbrev pub read_counted : Mnemonic → List Shown → Result Meant Question
read_counted m ws = ask (right_form m ws) question.Form (ask (right_range m ws) question.Range (Ok (statement_by m ws)))

-- a statement: questions 7, 8 and 9
abbrev pub read_by : Mnemonic → List Shown → Result Meant Question
read_by m ws = ask (right_count m ws) question.Count (read_counted m ws)

-- the contents of what was read, or the refusal
abbrev pub told : Result rust.Statement Question → Result Meant Question
told (Ok s) = Ok (meant s)
told (Err q) = Err q

-- the same where there may be no mnemonic
abbrev pub justly : Result Meant Question → Result (Option Meant) Question
justly (Ok x) = Ok (Some x)
justly (Err q) = Err q

-- without a mnemonic there is no statement, and nothing is asked
abbrev pub read_named : Option Mnemonic → List Shown → Result (Option Meant) Question
read_named None ws = Ok None
read_named (Some m) ws = justly (read_by m ws)

-- the contents of what was read, where there is a statement
abbrev pub told_named : Result (Option rust.Statement) Question → Result (Option Meant) Question
told_named (Ok s) = Ok (option_map meant s)
told_named (Err q) = Err q
