-- A line in its parts: its label, the word after it, and the operands.
use Rattle.std.specs.Prelude.{ℕ, true, false, List, map, Some, None, Option}
use Rattle.lexer.specs.Shown.{Shown, label, name, register, number, string, kind_of, first_shown}
use Rattle.lexer.specs.Text.{tail_of}
use Rattle.assembler.specs.Mnemonics.{mnemonic_of}
use Rattle.assembler.specs.Statements.{Meant, said}
use Rattle.assembler.specs.declared.mnemonic.Mnemonic.{Mnemonic}

-- the label without its colon, the word after it, and the words after that word
pub record Parts : Type 0 where
  pub label : Option (List ℕ)
  pub next : Option Shown
  pub operands : List Shown

-- the label that a first word is, if it is one
abbrev pub label_of : Option Shown → Option (List ℕ)
label_of None = None
label_of (Some (label w)) = Some w
label_of (Some (name w)) = None
label_of (Some (register w)) = None
label_of (Some (number w)) = None
label_of (Some (string w)) = None

-- the words after a label, or all where there is none
abbrev pub past_label : Option (List ℕ) → List (List ℕ) → List (List ℕ)
past_label None ws = ws
past_label (Some l) ws = tail_of ws

-- a line with a label or none, by the words after it
abbrev pub parts_by : Option (List ℕ) → List (List ℕ) → Parts
parts_by l ws = record { label = l; next = first_shown false ws; operands = map kind_of (tail_of ws) }

-- the parts of a line with some words
abbrev pub parts_of : List (List ℕ) → Parts
parts_of ws = parts_by (label_of (first_shown true ws)) (past_label (label_of (first_shown true ws)) ws)

-- what a word names
abbrev pub named : Option Shown → Option Mnemonic
named None = None
named (Some (label w)) = None
named (Some (name w)) = mnemonic_of w
named (Some (register w)) = None
named (Some (number w)) = None
named (Some (string w)) = None

-- the statement of a mnemonic and its operands; without a mnemonic there is none
abbrev pub said_by : Option Mnemonic → List Shown → Option Meant
said_by None ws = None
said_by (Some m) ws = said m ws

-- the statement of a line
abbrev pub statement_in : Parts → Option Meant
statement_in l = said_by (named l.next) l.operands
