-- The lines that list words.
use Rattle.std.specs.Prelude.{ℕ, List, [], ◌∷◌, ◌++◌, Some, None, codes, decimal, Option}
use Rattle.std.specs.List.{flat_map}
use Rattle.std.specs.Fmt.{signed_decimal}
use Rattle.isa.specs.Command.{Plain, decoded}
use Rattle.isa.specs.Operands.{Numbers, rr, ri, rm, j}
use Rattle.isa.specs.Table.{name_of}
use Rattle.executable.specs.declared.segment.Segment.{Segment}
use Rattle.executable.specs.declared.segment.Segment.TheVariants.{Code, Constants}

-- a line is a list of words; in the text a blank stands before each but the first
abbrev pub after_blank : List ℕ → List ℕ
after_blank word = 32 ∷ word

-- one blank stands between two words
abbrev pub blank_joined : List (List ℕ) → List ℕ
blank_joined [] = []
blank_joined (word ∷ more) = word ++ flat_map after_blank more

-- and byte 10 ends it
abbrev pub line_text : List (List ℕ) → List ℕ
line_text line = blank_joined line ++ 10 ∷ []

-- a name and a number
abbrev pub number_line : List ℕ → ℕ → List (List ℕ)
number_line name n = name ∷ decimal n ∷ []

-- the letter r and the number in decimal
abbrev pub register_name : ℕ → List ℕ
register_name r = codes "r" ++ decimal r

-- the operands in the order in which they are assembled, their numbers in decimal
abbrev pub operand_words : Numbers → List (List ℕ)
operand_words (rr a b m) = register_name a ∷ register_name b ∷ signed_decimal m ∷ []
operand_words (ri a i) = register_name a ∷ signed_decimal i ∷ []
operand_words (rm a x) = register_name a ∷ decimal x ∷ []
operand_words (j x) = decimal x ∷ []

-- a command's name and operands
abbrev pub plain_line : Plain → List (List ℕ)
plain_line c = name_of c.opcode ∷ operand_words c.numbers

-- the command that a word is, or the word as a number where it is none
abbrev pub code_line : Option Plain → ℕ → List (List ℕ)
code_line (Some c) w = plain_line c
code_line None w = number_line (codes "word") w

-- the line of a word, by the segment that it stands in
abbrev pub word_line : Segment → ℕ → List (List ℕ)
word_line Code w = code_line (decoded w) w
word_line Constants w = number_line (codes "uint32") w
