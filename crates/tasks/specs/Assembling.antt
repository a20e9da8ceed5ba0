-- What assembling a text gives, and the lines that tell of it.
use Rattle.assembler.specs.Questions.{refusal_at}
use Rattle.std.specs.Prelude.{◌≡◌, ℕ, List, [], ◌∷◌, ◌++◌, length, Ok, Err, Result, codes, decimal}
use Rattle.assembler.specs.Assembled as text
use Rattle.assembler.specs.declared.label.Label.{Label}
use Rattle.assembler.specs.declared.question.Question.{Question}
use Rattle.assembler.specs.declared.question.Question.TheVariants.{LabelRoom, Output}
use Rattle.assembler.specs.declared.question.Refusal.{Refusal}
use Rattle.builder.specs.Built.{text_labels, text_parts, numbers_of}
use Rattle.builder.specs.Standing.{ExactlyFirstOfAll}
use Rattle.builder.specs.declared.summary.Summary.{Summary}
use Rattle.executable.specs.Check.{checked}
use Rattle.tasks.specs.declared.assembling.Assembled.{Assembled}
use Rattle.tasks.specs.declared.assembling.AssembleError.{AssembleError}
use Rattle.tasks.specs.declared.assembling.AssembleError.TheVariants.{Refused, Memory}
use Rattle.tasks.specs.declared.assembling.TheConstants.{LABEL_ENTRIES, LONGEST_EXECUTABLE}

-- an executable, and the labels of its text
pub record Made : Type 0 where
  pub bytes : List ℕ
  pub labels : List Label

-- what was assembled, or the question with a no and its line
abbrev pub made_of : text.Assembled → Result Made Refusal
made_of (text.good bytes ls) = Ok (record { bytes = bytes; labels = ls })
made_of (text.bad q n ls) = Err (refusal_at q n)

-- a text, with the label entries that are lent and an output for the longest executable
abbrev pub made : List ℕ → Result Made Refusal
made t = made_of (text.assembled t LABEL_ENTRIES LONGEST_EXECUTABLE)

-- the numbers of the parts that the lines of a text say, in so many bytes
abbrev pub numbers_in : List ℕ → ℕ → Summary
numbers_in t n = numbers_of n (text_parts t)

-- a text is assembled to these bytes with these numbers and these labels; the check accepts the bytes, with the parts that the lines of the text say, and the labels are those of the lines
pub record Makes (t bytes : List ℕ) (s : Summary) (ls : List Label) : Type 0 where
  pub made : made t ≡ Ok (record { bytes = bytes; labels = ls })
  pub accepted : checked bytes ≡ Ok (text_parts t)
  pub numbers : s ≡ numbers_in t (length bytes)
  pub labels : ls ≡ text_labels t

-- an answer tells the executable or the refusal, unless there is no memory
abbrev pub Assembles : List ℕ → Result Assembled AssembleError → Type 0
Assembles t (Ok a) = Makes t a.bytes.items a.summary a.labels.items
Assembles t (Err (Refused r)) = made t ≡ Err r
Assembles t (Err Memory) = Unit

-- a text is refused by a question and a line exactly where that question is the first of all with a no, on that line, unless there is no memory
abbrev pub RefusesFirst : List ℕ → Result Assembled AssembleError → Type 0
RefusesFirst t (Ok a) = ExactlyFirstOfAll t LABEL_ENTRIES LONGEST_EXECUTABLE (Ok a.summary)
RefusesFirst t (Err (Refused r)) = ExactlyFirstOfAll t LABEL_ENTRIES LONGEST_EXECUTABLE (Err r)
RefusesFirst t (Err Memory) = Unit

-- a question that is neither 3 nor 13
pub record NotByRoom (q : Question) : Type 0 where
  pub entries : q ≡ LabelRoom → ⊥
  pub output : q ≡ Output → ⊥

-- no answer is a refusal for want of room, of label entries or of output
abbrev pub HasRoom : Result Assembled AssembleError → Type 0
HasRoom (Ok a) = Unit
HasRoom (Err (Refused r)) = NotByRoom r.question
HasRoom (Err Memory) = Unit

-- a name and a number on a line, in front of more lines
abbrev pub fact_line : List ℕ → ℕ → List ℕ → List ℕ
fact_line name n more = name ++ (decimal n ++ 10 ∷ more)

-- the sizes in words, the addresses, the labels
abbrev pub fact_lines : Summary → ℕ → List ℕ
fact_lines s labels =
    fact_line (codes "code ") s.code
    (fact_line (codes "constants ") s.constants
    (fact_line (codes "first ") s.first
    (fact_line (codes "stack ") s.stack
    (fact_line (codes "labels ") labels []))))
