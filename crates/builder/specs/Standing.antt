-- What stands on the lines before one, said by these lines alone, and the law of a refusal over the lines.
use Rattle.std.specs.Prelude.{◌≡◌, ℕ, ◌-◌, ◌<◌, ◌≤◌, Bool, true, false, ◌&&◌, ◌||◌, not, List, [], ◌∷◌, length, map, take, filter, is_some, Some, None, Err, Option, Result, slice_index_or}
use Rattle.std.specs.List.{list_any}
use Rattle.lexer.specs.Text.{lines_of}
use Rattle.assembler.specs.Labels.{name_in}
use Rattle.assembler.specs.Assembled.{right_text, room_for}
use Rattle.assembler.specs.Emit.{lost_from}
use Rattle.assembler.specs.Lines.{Parts, named}
use Rattle.assembler.specs.Mnemonics.{is_code, is_constant, is_stack}
use Rattle.assembler.specs.Progress.{Progress}
use Rattle.assembler.specs.Questions.{asked, has_words, is, rank_of, refusal_at}
use Rattle.assembler.specs.declared.mnemonic.Mnemonic.{Mnemonic}
use Rattle.assembler.specs.declared.mnemonic.Mnemonic.TheVariants.{Command, Word, Uint32, Text, Stack, End}
use Rattle.assembler.specs.declared.question.Question.{Question}
use Rattle.assembler.specs.declared.question.Question.TheVariants as question
use Rattle.assembler.specs.declared.question.Refusal.{Refusal}
use Rattle.builder.specs.Built.{text_labels, labels_before}
use Rattle.builder.specs.Source.{line_parts, constants_in, stack_in}
use Rattle.builder.specs.declared.summary.Summary.{Summary}

-- some line has parts that pass a test
abbrev pub some_line : (Parts → Bool) → List (List ℕ) → Bool
some_line test lines = list_any (λ l. test (line_parts l)) lines

-- the word after the label is a name of some sort
abbrev pub names : (Mnemonic → Bool) → Parts → Bool
names sort l = is sort (named l.next)

-- `end` alone
abbrev pub is_end : Mnemonic → Bool
is_end (Command o) = false
is_end Word = false
is_end Uint32 = false
is_end Text = false
is_end Stack = false
is_end End = true

-- a label, a command, `word`, `uint32` or `string` stands on a line
abbrev pub begins : Parts → Bool
begins l = is_some l.label || (names is_code l || names is_constant l)

-- the last of some lines
abbrev pub last_of : List Parts → Option Parts
last_of [] = None
last_of (l ∷ []) = Some l
last_of (l ∷ m ∷ ls) = last_of (m ∷ ls)

-- the last of these lines that has any words
abbrev pub last_with_words : List (List ℕ) → Option Parts
last_with_words lines = last_of (filter has_words (map line_parts lines))

-- a line has a label and nothing after it
abbrev pub label_alone : Parts → Bool
label_alone l = is_some l.label && not (is_some l.next)

-- a label waits where the last line that has any words has a label and nothing after it
abbrev pub waits : Option Parts → Bool
waits None = false
waits (Some l) = label_alone l

-- what stands on some lines
abbrev pub standing_on : List (List ℕ) → Progress
standing_on lines = record {
  -- the last line that has any words has a label and nothing after it
  waiting = waits (last_with_words lines);
  -- some line has a label, a command, `word`, `uint32` or `string`
  begun = some_line begins lines;
  -- some line has `stack`
  stacked = some_line (names is_stack) lines;
  -- some line has `uint32` or `string`
  constants = some_line (names is_constant) lines;
  -- some line has `end`
  ended = some_line (names is_end) lines;
  -- a word of code for each line with a command or `word`
  code = length (filter (λ l. names is_code (line_parts l)) lines);
  -- the words of the constants on the lines
  pool = length (constants_in lines);
  -- the number after `stack`, and 1,048,575 where there is none
  stack = stack_in lines;
}

-- line n of a text, counted from 1
abbrev pub line_at : List ℕ → ℕ → List ℕ
line_at t n = slice_index_or (lines_of t) (n - 1) []

-- what stands on the lines before line n
abbrev pub standing_before : List ℕ → ℕ → Progress
standing_before t n = standing_on (take (n - 1) (lines_of t))

-- the answer of line n to a question, by the labels and by what stands on the lines before it
abbrev pub line_asked : List ℕ → ℕ → ℕ → Question → Bool
line_asked t cap n q = asked (name_in t) cap (labels_before t n) (standing_before t n) (line_parts (line_at t n)) q

-- every line before line n answers yes to every question
abbrev pub YesBefore : List ℕ → ℕ → ℕ → Type 0
YesBefore t cap n = (k : ℕ) (p : Question) → 1 ≤ k → k < n → line_asked t cap k p ≡ true

-- the text is right, and every line answers yes to every question
abbrev pub AllYes : List ℕ → ℕ → Type 0
AllYes t cap = (right_text t ≡ true) × ((k : ℕ) (p : Question) → 1 ≤ k → k ≤ length (lines_of t) → line_asked t cap k p ≡ true)

-- of a right text line n answers no to a question and yes to each that is asked before it, and every line before it yes to all
abbrev pub NoAt : List ℕ → ℕ → Question → ℕ → Type 0
NoAt t cap q n = (right_text t ≡ true) × (1 ≤ n) × (n ≤ length (lines_of t)) × (line_asked t cap n q ≡ false) × ((p : Question) → rank_of p < rank_of q → line_asked t cap n p ≡ true) × YesBefore t cap n

-- a question is the first of all with a no, and n is its line, or 0 where no line is the cause; 11, 12 and 13 come after all lines
abbrev pub FirstOfAll : List ℕ → ℕ → ℕ → Question → ℕ → Type 0
FirstOfAll t cap room question.Text n = (right_text t ≡ false) × (n ≡ 0)
FirstOfAll t cap room question.Label n = NoAt t cap question.Label n
FirstOfAll t cap room question.LabelRoom n = NoAt t cap question.LabelRoom n
FirstOfAll t cap room question.Waiting n = NoAt t cap question.Waiting n
FirstOfAll t cap room question.Name n = NoAt t cap question.Name n
FirstOfAll t cap room question.Order n = NoAt t cap question.Order n
FirstOfAll t cap room question.Count n = NoAt t cap question.Count n
FirstOfAll t cap room question.Form n = NoAt t cap question.Form n
FirstOfAll t cap room question.Range n = NoAt t cap question.Range n
FirstOfAll t cap room question.Words n = NoAt t cap question.Words n
FirstOfAll t cap room question.End n = AllYes t cap × (some_line (names is_end) (lines_of t) ≡ false) × (n ≡ 0)
FirstOfAll t cap room question.Defined n = AllYes t cap × (some_line (names is_end) (lines_of t) ≡ true) × (lost_from (name_in t) (text_labels t) 1 (lines_of t) ≡ Some n)
FirstOfAll t cap room question.Output n = AllYes t cap × (some_line (names is_end) (lines_of t) ≡ true) × (lost_from (name_in t) (text_labels t) 1 (lines_of t) ≡ None) × (room_for (standing_on (lines_of t)) room ≡ false) × (n ≡ 0)

-- an answer is a refusal by a question and a line exactly where that question is the first of all with a no, on that line
abbrev pub ExactlyFirstOfAll : List ℕ → ℕ → ℕ → Result Summary Refusal → Type 0
ExactlyFirstOfAll t cap room r = (q : Question) (n : ℕ) → (r ≡ Err (refusal_at q n) → FirstOfAll t cap room q n) × (FirstOfAll t cap room q n → r ≡ Err (refusal_at q n))
