-- The questions that each line is asked, and what a line does to the progress and the labels.
use Rattle.std.specs.Prelude.{ℕ, ◌+◌, Bool, true, false, cond, not, ◌&&◌, ◌||◌, List, [], ◌∷◌, ◌++◌, length, is_some, Some, None, Ok, Err, Option, Result, nat_le, nat_lt}
use Rattle.lexer.specs.Shown.{Shown}
use Rattle.assembler.specs.Labels.{usable, address_in, place_at, Names, name_in}
use Rattle.assembler.specs.Lines.{Parts, named, statement_in}
use Rattle.assembler.specs.Mnemonics.{is_directive, is_code, is_constant, is_stack}
use Rattle.assembler.specs.Operands.{right_count, right_form, right_range}
use Rattle.assembler.specs.Progress.{Progress, Judged}
use Rattle.assembler.specs.Statements as said
use Rattle.assembler.specs.Statements.{Meant}
use Rattle.assembler.specs.declared.label.Label.{Label}
use Rattle.assembler.specs.declared.mnemonic.Mnemonic.{Mnemonic}
use Rattle.assembler.specs.declared.question.Question.{Question}
use Rattle.assembler.specs.declared.question.Question.TheVariants as question
use Rattle.assembler.specs.declared.question.Origin.{Origin}
use Rattle.assembler.specs.declared.question.Refusal.{Refusal}

-- the number by which a refusal is told
abbrev pub number_of : Question → ℕ
number_of question.Text = 1
number_of question.Label = 2
number_of question.LabelRoom = 3
number_of question.Waiting = 4
number_of question.Name = 5
number_of question.Order = 6
number_of question.Count = 7
number_of question.Form = 8
number_of question.Range = 9
number_of question.Words = 10
number_of question.End = 11
number_of question.Defined = 12
number_of question.Output = 13

-- the place of each question in the order in which they are asked, counted from 0
abbrev pub rank_of : Question → ℕ
rank_of question.Text = 0
rank_of question.Label = 1
rank_of question.LabelRoom = 2
rank_of question.Waiting = 3
rank_of question.Name = 4
rank_of question.Order = 5
rank_of question.Count = 6
rank_of question.Form = 7
rank_of question.Range = 8
rank_of question.Words = 9
rank_of question.End = 10
rank_of question.Defined = 11
rank_of question.Output = 12

-- where a text is refused: on line n, or on no line where n is 0
abbrev pub origin_at : ℕ → Origin
origin_at n = record { line = n }

-- the refusal by a question and a line
abbrev pub refusal_at : Question → ℕ → Refusal
refusal_at q n = record { question = q; origin = origin_at n }

-- what a test says of a mnemonic, if there is one
abbrev pub is : (Mnemonic → Bool) → Option Mnemonic → Bool
is test None = false
is test (Some m) = test m

-- how many code words and constant words a statement has
abbrev pub code_words : Option Meant → ℕ
code_words None = 0
code_words (Some (said.code w)) = 1
code_words (Some (said.labelled w l)) = 1
code_words (Some (said.constant n)) = 0
code_words (Some (said.text cs)) = 0
code_words (Some (said.stack n)) = 0
code_words (Some (said.end n)) = 0
code_words (Some (said.end_at l)) = 0

-- a string has as many words as characters, and one more, which is 0
abbrev pub string_words : Option (List ℕ) → ℕ
string_words None = 0
string_words (Some cs) = length cs + 1

-- of constants: one for `uint32`, as many as a string has for `string`
abbrev pub data_words : Option Meant → ℕ
data_words None = 0
data_words (Some (said.code w)) = 0
data_words (Some (said.labelled w l)) = 0
data_words (Some (said.constant n)) = 1
data_words (Some (said.text cs)) = string_words cs
data_words (Some (said.stack n)) = 0
data_words (Some (said.end n)) = 0
data_words (Some (said.end_at l)) = 0

-- 2: may the label have its name, which no earlier line gave?
abbrev pub right_label : Names → List Label → Option (List ℕ) → Bool
right_label names ls None = true
right_label names ls (Some w) = usable w && not (is_some (address_in names w ls))

-- 3: is the label list not yet full?
abbrev pub label_room : ℕ → List Label → Option (List ℕ) → Bool
label_room cap ls None = true
label_room cap ls (Some w) = nat_lt (length ls) cap

-- 4: does a waiting label, also one of this line, get a command or constant before the next label or directive?
abbrev pub followed_by : Progress → Bool → Option Mnemonic → Bool
followed_by pr labelled m = not (pr.waiting && labelled) && not ((pr.waiting || labelled) && is is_directive m)

-- 4, of a line in its parts
abbrev pub followed : Progress → Parts → Bool
followed pr l = followed_by pr (is_some l.label) (named l.next)

-- 5: is the word after the label, where there is one, a known one?
abbrev pub known : Parts → Bool
known l = not (is_some l.next) || is_some (named l.next)

-- a line with words
abbrev pub has_words : Parts → Bool
has_words l = is_some l.label || is_some l.next

-- 6: at most one `stack`, ahead of labels, commands and constants; code ahead of `uint32` and `string`; no words behind `end`
abbrev pub orderly : Progress → Bool → Option Mnemonic → Bool
orderly pr words m = not (pr.ended && words) && (not (is is_stack m && (pr.begun || pr.stacked)) && not (is is_code m && pr.constants))

-- 6, of a line in its parts
abbrev pub in_order : Progress → Parts → Bool
in_order pr l = orderly pr (has_words l) (named l.next)

-- 7, 8 and 9, of a line that has a mnemonic
abbrev pub of_operands : (Mnemonic → List Shown → Bool) → Parts → Option Mnemonic → Bool
of_operands test l None = true
of_operands test l (Some m) = test m l.operands

-- 10: do the lines up to this one give no more than 65,536 words?
abbrev pub few_with : Progress → Option Meant → Bool
few_with pr m = nat_le (pr.code + pr.pool + (code_words m + data_words m)) 65536

-- 10, of a line in its parts
abbrev pub few_words : Progress → Parts → Bool
few_words pr l = few_with pr (statement_in l)

-- the answer of a line to each question
abbrev pub asked : Names → ℕ → List Label → Progress → Parts → Question → Bool
asked names cap ls pr l question.Text = true
asked names cap ls pr l question.Label = right_label names ls l.label
asked names cap ls pr l question.LabelRoom = label_room cap ls l.label
asked names cap ls pr l question.Waiting = followed pr l
asked names cap ls pr l question.Name = known l
asked names cap ls pr l question.Order = in_order pr l
asked names cap ls pr l question.Count = of_operands right_count l (named l.next)
asked names cap ls pr l question.Form = of_operands right_form l (named l.next)
asked names cap ls pr l question.Range = of_operands right_range l (named l.next)
asked names cap ls pr l question.Words = few_words pr l
asked names cap ls pr l question.End = true
asked names cap ls pr l question.Defined = true
asked names cap ls pr l question.Output = true

-- the questions of a line, in their order
abbrev pub line_questions : List Question
line_questions = question.Label ∷ question.LabelRoom ∷ question.Waiting ∷ question.Name ∷ question.Order ∷ question.Count ∷ question.Form ∷ question.Range ∷ question.Words ∷ []

-- the first question with a no
abbrev pub first_no : (Question → Bool) → List Question → Option Question
first_no answer [] = None
first_no answer (q ∷ qs) = cond (answer q) (first_no answer qs) (Some q)

-- the question that refuses a line, if one does
abbrev pub refusal_in : Names → ℕ → List Label → Progress → Parts → Option Question
refusal_in names cap ls pr l = first_no (asked names cap ls pr l) line_questions

-- the entry of a label whose line begins with it at a place: its address counts the words up to it
abbrev pub entry_of : ℕ → Progress → List ℕ → Label
entry_of p pr w = record { place = place_at p; length = length w; address = pr.code + pr.pool }

-- the label of a line is entered behind those before it
abbrev pub labels_after : ℕ → List Label → Progress → Option (List ℕ) → List Label
labels_after p ls pr None = ls
labels_after p ls pr (Some w) = ls ++ entry_of p pr w ∷ []

-- the stack pointer that a statement sets
abbrev pub stack_after : ℕ → Option Meant → ℕ
stack_after n None = n
stack_after n (Some (said.code w)) = n
stack_after n (Some (said.labelled w l)) = n
stack_after n (Some (said.constant k)) = n
stack_after n (Some (said.text cs)) = n
stack_after n (Some (said.stack k)) = k
stack_after n (Some (said.end k)) = n
stack_after n (Some (said.end_at l)) = n

-- the stack pointer that a statement sets, if it sets one
abbrev pub stack_in : Option Meant → Option ℕ
stack_in None = None
stack_in (Some (said.code w)) = None
stack_in (Some (said.labelled w l)) = None
stack_in (Some (said.constant k)) = None
stack_in (Some (said.text cs)) = None
stack_in (Some (said.stack k)) = Some k
stack_in (Some (said.end k)) = None
stack_in (Some (said.end_at l)) = None

-- `end`, with an address or a label
abbrev pub is_end : Option Meant → Bool
is_end None = false
is_end (Some (said.code w)) = false
is_end (Some (said.labelled w l)) = false
is_end (Some (said.constant k)) = false
is_end (Some (said.text cs)) = false
is_end (Some (said.stack k)) = false
is_end (Some (said.end k)) = true
is_end (Some (said.end_at l)) = true

-- the progress after a line with a label or none, a next word or none, its mnemonic and its statement
abbrev pub after_by : Progress → Bool → Bool → Option Mnemonic → Option Meant → Progress
after_by pr labelled next m st = record {
  waiting = not next && (pr.waiting || labelled);
  begun = pr.begun || (labelled || (is is_code m || is is_constant m));
  stacked = pr.stacked || is is_stack m;
  constants = pr.constants || is is_constant m;
  ended = pr.ended || is_end st;
  code = pr.code + code_words st;
  pool = pr.pool + data_words st;
  stack = stack_after pr.stack st;
}

-- the progress after a line in its parts
abbrev pub after : Progress → Parts → Progress
after pr l = after_by pr (is_some l.label) (is_some l.next) (named l.next) (statement_in l)

-- the questions about what follows the label
abbrev pub body_questions : List Question
body_questions = question.Waiting ∷ question.Name ∷ question.Order ∷ question.Count ∷ question.Form ∷ question.Range ∷ question.Words ∷ []

-- the first of them with a no; they ask nothing of the text, of the labels and of their maximum
abbrev pub body_refusal : Progress → Parts → Option Question
body_refusal pr l = first_no (asked (name_in []) 0 [] pr l) body_questions

-- the progress after a line, or the refusal
abbrev pub or_refused : {X : Type 0} → X → Option Question → Result X Question
or_refused x None = Ok x
or_refused x (Some q) = Err q

-- the progress after what follows the label, or the refusal
abbrev pub body_of : Progress → Parts → Result Progress Question
body_of pr l = or_refused (after pr l) (body_refusal pr l)

-- questions 2 and 3
abbrev pub label_refusal : Names → ℕ → List Label → List ℕ → Option Question
label_refusal names cap ls w = cond (right_label names ls (Some w)) (cond (label_room cap ls (Some w)) None (Some question.LabelRoom)) (Some question.Label)

-- what a line adds: its label's entry, and the progress after it
abbrev pub entries_of : ℕ → Progress → Option (List ℕ) → Option Label
entries_of p pr None = None
entries_of p pr (Some w) = Some (entry_of p pr w)

-- the entry and the progress that a line leaves
abbrev pub judged_of : ℕ → Progress → Parts → Judged
judged_of p pr l = record { label = entries_of p pr l.label; progress = after pr l }

-- what a line adds, or the question that refuses it
abbrev pub judge_of : Names → ℕ → List Label → Progress → ℕ → Parts → Result Judged Question
judge_of names cap ls pr p l = or_refused (judged_of p pr l) (refusal_in names cap ls pr l)
