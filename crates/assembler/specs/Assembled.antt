-- What a text assembles to.
use Rattle.std.specs.Prelude.{ℕ, ◌+◌, ◌*◌, Bool, false, cond, ◌&&◌, ◌||◌, List, [], ◌∷◌, ◌++◌, length, drop, Some, None, Ok, Err, Option, Result, ◌==◌, nat_le}
use Rattle.std.specs.List.{list_all}
use Rattle.lexer.specs.Text.{lines_of, words_of, code_of, blanks}
use Rattle.assembler.specs.Labels.{Names, name_in}
use Rattle.assembler.specs.Emit.{words_from, lost_from, start_from, executable_of}
use Rattle.assembler.specs.Lines.{parts_of}
use Rattle.assembler.specs.Questions.{refusal_in, labels_after, after, refusal_at}
use Rattle.assembler.specs.declared.label.Label.{Label}
use Rattle.assembler.specs.Progress.{Progress, progress_of}
use Rattle.assembler.specs.declared.progress.Progress as rust
use Rattle.assembler.specs.declared.question.Question.{Question}
use Rattle.assembler.specs.declared.question.Question.TheVariants as question
use Rattle.assembler.specs.declared.question.Refusal.{Refusal}

-- a byte of a text: a tab (9), a line end (10) or a printing character (32 to 126)
abbrev pub text_byte : ℕ → Bool
text_byte b = b == 9 || (b == 10 || (nat_le 32 b && nat_le b 126))

-- every byte may stand in a text
abbrev pub all_text_bytes : List ℕ → Bool
all_text_bytes = list_all text_byte

-- 1: is the text no longer than 2,097,152 bytes, and may each of them stand in it?
abbrev pub right_text : List ℕ → Bool
right_text t = nat_le (length t) 2097152 && all_text_bytes t

-- before the first line nothing has come, and the initial stack pointer is 1,048,575
abbrev pub fresh : Progress
fresh = record { waiting = false; begun = false; stacked = false; constants = false; ended = false; code = 0; pool = 0; stack = 1048575 }

-- how the lines come out: with the labels and the progress at the end, or refused on a line with the labels before it
pub data Outcome : Type 0 where
  passed : List Label → Progress → Outcome
  refused : Question → ℕ → List Label → Outcome

-- the labels, and one more if there is one
abbrev pub entered : List Label → Option Label → List Label
entered ls None = ls
entered ls (Some x) = ls ++ x ∷ []

-- what the first pass answers, with the labels that it leaves
abbrev pub outcome : Result rust.Progress Refusal → List Label → Outcome
outcome (Ok pr) ls = passed ls (progress_of pr)
outcome (Err r) ls = refused r.question r.origin.line ls

-- a line with a no ends the lines, with the question, the line's number and the labels before it; else they go on
abbrev pub on_line : ℕ → List Label → Option Question → Outcome → Outcome
on_line n ls (Some q) next = refused q n ls
on_line n ls None next = next

-- the lines from number n and place p on
abbrev pub run_from : Names → ℕ → List Label → Progress → ℕ → ℕ → List (List ℕ) → Outcome
run_from names cap ls pr n p [] = passed ls pr
run_from names cap ls pr n p (l ∷ rest) =
    let parts = parts_of (words_of l) in
    on_line n ls (refusal_in names cap ls pr parts) (run_from names cap (labels_after (p + blanks (code_of l)) ls pr parts.label) (after pr parts) (n + 1) (p + length l + 1) rest)

-- how assembling ends: with the executable, or a question and a line; and with the labels after it
pub data Assembled : Type 0 where
  good : List ℕ → List Label → Assembled
  bad : Question → ℕ → List Label → Assembled

-- 13: does the executable fit into the output?
abbrev pub room_for : Progress → ℕ → Bool
room_for pr room = nat_le (512 + 4 * (pr.code + pr.pool)) room

-- the executable of lines that passed: the sizes that were counted, the address after `end`, the stack pointer, the words in the order of the lines
abbrev pub executable_in : List ℕ → List Label → Progress → List ℕ
executable_in t ls pr = executable_of pr.code pr.pool (start_from (name_in t) ls (lines_of t)) pr.stack (words_from (name_in t) ls (lines_of t))

-- 12 is asked before 13; its line is that of the first use
abbrev pub lastly : List ℕ → ℕ → List Label → Progress → Option ℕ → Assembled
lastly t room ls pr (Some n) = bad question.Defined n ls
lastly t room ls pr None = cond (room_for pr room) (good (executable_in t ls pr) ls) (bad question.Output 0 ls)

-- 11 comes after the last line, before 12 and 13
abbrev pub after_lines : List ℕ → ℕ → Outcome → Assembled
after_lines t room (refused q n ls) = bad q n ls
after_lines t room (passed ls pr) = cond pr.ended (lastly t room ls pr (lost_from (name_in t) ls 1 (lines_of t))) (bad question.End 0 ls)

-- a text, with so many label entries and so much output
abbrev pub assembled : List ℕ → ℕ → ℕ → Assembled
assembled t cap room = cond (right_text t) (after_lines t room (run_from (name_in t) cap [] fresh 1 0 (lines_of t))) (bad question.Text 0 [])

-- what the call answers: the executable's length, or the question and its line
abbrev pub answer_of : Assembled → Result ℕ Refusal
answer_of (good bytes ls) = Ok (length bytes)
answer_of (bad q n ls) = Err (refusal_at q n)

-- the label list afterwards
abbrev pub labels_of : Assembled → List Label
labels_of (good bytes ls) = ls
labels_of (bad q n ls) = ls

-- the output afterwards: the executable, and past it what was there; a refusal leaves all of it
abbrev pub output_of : Assembled → List ℕ → List ℕ
output_of (good bytes ls) out = bytes ++ drop (length bytes) out
output_of (bad q n ls) out = out
