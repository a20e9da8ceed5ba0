-- What a text is built to: the parts of its executable, and the labels that are left.
use Rattle.std.specs.Prelude.{ℕ, ◌-◌, ◌/◌, List, [], ◌++◌, length, take, drop, Ok, Err, Result}
use Rattle.std.specs.List.{flat_map}
use Rattle.executable.specs.Check.{Parts}
use Rattle.lexer.specs.Text.{lines_of}
use Rattle.assembler.specs.Labels.{name_in}
use Rattle.assembler.specs.Emit.{four_bytes, executable_of}
use Rattle.assembler.specs.declared.label.Label.{Label}
use Rattle.assembler.specs.declared.question.Question.{Question}
use Rattle.assembler.specs.declared.question.Question.TheVariants as question
use Rattle.assembler.specs.declared.question.Refusal.{Refusal}
use Rattle.builder.specs.Source.{code_in, constants_in, stack_in, start_in, labels_in}
use Rattle.builder.specs.declared.summary.Summary.{Summary}

-- the labels of a whole text
abbrev pub text_labels : List ℕ → List Label
text_labels t = labels_in 0 0 (lines_of t)

-- the code words of a whole text
abbrev pub text_code : List ℕ → List ℕ
text_code t = code_in (name_in t) (text_labels t) (lines_of t)

-- the constants of a whole text
abbrev pub text_constants : List ℕ → List ℕ
text_constants t = constants_in (lines_of t)

-- the first instruction of a whole text
abbrev pub text_start : List ℕ → ℕ
text_start t = start_in (name_in t) (text_labels t) (lines_of t)

-- the executable's parts: the code words of all lines, their constants, the address after `end`, the number after `stack`
abbrev pub text_parts : List ℕ → Parts
text_parts t = record {
  code = flat_map four_bytes (text_code t);
  constants = flat_map four_bytes (text_constants t);
  first = text_start t;
  stack = stack_in (lines_of t);
}

-- the executable of a text: a header with these numbers, the code words, the constants
abbrev pub text_executable : List ℕ → List ℕ
text_executable t = executable_of (length (text_code t)) (length (text_constants t)) (text_start t) (stack_in (lines_of t)) (text_code t ++ text_constants t)

-- the numbers of a text's executable
abbrev pub text_summary : List ℕ → Summary
text_summary t = record {
  length = length (text_executable t);
  code = length (text_code t);
  constants = length (text_constants t);
  first = text_start t;
  stack = stack_in (lines_of t);
}

-- the numbers of an executable, by its length and its parts; a word has 4 bytes
abbrev pub numbers_of : ℕ → Parts → Summary
numbers_of n p = record {
  length = n;
  code = length p.code / 4;
  constants = length p.constants / 4;
  first = p.first;
  stack = p.stack;
}

-- the answer: the length, and the numbers that the lines say
abbrev pub summary_of : List ℕ → Result ℕ Refusal → Result Summary Refusal
summary_of t (Ok n) = Ok (record {
  length = n;
  code = length (text_code t);
  constants = length (text_constants t);
  first = text_start t;
  stack = stack_in (lines_of t);
})
summary_of t (Err r) = Err r

-- the labels of the first n - 1 lines
abbrev pub labels_before : List ℕ → ℕ → List Label
labels_before t n = labels_in 0 0 (take (n - 1) (lines_of t))

-- the labels that a refusal by a question on line n leaves
abbrev pub labels_refused : List ℕ → Question → ℕ → List Label
labels_refused t question.Text n = []
labels_refused t question.Label n = labels_before t n
labels_refused t question.LabelRoom n = labels_before t n
labels_refused t question.Waiting n = labels_before t n
labels_refused t question.Name n = labels_before t n
labels_refused t question.Order n = labels_before t n
labels_refused t question.Count n = labels_before t n
labels_refused t question.Form n = labels_before t n
labels_refused t question.Range n = labels_before t n
labels_refused t question.Words n = labels_before t n
labels_refused t question.End n = text_labels t
labels_refused t question.Defined n = text_labels t
labels_refused t question.Output n = text_labels t

-- the labels that are left after an answer: a refusal cuts them off at its line
abbrev pub labels_left : List ℕ → Result ℕ Refusal → List Label
labels_left t (Ok n) = text_labels t
labels_left t (Err r) = labels_refused t r.question r.origin.line

-- the labels that are left with an answer
abbrev pub labels_with : List ℕ → Result Summary Refusal → List Label
labels_with t (Ok s) = text_labels t
labels_with t (Err r) = labels_refused t r.question r.origin.line

-- the output with an answer: the executable, and past it what was there; a refusal leaves all of it
abbrev pub output_with : List ℕ → Result Summary Refusal → List ℕ → List ℕ
output_with t (Ok s) out = text_executable t ++ drop (length (text_executable t)) out
output_with t (Err r) out = out
