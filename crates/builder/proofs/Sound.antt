-- What assembling a text gives is what its lines say.
use Rattle.std.proofs.Common.{◌≡◌, ℕ, ◌+◌, ◌≤◌, List, [], ◌++◌, length, Some, None, Ok, Option, refl, ap, ◌∙◌, arith}
use Rattle.std.proofs.lemmas.Bool.{cond_both}
use Rattle.executable.specs.Check.{checked}
use Rattle.lexer.specs.Text.{lines_of}
use Rattle.assembler.specs.Labels.{name_in}
use Rattle.assembler.specs.Assembled.{Outcome, passed, refused, run_from, fresh, Assembled, good, bad, right_text, room_for, executable_in, lastly, after_lines, assembled}
use Rattle.assembler.specs.Emit.{words_from, lost_from, start_from, executable_of}
use Rattle.assembler.specs.declared.label.Label.{Label}
use Rattle.assembler.specs.Progress.{Progress}
use Rattle.assembler.specs.declared.question.Question.TheVariants as question
use Rattle.builder.specs.Built.{text_labels, text_parts, text_executable, labels_refused}
use Rattle.builder.specs.Source.{code_in, constants_in, stack_in, start_in}
use Rattle.builder.proofs.Header.{header_checked}
use Rattle.builder.proofs.Labels.{all_labels, refused_labels}
use Rattle.builder.proofs.Ran.{Ran, ran}

-- the labels are those of the lines, and the executable is that of the lines and is accepted with the parts that they say
abbrev pub Sound : List ℕ → Assembled → Type 0
Sound t (good bytes ls) = (ls ≡ text_labels t) × (checked bytes ≡ Ok (text_parts t)) × (bytes ≡ text_executable t)
Sound t (bad q n ls) = ls ≡ labels_refused t q n

-- a text whose lines pass
module _ (t : List ℕ) (cap : ℕ) (ls : List Label) (pr : Progress) (e : run_from (name_in t) cap [] fresh 1 0 (lines_of t) ≡ passed ls pr) where
  abbrev code : List ℕ
  code = code_in (name_in t) (text_labels t) (lines_of t)

  abbrev constants : List ℕ
  constants = constants_in (lines_of t)

  lines : Ran t (text_labels t) fresh pr (lines_of t)
  lines = ran t (text_labels t) cap (lines_of t) [] ls fresh pr 1 0 e

  code_is : pr.code ≡ length code
  code_is = let h = lines.code in omega arith

  pool_is : pr.pool ≡ length constants
  pool_is = let h = lines.pool in omega arith

  executable_is : executable_in t ls pr ≡ executable_of (length code) (length constants) (start_in (name_in t) (text_labels t) (lines_of t)) (stack_in (lines_of t)) (code ++ constants)
  executable_is =
      ap (λ x. executable_in t x pr) (all_labels t cap ls pr e)
      ∙ ap (λ x. executable_of x pr.pool (start_from (name_in t) (text_labels t) (lines_of t)) pr.stack (words_from (name_in t) (text_labels t) (lines_of t))) code_is
      ∙ ap (λ x. executable_of (length code) x (start_from (name_in t) (text_labels t) (lines_of t)) pr.stack (words_from (name_in t) (text_labels t) (lines_of t))) pool_is
      ∙ ap (λ x. executable_of (length code) (length constants) x pr.stack (words_from (name_in t) (text_labels t) (lines_of t))) lines.start
      ∙ ap (λ x. executable_of (length code) (length constants) (start_in (name_in t) (text_labels t) (lines_of t)) x (words_from (name_in t) (text_labels t) (lines_of t))) (lines.stack refl refl)
      ∙ ap (executable_of (length code) (length constants) (start_in (name_in t) (text_labels t) (lines_of t)) (stack_in (lines_of t))) lines.words

  few : length code + length constants ≤ 65536
  few = let h = lines.few (omega arith) in let a = code_is in let b = pool_is in omega arith

  executable_checked : checked (executable_in t ls pr) ≡ Ok (text_parts t)
  executable_checked = ap checked executable_is ∙ header_checked code constants (start_in (name_in t) (text_labels t) (lines_of t)) (stack_in (lines_of t)) few (lines.first (lines.low 0 (omega arith))) lines.pointer

  sound_last : (room : ℕ) (o : Option ℕ) → Sound t (lastly t room ls pr o)
  sound_last room (Some n) = all_labels t cap ls pr e
  sound_last room None = cond_both (room_for pr room) (good (executable_in t ls pr) ls) (bad question.Output 0 ls) (Sound t) (λ yes. (all_labels t cap ls pr e, executable_checked, executable_is)) (λ no. all_labels t cap ls pr e)

sound_lines : (t : List ℕ) (cap room : ℕ) (o : Outcome) → run_from (name_in t) cap [] fresh 1 0 (lines_of t) ≡ o → Sound t (after_lines t room o)
sound_lines t cap room (refused q n ls) e = refused_labels t cap q n ls e
sound_lines t cap room (passed ls pr) e =
    cond_both pr.ended (lastly t room ls pr (lost_from (name_in t) ls 1 (lines_of t))) (bad question.End 0 ls) (Sound t) (λ yes. sound_last t cap ls pr e room (lost_from (name_in t) ls 1 (lines_of t))) (λ no. all_labels t cap ls pr e)

pub sound : (t : List ℕ) (cap room : ℕ) → Sound t (assembled t cap room)
sound t cap room = cond_both (right_text t) (after_lines t room (run_from (name_in t) cap [] fresh 1 0 (lines_of t))) (bad question.Text 0 []) (Sound t) (λ yes. sound_lines t cap room (run_from (name_in t) cap [] fresh 1 0 (lines_of t)) refl) (λ no. refl)
