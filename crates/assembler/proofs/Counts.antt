-- The first pass counts the words that the second puts.
use Rattle.std.proofs.Common.{◌≡◌, ℕ, ◌+◌, ◌*◌, ◌^◌, ◌<◌, ◌≤◌, true, List, [], ◌∷◌, ◌++◌, length, Some, None, Ok, Option, sym, refl, ap, ◌∙◌, subst, arith, length-append}
use Rattle.std.specs.List.{flat_map}
use Rattle.std.proofs.lemmas.Bool.{cond-true, le-leb}
use Rattle.lexer.specs.Text.{lines_of, words_of, code_of, blanks}
use Rattle.output.specs.Overlay.{Wrote}
use Rattle.output.proofs.Writes.{overlay_whole}
use Rattle.assembler.specs.Labels.{name_in}
use Rattle.assembler.specs.declared.label.Label.{Label}
use Rattle.assembler.specs.Progress.{Progress}
use Rattle.assembler.specs.declared.question.Question.{Question}
use Rattle.assembler.specs.Statements as said
use Rattle.assembler.specs.Statements.{Meant}
use Rattle.assembler.specs.Lines.{parts_of, statement_in}
use Rattle.assembler.specs.Questions.{refusal_in, code_words, data_words, string_words, after, labels_after}
use Rattle.assembler.specs.Emit.{put_by, string_constants, words_from, lost_from, start_from, four_bytes, header_of, executable_of}
use Rattle.assembler.specs.Assembled.{Outcome, passed, refused, on_line, run_from, fresh, good, right_text, executable_in, lastly, after_lines, assembled, answer_of, labels_of, output_of}

abbrev CountsO : Outcome → Progress → ℕ → Type 0
CountsO (passed ls q) pr k = q.code + q.pool ≡ pr.code + pr.pool + k
CountsO (refused q n ls) pr k = Unit {0}

on_line_counts : (n : ℕ) (ls : List Label) (o : Option Question) (next : Outcome) (pr : Progress) (k : ℕ) → CountsO next pr k → CountsO (on_line n ls o next) pr k
on_line_counts n ls (Some q) next pr k h = tt
on_line_counts n ls None next pr k h = h

string_words_counted : (o : Option (List ℕ)) → string_words o ≡ length (string_constants o)
string_words_counted None = refl
string_words_counted (Some cs) = sym (length-append cs (0 ∷ []))

module _ (t : List ℕ) (l : List Label) (cap : ℕ) where
  in_statement : (o : Option Meant) → code_words o + data_words o ≡ length (put_by (name_in t) l o)
  in_statement None = refl
  in_statement (Some (said.code w)) = refl
  in_statement (Some (said.labelled w m)) = refl
  in_statement (Some (said.constant n)) = refl
  in_statement (Some (said.text cs)) = omega (arith, string_words_counted cs)
  in_statement (Some (said.stack n)) = refl
  in_statement (Some (said.end n)) = refl
  in_statement (Some (said.end_at m)) = refl

  more : (o : Outcome) (pr q : Progress) (k n : ℕ) → q.code + q.pool ≡ pr.code + pr.pool + k → CountsO o q n → CountsO o pr (k + n)
  more (passed ls r) pr q k n e h = omega (arith, e, h)
  more (refused a b ls) pr q k n e h = tt

  pub run_counts : (lines : List (List ℕ)) (ls : List Label) (pr : Progress) (n p : ℕ) → CountsO (run_from (name_in t) cap ls pr n p lines) pr (length (words_from (name_in t) l lines))
  run_counts [] ls pr n p = omega arith
  run_counts (line ∷ lines) ls pr n p =
      let parts = parts_of (words_of line) in
      let st = statement_in parts in
      let next = run_from (name_in t) cap (labels_after (p + blanks (code_of line)) ls pr parts.label) (after pr parts) (n + 1) (p + length line + 1) lines in
      let e : (after pr parts).code + (after pr parts).pool ≡ pr.code + pr.pool + length (put_by (name_in t) l st) = omega (arith, in_statement st) in
      let h = more next pr (after pr parts) (length (put_by (name_in t) l st)) (length (words_from (name_in t) l lines)) e (run_counts lines _ (after pr parts) (n + 1) (p + length line + 1)) in
      on_line_counts n ls (refusal_in (name_in t) cap ls pr parts) next pr (length (put_by (name_in t) l st ++ words_from (name_in t) l lines)) (subst (CountsO next pr) (sym (length-append (put_by (name_in t) l st) (words_from (name_in t) l lines))) h)

  pub counts : (ls : List Label) (pr : Progress) → passed ls pr ≡ run_from (name_in t) cap [] fresh 1 0 (lines_of t) → pr.code + pr.pool ≡ length (words_from (name_in t) l (lines_of t))
  counts ls pr told = let k : pr.code + pr.pool ≡ 0 + length (words_from (name_in t) l (lines_of t)) = subst (λ o. CountsO o fresh (length (words_from (name_in t) l (lines_of t)))) (sym told) (run_counts (lines_of t) [] fresh 1 0) in omega arith

quads : (ws : List ℕ) → length (flat_map four_bytes ws) ≡ 4 * length ws
quads [] = refl
quads (w ∷ ws) = let more = quads ws in omega (arith, length-append (four_bytes w) (flat_map four_bytes ws))

pub executable_length : (a b c d : ℕ) (ws : List ℕ) → length (executable_of a b c d ws) ≡ 512 + 4 * length ws
executable_length a b c d ws = let q = quads ws in omega (arith, length-append (header_of a b c d) (flat_map four_bytes ws))

-- what the call answers and leaves where the executable is written
module _ (t : List ℕ) (cap : ℕ) (ls : List Label) (pr : Progress) (told : passed ls pr ≡ run_from (name_in t) cap [] fresh 1 0 (lines_of t)) (right : right_text t ≡ true) (ended : pr.ended ≡ true) where
  ends : (room : ℕ) → None ≡ lost_from (name_in t) ls 1 (lines_of t) → 512 + 4 * (pr.code + pr.pool) ≤ room → assembled t cap room ≡ good (executable_in t ls pr) ls
  ends room found h =
      cond-true _ _ _ right ∙ sym (ap (after_lines t room) told) ∙ cond-true _ _ _ ended ∙ sym (ap (lastly t room ls pr) found) ∙ cond-true _ _ _ (le-leb (512 + 4 * (pr.code + pr.pool)) room h)

  pub done : (out result : List ℕ) (r : ℕ) (ls₁ ls₂ : List Label) → ls₁ ≡ ls → ls₂ ≡ ls → None ≡ lost_from (name_in t) ls₁ 1 (lines_of t) → 512 + 4 * (pr.code + pr.pool) ≤ length out → length out < 2 ^ 64 → Wrote out 0 (executable_in t ls₂ pr) r result
      → (Ok r ≡ answer_of (assembled t cap (length out))) × (ls ≡ labels_of (assembled t cap (length out))) × (result ≡ output_of (assembled t cap (length out)) out)
  done out result r ls₁ ls₂ e₁ e₂ found h small w =
      let bytes = executable_in t ls pr in
      let is : assembled t cap (length out) ≡ good bytes ls = ends (length out) (found ∙ ap (λ x. lost_from (name_in t) x 1 (lines_of t)) e₁) h in
      let wrote : Wrote out 0 bytes r result = subst (λ x. Wrote out 0 (executable_in t x pr) r result) e₂ w in
      let long : length bytes ≡ 512 + 4 * (pr.code + pr.pool) = executable_length pr.code pr.pool (start_from (name_in t) ls (lines_of t)) pr.stack (words_from (name_in t) ls (lines_of t)) ∙ ap (λ k. 512 + 4 * k) (sym (counts t ls cap ls pr told)) in
      let r' : r ≡ length bytes = omega (arith, wrote.ends) in (
        ap Ok r' ∙ sym (ap answer_of is),
        sym (ap labels_of is),
        wrote.laid ∙ overlay_whole out bytes (omega arith) ∙ sym (ap (λ a. output_of a out) is),
      )
