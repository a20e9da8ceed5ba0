-- Lines by their numbers, places and code.
use Rattle.std.proofs.Common.{◌≡◌, ℕ, ◌+◌, cond, List, [], ◌∷◌, ◌++◌, length, Some, None, Option, refl, ap}
use Rattle.lexer.specs.Text.{CodeLine, code_line, code_of, blanks, code_words, numbered}
use Rattle.assembler.specs.Labels.{name_in}
use Rattle.assembler.specs.Assembled.{Outcome, passed, on_line, run_from}
use Rattle.assembler.specs.Emit.{is_lost, lost_from, put_by, start_by, start_from, uses, words_from}
use Rattle.assembler.specs.Lines.{parts_of, statement_in}
use Rattle.assembler.specs.Progress.{Progress}
use Rattle.assembler.specs.Questions.{after, labels_after, refusal_in}
use Rattle.assembler.specs.Statements.{Meant}
use Rattle.assembler.specs.declared.label.Label.{Label}

-- the statement of a line
abbrev pub says : CodeLine → Option Meant
says l = statement_in (parts_of (code_words l.code))

module _ (t : List ℕ) (ls : List Label) where
  abbrev pub lost_in_lines : List CodeLine → Option ℕ
  lost_in_lines [] = None
  lost_in_lines (l ∷ lines) = cond (is_lost (name_in t) ls (uses (says l))) (Some l.number) (lost_in_lines lines)

  abbrev pub start_in_lines : List CodeLine → ℕ
  start_in_lines [] = 0
  start_in_lines (l ∷ lines) = start_by (name_in t) ls (says l) (start_in_lines lines)

  abbrev pub words_in_lines : List CodeLine → List ℕ
  words_in_lines [] = []
  words_in_lines (l ∷ lines) = put_by (name_in t) ls (says l) ++ words_in_lines lines

  pub lost_is : (n p : ℕ) (lines : List (List ℕ)) → lost_in_lines (numbered n p lines) ≡ lost_from (name_in t) ls n lines
  lost_is n p [] = refl
  lost_is n p (l ∷ lines) = ap (λ r. cond (is_lost (name_in t) ls (uses (says (code_line n p l)))) (Some n) r) (lost_is (n + 1) (p + length l + 1) lines)

  pub start_is : (n p : ℕ) (lines : List (List ℕ)) → start_in_lines (numbered n p lines) ≡ start_from (name_in t) ls lines
  start_is n p [] = refl
  start_is n p (l ∷ lines) = ap (start_by (name_in t) ls (says (code_line n p l))) (start_is (n + 1) (p + length l + 1) lines)

  pub words_are : (n p : ℕ) (lines : List (List ℕ)) → words_in_lines (numbered n p lines) ≡ words_from (name_in t) ls lines
  words_are n p [] = refl
  words_are n p (l ∷ lines) = ap (λ r. put_by (name_in t) ls (says (code_line n p l)) ++ r) (words_are (n + 1) (p + length l + 1) lines)

-- the lines that are left, as the first pass goes through them
abbrev pub run_in_lines : List ℕ → ℕ → List Label → Progress → List CodeLine → Outcome
run_in_lines t cap ls pr [] = passed ls pr
run_in_lines t cap ls pr (l ∷ lines) =
    let parts = parts_of (code_words l.code) in
    on_line l.number ls (refusal_in (name_in t) cap ls pr parts) (run_in_lines t cap (labels_after (l.place + blanks l.code) ls pr parts.label) (after pr parts) lines)

pub run_is : (t : List ℕ) (cap : ℕ) (ls : List Label) (pr : Progress) (n p : ℕ) (lines : List (List ℕ)) → run_in_lines t cap ls pr (numbered n p lines) ≡ run_from (name_in t) cap ls pr n p lines
run_is t cap ls pr n p [] = refl
run_is t cap ls pr n p (l ∷ lines) =
    let parts = parts_of (code_words (code_of l)) in
    ap (on_line n ls (refusal_in (name_in t) cap ls pr parts)) (run_is t cap (labels_after (p + blanks (code_of l)) ls pr parts.label) (after pr parts) (n + 1) (p + length l + 1) lines)
