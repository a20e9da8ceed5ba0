-- A search among the rows of the code's table finds the row of the question.
use Rattle.std.proofs.Common.{◌≡◌, ℕ, Bool, true, false, cond, ◌==◌, List, [], ◌∷◌, map, Some, None, Option, Bor, refl, ap, ◌∙◌}
use Rattle.std.specs.List.{find}
use Rattle.std.specs.Option.{option_map}
use Rattle.sentences.specs.Questions.{questions, numbers, sentence_of, question_text}
use Rattle.sentences.specs.Rows.{question_in}
use Rattle.sentences.specs.declared.question.Row.{Row}

-- the sentence of a row that was found
abbrev pub sentence_in : Option (Bor Row) → List ℕ
sentence_in r = sentence_of (option_map (λ q. question_in q.now) r)

of_choice : (b : Bool) (r : Row) (x : Option Row) → option_map question_in (cond b (Some r) x) ≡ cond b (Some (question_in r)) (option_map question_in x)
of_choice true r x = refl
of_choice false r x = refl

-- the first row with a number has the first question with it
first_row : (n : ℕ) (rows : List Row) → option_map question_in (find (λ r. r.0 == n) rows) ≡ find (λ q. q.number == n) (map question_in rows)
first_row n [] = refl
first_row n (r ∷ rows) = of_choice (r.0 == n) r _ ∙ ap (λ x. cond (r.0 == n) (Some (question_in r)) x) (first_row n rows)

-- to read the question of what is lent is to read it first
read_first : (r : Option (Bor Row)) → option_map (λ q. question_in q.now) r ≡ option_map question_in (option_map (λ q. q.now) r)
read_first None = refl
read_first (Some q) = refl

-- what was found has the question's sentence
pub found : (n : ℕ) (rows : List Row) (r : Option (Bor Row)) → map question_in rows ≡ questions → option_map (λ q. q.now) r ≡ find (λ q. q.0 == n) rows → sentence_in r ≡ question_text n
found n rows r all is =
    ap sentence_of (read_first r ∙ ap (option_map question_in) is ∙ first_row n rows ∙ ap (find (λ q. q.number == n)) all)

map_numbers : (rows : List Row) → map (λ r. r.0) rows ≡ map (λ q. q.number) (map question_in rows)
map_numbers [] = refl
map_numbers (r ∷ rows) = ap (λ ns. r.0 ∷ ns) (map_numbers rows)

-- the rows have the questions' numbers
pub numbers_in : (rows : List Row) → map question_in rows ≡ questions → map (λ r. r.0) rows ≡ numbers
numbers_in rows all = map_numbers rows ∙ ap (map (λ q. q.number)) all
