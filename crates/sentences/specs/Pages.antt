-- The lines that tell a refusal, and those that tell all questions. Byte 10 ends each.
use Rattle.std.specs.Prelude.{ℕ, List, [], ◌∷◌, ◌++◌, codes, decimal}
use Rattle.std.specs.List.{flat_map}
use Rattle.sentences.specs.Questions.{numbers, question_text}

-- question N got a no: SENTENCE
abbrev pub no_line : ℕ → List ℕ
no_line n = codes "question " ++ (decimal n ++ (codes " got a no: " ++ (question_text n ++ 10 ∷ [])))

-- refused N, and the question
abbrev pub refusal_page : ℕ → List ℕ
refusal_page n = codes "refused " ++ (decimal n ++ (10 ∷ no_line n))

-- refused N line L, and the question
abbrev pub line_refusal_page : ℕ → ℕ → List ℕ
line_refusal_page n l = codes "refused " ++ (decimal n ++ (codes " line " ++ (decimal l ++ (10 ∷ no_line n))))

-- N SENTENCE
abbrev pub question_line : ℕ → List ℕ
question_line n = decimal n ++ (32 ∷ (question_text n ++ 10 ∷ []))

-- the lines of all questions
abbrev pub all_questions : List ℕ
all_questions = flat_map question_line numbers
