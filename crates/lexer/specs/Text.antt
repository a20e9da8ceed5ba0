-- Lines and words of a text, over its bytes.
use Rattle.std.specs.Prelude.{ℕ, suc, ◌+◌, Bool, true, false, cond, not, ◌&&◌, ◌||◌, List, [], ◌∷◌, length, Some, None, Option, ◌==◌}
use Rattle.lexer.specs.declared.inside.Inside.{Inside}
use Rattle.lexer.specs.declared.inside.Inside.TheVariants.{Gap, Plain, Quoted, Taken}

-- b before the first of the lists
abbrev pub on_first : ℕ → List (List ℕ) → List (List ℕ)
on_first b [] = (b ∷ []) ∷ []
on_first b (xs ∷ xss) = (b ∷ xs) ∷ xss

-- the lines: byte 10 ends one, and what follows the last is a line too
abbrev pub lines_of : List ℕ → List (List ℕ)
lines_of [] = [] ∷ []
lines_of (b ∷ bs) = cond (b == 10) ([] ∷ lines_of bs) (on_first b (lines_of bs))

-- how many bytes an automaton goes over, from a state, before the first at which it stops
abbrev pub goes_over : {S : Type 0} → (S → ℕ → Bool) → (S → ℕ → S) → S → List ℕ → ℕ
goes_over stop next s [] = 0
goes_over stop next s (b ∷ bs) = cond (stop s b) 0 (suc (goes_over stop next (next s b) bs))

-- what stands before the first c
abbrev pub before : ℕ → List ℕ → List ℕ
before c [] = []
before c (b ∷ bs) = cond (b == c) [] (b ∷ before c bs)

-- the blanks between words: bytes 32 and 9
abbrev pub blank : ℕ → Bool
blank b = b == 32 || b == 9

-- where the byte b leads, unless it parts two words
abbrev pub onward : Inside → ℕ → Inside
onward Gap b = cond (b == 34) Quoted Plain
onward Plain b = Plain
onward Quoted b = cond (b == 34) Plain (cond (b == 92) Taken Quoted)
onward Taken b = Quoted

-- whether a blank counts there
abbrev pub open? : Inside → Bool
open? Gap = true
open? Plain = true
open? Quoted = false
open? Taken = false

-- what is left of the word at a place, and the words after it
abbrev pub closed : Inside → List (List ℕ)
closed Gap = []
closed Plain = [] ∷ []
closed Quoted = [] ∷ []
closed Taken = [] ∷ []

-- at a blank that counts a word ends, if one has begun
abbrev pub parted : Inside → List (List ℕ) → List (List ℕ)
parted Gap ws = ws
parted Plain ws = [] ∷ ws
parted Quoted ws = [] ∷ ws
parted Taken ws = [] ∷ ws

-- the words from a place on: a blank that counts parts two words, and any other byte belongs to a word
abbrev pub spelled : Inside → List ℕ → List (List ℕ)
spelled p [] = closed p
spelled p (b ∷ bs) = cond (open? p && blank b) (parted p (spelled Gap bs)) (on_first b (spelled (onward p b) bs))

-- the words of some code
abbrev pub code_words : List ℕ → List (List ℕ)
code_words code = spelled Gap code

-- the code of a line: from a hash (35) on, the rest is comment
abbrev pub code_of : List ℕ → List ℕ
code_of line = before 35 line

-- the words of a line
abbrev pub words_of : List ℕ → List (List ℕ)
words_of line = code_words (code_of line)

-- how many bytes of the word at a place are left
abbrev pub word_left : Inside → List ℕ → ℕ
word_left p bs = goes_over (λ q b. open? q && blank b) onward p bs

-- how many blanks stand in front
abbrev pub blanks : List ℕ → ℕ
blanks bs = goes_over {S = ℕ} (λ _ b. not (blank b)) (λ s _. s) 0 bs

-- all but the first
abbrev pub tail_of : List (List ℕ) → List (List ℕ)
tail_of [] = []
tail_of (w ∷ ws) = ws

-- a line by its number, its place and its code
pub record CodeLine : Type 0 where
  pub number : ℕ
  pub place : ℕ
  pub code : List ℕ

-- line n, which begins at the place p
abbrev pub code_line : ℕ → ℕ → List ℕ → CodeLine
code_line n p l = record { number = n; place = p; code = code_of l }

-- the first of the lines, on line n and at the place p
abbrev pub first_line : ℕ → ℕ → List (List ℕ) → Option CodeLine
first_line n p [] = None
first_line n p (l ∷ ls) = Some (code_line n p l)

-- lines, the first of them on line n and at the place p
abbrev pub numbered : ℕ → ℕ → List (List ℕ) → List CodeLine
numbered n p [] = []
numbered n p (l ∷ ls) = code_line n p l ∷ numbered (n + 1) (p + length l + 1) ls

-- where the next line begins
abbrev pub next_at : ℕ → List (List ℕ) → ℕ
next_at p [] = p
next_at p (l ∷ ls) = p + length l + 1
