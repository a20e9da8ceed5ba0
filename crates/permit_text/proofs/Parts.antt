-- A line is its first word and the words of what is left.
use Rattle.std.proofs.Common.{◌≡◌, ℕ, suc, ◌+◌, ◌<◌, ◌≤◌, false, not, List, [], ◌∷◌, length, take, drop, filter, sym, refl, ap, ◌∙◌, subst, arith}
use Rattle.std.specs.List.{position_or_len, slice_split, onto_first}
use Rattle.std.proofs.lemmas.List.{at_drop_all}
use Rattle.lexer.proofs.Split.{by_bool}
use Rattle.permit_text.specs.Words.{is_blank, has_bytes, words_of}

-- how many bytes that part words stand in front
abbrev pub blanks : List ℕ → ℕ
blanks line = position_or_len (λ b. not (is_blank b)) line

-- how many bytes stand before the first that parts words
abbrev pub word_length : List ℕ → ℕ
word_length line = position_or_len is_blank line

next : (n : ℕ) → 1 + n ≡ suc n
next n = omega arith

past_blanks : (line : List ℕ) → words_of line ≡ words_of (drop (blanks line) line)
past_blanks [] = refl
past_blanks (b ∷ bs) = by_bool (is_blank b) (λ e. simp (e, next) (past_blanks bs)) (λ e. simp e)

-- where only such bytes stand there is no word
pub no_words : (line : List ℕ) → length line ≤ blanks line → words_of line ≡ []
no_words line h = past_blanks line ∙ at_drop_all words_of line (blanks line) h

-- the first part of a line, and the others
record FirstPart (line : List ℕ) : Type 0 where
  others : List (List ℕ)
  parts : slice_split is_blank line ≡ take (word_length line) line ∷ others
  words : filter has_bytes others ≡ words_of (drop (word_length line) line)

first_part : (line : List ℕ) → FirstPart line
first_part [] = record { others = []; parts = refl; words = refl }
first_part (b ∷ bs) = by_bool (is_blank b)
    (λ e. record { others = slice_split is_blank bs; parts = simp e; words = simp e })
    (λ e. let f = first_part bs in record { others = f.others; parts = simp (e, next) (ap (onto_first b) f.parts); words = simp (e, next) f.words })

-- past k bytes stands the first word
abbrev FirstAt : List ℕ → ℕ → Type 0
FirstAt line k = words_of line ≡ take (word_length (drop k line)) (drop k line) ∷ words_of (drop (word_length (drop k line)) (drop k line))

in_front : (b : ℕ) (bs : List ℕ) → is_blank b ≡ false → FirstAt (b ∷ bs) 0
in_front b bs e = let f = first_part bs in simp (e, next) (ap (λ parts. filter has_bytes (onto_first b parts)) f.parts ∙ ap (λ ws. (b ∷ take (word_length bs) bs) ∷ ws) f.words)

first_word : (line : List ℕ) → blanks line < length line → FirstAt line (blanks line)
first_word [] h = absurd (omega arith)
first_word (b ∷ bs) h = by_bool (is_blank b)
    (λ e. let k : blanks bs < length bs = (let k = simp e at h in omega arith) in simp (e, next) (first_word bs k))
    (λ e. let z : blanks (b ∷ bs) ≡ 0 = simp e in subst (FirstAt (b ∷ bs)) (sym z) (in_front b bs e))

-- a word is cut off: k bytes are passed over, and the word has n
pub word_first : (line : List ℕ) (k n : ℕ) (from word rest : List ℕ) → blanks line ≡ k → k < length line → from ≡ drop k line → word_length from ≡ n → word ≡ take n from → rest ≡ drop n from → words_of line ≡ word ∷ words_of rest
word_first line k n from word rest k_is some from_is n_is word_is rest_is =
    let one = subst (FirstAt line) k_is (first_word line (omega (arith, k_is))) in
    rw (word_is, rest_is, ← n_is, from_is) one
