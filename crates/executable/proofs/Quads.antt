-- Numbers and words as they are read from bytes.
use Rattle.std.proofs.Common.{◌≡◌, ℕ, zero, suc, ◌+◌, ◌*◌, ◌/◌, ◌<◌, ◌≤◌, List, [], ◌∷◌, length, map, get_or, drop, option_map, refl, ap, ◌∙◌, arith}
use Rattle.std.specs.List.{slice_get}
use Rattle.std.specs.Simd.{first_chunks}
use Rattle.std.proofs.lemmas.Option.{slice_get-map}
use Rattle.std.proofs.lemmas.List.{drop_more}
use Rattle.executable.specs.Bytes.{little_endian, words_of}

-- four bytes, one after another
pub four : (bs : List ℕ) (i : ℕ) → i + 4 ≤ length bs → drop i bs ≡ get_or bs i 0 ∷ get_or bs (i + 1) 0 ∷ get_or bs (i + 2) 0 ∷ get_or bs (i + 3) 0 ∷ drop (i + 4) bs
four bs i h =
    let second : i + 1 + 1 ≡ i + 2 = omega arith in
    let third : i + 2 + 1 ≡ i + 3 = omega arith in
    let fourth : i + 3 + 1 ≡ i + 4 = omega arith in
    drop_more bs i 0 (omega arith)
    ∙ ap (λ l. get_or bs i 0 ∷ l) (drop_more bs (i + 1) 0 (omega arith) ∙ ap (λ k. get_or bs (i + 1) 0 ∷ drop k bs) second)
    ∙ ap (λ l. get_or bs i 0 ∷ get_or bs (i + 1) 0 ∷ l) (drop_more bs (i + 2) 0 (omega arith) ∙ ap (λ k. get_or bs (i + 2) 0 ∷ drop k bs) third)
    ∙ ap (λ l. get_or bs i 0 ∷ get_or bs (i + 1) 0 ∷ get_or bs (i + 2) 0 ∷ l) (drop_more bs (i + 3) 0 (omega arith) ∙ ap (λ k. get_or bs (i + 3) 0 ∷ drop k bs) fourth)

-- the number that four bytes write
abbrev pub quad : List ℕ → ℕ
quad w = get_or w 0 0 + get_or w 1 0 * 256 + get_or w 2 0 * 65536 + get_or w 3 0 * 16777216

-- the words are the numbers that the whole chunks of four bytes write
pub words_are : (bs : List ℕ) (n : ℕ) → n * 4 ≤ length bs → length bs < n * 4 + 4 → words_of bs ≡ map quad (first_chunks 4 n bs)
words_are (a ∷ b ∷ c ∷ d ∷ rest) (suc n) h l =
    let number : little_endian (a ∷ b ∷ c ∷ d ∷ []) ≡ quad (a ∷ b ∷ c ∷ d ∷ []) = omega arith in
    ap (λ w. w ∷ words_of rest) number ∙ ap (λ ws. quad (a ∷ b ∷ c ∷ d ∷ []) ∷ ws) (words_are rest n (omega arith) (omega arith))
words_are (a ∷ b ∷ c ∷ d ∷ rest) zero h l = absurd (omega arith)
words_are (a ∷ b ∷ c ∷ []) zero h l = refl
words_are (a ∷ b ∷ []) zero h l = refl
words_are (a ∷ []) zero h l = refl
words_are [] zero h l = refl
words_are (a ∷ b ∷ c ∷ []) (suc n) h l = absurd (omega arith)
words_are (a ∷ b ∷ []) (suc n) h l = absurd (omega arith)
words_are (a ∷ []) (suc n) h l = absurd (omega arith)
words_are [] (suc n) h l = absurd (omega arith)

-- a word is the number that its chunk writes
pub word_is : (bs : List ℕ) (i : ℕ) → slice_get (words_of bs) i ≡ option_map quad (slice_get (first_chunks 4 (length bs / 4) bs) i)
word_is bs i =
    ap (λ ws. slice_get ws i) (words_are bs (length bs / 4) (omega arith) (omega arith))
    ∙ slice_get-map quad (first_chunks 4 (length bs / 4) bs) i
