-- The turns of the loop over a segment's words.
use Rattle.std.proofs.Common.{◌≡◌, ℕ, suc, zero, ◌+◌, ◌*◌, ◌/◌, ◌<◌, ◌≤◌, List, [], ◌∷◌, ◌++◌, map, length, get_or, take, sym, refl, ap, ◌∙◌, arith}
use Rattle.std.specs.List.{flat_map}
use Rattle.std.specs.Simd.{first_chunks}
use Rattle.std.proofs.lemmas.List.{take_more, flat_map_more}
use Rattle.std.proofs.lemmas.List.Folds.{flat_map-map}
use Rattle.executable.specs.Bytes.{little_endian, words_of}
use Rattle.executable.specs.declared.segment.Segment.{Segment}
use Rattle.listing.specs.Lines.{line_text, word_line}

-- the number that four bytes write
abbrev pub quad_number : List ℕ → ℕ
quad_number w = get_or w 0 0 + get_or w 1 0 * 256 + get_or w 2 0 * 65536 + get_or w 3 0 * 16777216

-- and the line of that word
abbrev pub quad_line : Segment → List ℕ → List ℕ
quad_line s w = line_text (word_line s (quad_number w))

-- the words are the numbers that the whole chunks of four bytes write
words_are : (bs : List ℕ) (n : ℕ) → n * 4 ≤ length bs → length bs < n * 4 + 4 → words_of bs ≡ map quad_number (first_chunks 4 n bs)
words_are (a ∷ b ∷ c ∷ d ∷ rest) (suc n) h l =
    let number : little_endian (a ∷ b ∷ c ∷ d ∷ []) ≡ quad_number (a ∷ b ∷ c ∷ d ∷ []) = omega arith in
    ap (λ w. w ∷ words_of rest) number ∙ ap (λ ws. quad_number (a ∷ b ∷ c ∷ d ∷ []) ∷ ws) (words_are rest n (omega arith) (omega arith))
words_are (a ∷ b ∷ c ∷ d ∷ rest) zero h l = absurd (omega arith)
words_are (a ∷ b ∷ c ∷ []) zero h l = refl
words_are (a ∷ b ∷ []) zero h l = refl
words_are (a ∷ []) zero h l = refl
words_are [] zero h l = refl
words_are (a ∷ b ∷ c ∷ []) (suc n) h l = absurd (omega arith)
words_are (a ∷ b ∷ []) (suc n) h l = absurd (omega arith)
words_are (a ∷ []) (suc n) h l = absurd (omega arith)
words_are [] (suc n) h l = absurd (omega arith)

-- so the lines of the chunks are those of the words
pub segment_lines : (s : Segment) (bs : List ℕ) → flat_map (quad_line s) (first_chunks 4 (length bs / 4) bs) ≡ flat_map line_text (map (word_line s) (words_of bs))
segment_lines s bs =
    let chunks = first_chunks 4 (length bs / 4) bs in
    sym (ap (λ ws. flat_map line_text (map (word_line s) ws)) (words_are bs (length bs / 4) (omega arith) (omega arith))
    ∙ flat_map-map line_text (word_line s) (map quad_number chunks) ∙ flat_map-map (λ n. line_text (word_line s n)) quad_number chunks)

-- one more chunk's line
pub line_more : (s : Segment) (ws : List (List ℕ)) (i : ℕ) → i < length ws
    → flat_map (quad_line s) (take i ws) ++ quad_line s (get_or ws i []) ≡ flat_map (quad_line s) (take (i + 1) ws)
line_more s ws i h = flat_map_more (quad_line s) [] (take i ws) (get_or ws i []) ∙ ap (flat_map (quad_line s)) (sym (take_more ws i [] h))

-- a word has four bytes
pub words_length : (bs : List ℕ) → 4 * length (words_of bs) ≤ length bs
words_length (a ∷ b ∷ c ∷ d ∷ rest) = omega (arith, words_length rest)
words_length (a ∷ b ∷ c ∷ []) = omega arith
words_length (a ∷ b ∷ []) = omega arith
words_length (a ∷ []) = omega arith
words_length [] = omega arith
