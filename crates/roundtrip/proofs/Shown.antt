-- A text of joined lines has only bytes that a text may have.
use Rattle.std.proofs.Common.{◌≡◌, ℕ, true, ◌&&◌, ◌||◌, eqb, leb, List, [], ◌∷◌, ◌++◌, refl, arith}
use Rattle.std.specs.List.{flat_map}
use Rattle.std.proofs.lemmas.Bool.{and_parts, and_from, or_right, le-leb}
use Rattle.lexer.proofs.Again.{High, AllHigh, EachHigh}
use Rattle.listing.specs.Lines.{after_blank, line_text}
use Rattle.assembler.specs.Assembled.{text_byte, all_text_bytes}

text_append : (xs ys : List ℕ) → all_text_bytes xs ≡ true → all_text_bytes ys ≡ true → all_text_bytes (xs ++ ys) ≡ true
text_append [] ys h k = k
text_append (x ∷ xs) ys h k =
    let both = and_parts (text_byte x) (all_text_bytes xs) h in
    and_from (text_byte x) (all_text_bytes (xs ++ ys)) both.0 (text_append xs ys both.1 k)

high_text : (w : List ℕ) → High w → all_text_bytes w ≡ true
high_text [] h = refl
high_text (b ∷ w) h =
    let low : (leb 32 b && leb b 126) ≡ true = and_from (leb 32 b) (leb b 126) (le-leb 32 b (omega (arith, h.0))) (le-leb b 126 h.1) in
    let is : text_byte b ≡ true = or_right (eqb b 9) (eqb b 10 || (leb 32 b && leb b 126)) (or_right (eqb b 10) (leb 32 b && leb b 126) low) in
    and_from (text_byte b) (all_text_bytes w) is (high_text w h.2)

more_text : (ws : List (List ℕ)) → AllHigh ws → all_text_bytes (flat_map after_blank ws) ≡ true
more_text [] h = refl
more_text (w ∷ ws) h = text_append w (flat_map after_blank ws) (high_text w h.1) (more_text ws h.2)

line_is_text : (ws : List (List ℕ)) → AllHigh ws → all_text_bytes (line_text ws) ≡ true
line_is_text [] h = refl
line_is_text (w ∷ ws) h = text_append (w ++ flat_map after_blank ws) (10 ∷ []) (text_append w (flat_map after_blank ws) (high_text w h.1) (more_text ws h.2)) refl

-- a text of joined lines has only text bytes
pub lines_are_text : (wss : List (List (List ℕ))) → EachHigh wss → all_text_bytes (flat_map line_text wss) ≡ true
lines_are_text [] h = refl
lines_are_text (ws ∷ wss) h = text_append (line_text ws) (flat_map line_text wss) (line_is_text ws h.0) (lines_are_text wss h.1)

pub each_append : (xs ys : List (List (List ℕ))) → EachHigh xs → EachHigh ys → EachHigh (xs ++ ys)
each_append [] ys h k = k
each_append (x ∷ xs) ys h k = (h.0, each_append xs ys h.1 k)
