-- One write after another.
use Rattle.std.proofs.Common.{◌≡◌, ℕ, zero, suc, ◌+◌, ◌-◌, ◌^◌, ◌<◌, ◌≤◌, min, List, [], ◌∷◌, ◌++◌, length, take, drop, sym, refl, ap, ◌∙◌, ⊎_elim, arith, length-append}
use Rattle.std.proofs.lemmas.Bool.{cases_lt}
use borrow.Rule.Slice.PartMut.{put_mid}
use Rattle.output.specs.Overlay.{overlay, Wrote}

overlay_none : (o : List ℕ) (a : ℕ) → overlay o a [] ≡ o
overlay_none [] a = refl
overlay_none (x ∷ o) zero = refl
overlay_none (x ∷ o) (suc a) = ap (λ l. x ∷ l) (overlay_none o a)

overlay_then : (o : List ℕ) (a : ℕ) (x y : List ℕ) → overlay (overlay o a x) (a + length x) y ≡ overlay o a (x ++ y)
overlay_then [] a x y = refl
overlay_then (c ∷ o) zero [] y = refl
overlay_then (c ∷ o) zero (t ∷ x) y =
    let on : zero + suc (length x) ≡ suc (zero + length x) = omega arith in
    ap (λ k. overlay (t ∷ overlay o zero x) k y) on ∙ ap (λ l. t ∷ l) (overlay_then o zero x y)
overlay_then (c ∷ o) (suc a) x y =
    let on : suc a + length x ≡ suc (a + length x) = omega arith in
    ap (λ k. overlay (c ∷ overlay o a x) k y) on ∙ ap (λ l. c ∷ l) (overlay_then o a x y)

-- a text that fits stands before what was past it
pub overlay_whole : (o text : List ℕ) → length text ≤ length o → overlay o 0 text ≡ text ++ drop (length text) o
overlay_whole [] [] h = refl
overlay_whole [] (t ∷ text) h = absurd (omega arith)
overlay_whole (c ∷ o) [] h = refl
overlay_whole (c ∷ o) (t ∷ text) h = ap (λ l. t ∷ l) (overlay_whole o text (omega arith))

overlay_length : (o : List ℕ) (a : ℕ) (text : List ℕ) → length (overlay o a text) ≡ length o
overlay_length [] a text = refl
overlay_length (c ∷ o) zero [] = refl
overlay_length (c ∷ o) zero (t ∷ text) = ap suc (overlay_length o zero text)
overlay_length (c ∷ o) (suc a) text = ap suc (overlay_length o a text)

-- a write of what fits of a text
pub overlay_part : (o text : List ℕ) (a k : ℕ) → a ≤ length o → k ≡ min (length o - a) (length text) → put_mid a k o (take k text) ≡ overlay o a text
overlay_part [] text zero zero p e = refl
overlay_part [] text zero (suc k) p e = absurd (omega arith)
overlay_part [] text (suc a) k p e = absurd (omega arith)
overlay_part (c ∷ o) [] zero zero p e = refl
overlay_part (c ∷ o) [] zero (suc k) p e = absurd (omega arith)
overlay_part (c ∷ o) (t ∷ text) zero zero p e = absurd (omega arith)
overlay_part (c ∷ o) (t ∷ text) zero (suc k) p e = ap (λ l. t ∷ l) (overlay_part o text 0 k (omega arith) (omega arith))
overlay_part (c ∷ o) text (suc a) k p e = ap (λ l. c ∷ l) (overlay_part o text a k (omega arith) (omega arith))

-- nothing is written past the end
pub overlay_past : (o : List ℕ) (a : ℕ) (text : List ℕ) → length o ≤ a → overlay o a text ≡ o
overlay_past [] a text h = refl
overlay_past (c ∷ o) zero text h = absurd (omega arith)
overlay_past (c ∷ o) (suc a) text h = ap (λ l. c ∷ l) (overlay_past o a text (omega arith))

-- so a place may stop at the largest number
overlay_clip : (o : List ℕ) (k m : ℕ) (text : List ℕ) → length o ≤ m → overlay o (min k m) text ≡ overlay o k text
overlay_clip o k m text h = ⊎_elim
    (λ (small : k < m). let e : min k m ≡ k = omega arith in ap (λ x. overlay o x text) e)
    (λ (large : m ≤ k). overlay_past o (min k m) text (omega arith) ∙ sym (overlay_past o k text (omega arith)))
    (cases_lt k m)

pub wrote_none : (o : List ℕ) (a : ℕ) → a < 2 ^ 64 → Wrote o a [] a o
wrote_none o a h = record { ends = omega arith; laid = sym (overlay_none o a) }

pub wrote_then : (o o' o'' : List ℕ) (a r r' : ℕ) (x y : List ℕ) → length o < 2 ^ 64 → Wrote o a x r o' → Wrote o' r y r' o'' → Wrote o a (x ++ y) r' o''
wrote_then o o' o'' a r r' x y h f g = record {
  ends = omega (arith, f.ends, g.ends, length-append x y);
  laid =
      g.laid ∙ ap (λ l. overlay l r y) f.laid ∙ ap (λ k. overlay (overlay o a x) k y) f.ends
      ∙ overlay_clip (overlay o a x) (a + length x) (2 ^ 64 - 1) y (omega (arith, overlay_length o a x)) ∙ overlay_then o a x y;
}
