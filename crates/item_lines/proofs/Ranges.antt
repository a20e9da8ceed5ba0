-- The items on a tape are in range.
use Rattle.std.proofs.Common.{◌≡◌, refl, ℕ, zero, suc, ◌^◌, ◌<◌, ◌≤◌, Bool, true, false, eqb, ltb, leb, List, [], ◌∷◌, length, take, sym, subst, arith, pow-suc}
use Rattle.std.specs.List.{All}
use Rattle.std.proofs.lemmas.Bool.{and_parts, eqb-true, ltb-true, true≢false}
use Rattle.std.proofs.lemmas.List.{length-take-le}
use Rattle.std.proofs.lemmas.List.Elements.{All-nil, All-cons, All-head, All-tail, All-take}
use Rattle.host.specs.Ranges.{InRange}
use Rattle.host.specs.TapeParts.{Bytes, whole_fits}
use Rattle.host.specs.Tapes.{little_endian, size, whole, item_of, items_from, items}

-- k bytes write a number below 256 ^ k
written_below : (bs : List ℕ) → Bytes bs → little_endian bs < 256 ^ length bs
written_below [] h = omega arith
written_below (b ∷ bs) h =
    let here : b < 256 = ltb-true b 256 (All-head (λ b. ltb b 256 ≡ true) b bs h) in
    let later = written_below bs (All-tail (λ b. ltb b 256 ≡ true) b bs h) in
    omega (arith, pow-suc 256 (length bs))

operand_below : (k : ℕ) (bs : List ℕ) → Bytes bs → k ≤ length bs → little_endian (take k bs) < 256 ^ k
operand_below k bs h fits =
    subst (λ n. little_endian (take k bs) < 256 ^ n) (length-take-le k bs fits) (written_below (take k bs) (All-take (λ b. ltb b 256 ≡ true) k bs h))

-- the item of a command and its operand, where the operand is not cut
abbrev RangedAt : List ℕ → ℕ → Type 0
RangedAt bs c = size c ≤ length bs → InRange (item_of c (take (size c) bs))

known : (c k : ℕ) (bs : List ℕ) → eqb c k ≡ true → RangedAt bs k → RangedAt bs c
known c k bs e h = subst (RangedAt bs) (sym (eqb-true c k e)) h

-- by the three commands
ranged_by : (c : ℕ) (bs : List ℕ) → Bytes bs → (n r h : Bool) → eqb c 0x4E ≡ n → eqb c 0x44 ≡ r → eqb c 0x43 ≡ h → ltb 0 (size c) ≡ true → RangedAt bs c
ranged_by c bs t true r h en er eh w = known c 0x4E bs en (operand_below 4 bs t)
ranged_by c bs t false true h en er eh w = known c 0x44 bs er (operand_below 8 bs t)
ranged_by c bs t false false true en er eh w = known c 0x43 bs eh (operand_below 1 bs t)
ranged_by c bs t false false false en er eh w = absurd (true≢false (sym (rw (en, er, eh) at w)))

ranged : (c : ℕ) (bs : List ℕ) → Bytes bs → whole c bs ≡ true → InRange (item_of c (take (size c) bs))
ranged c bs t w = ranged_by c bs t (eqb c 0x4E) (eqb c 0x44) (eqb c 0x43) refl refl refl (and_parts (ltb 0 (size c)) (leb (size c) (length bs)) w).0 (whole_fits c bs w)

ranged_at : (c : ℕ) (bs : List ℕ) → Bytes bs → All InRange (items_from (size c) bs) → (b : Bool) → whole c bs ≡ b → All InRange (items_from 0 (c ∷ bs))
ranged_at c bs t later false w = rw w (All-nil InRange)
ranged_at c bs t later true w = rw w (All-cons InRange (item_of c (take (size c) bs)) (items_from (size c) bs) (ranged c bs t w) later)

ranged_from : (k : ℕ) (bs : List ℕ) → Bytes bs → All InRange (items_from k bs)
ranged_from zero [] t = All-nil InRange
ranged_from (suc k) [] t = All-nil InRange
ranged_from zero (c ∷ bs) t = let later = All-tail (λ b. ltb b 256 ≡ true) c bs t in ranged_at c bs later (ranged_from (size c) bs later) (whole c bs) refl
ranged_from (suc k) (c ∷ bs) t = ranged_from k bs (All-tail (λ b. ltb b 256 ≡ true) c bs t)

pub items_ranged : (bs : List ℕ) → Bytes bs → All InRange (items bs)
items_ranged bs t = ranged_from 0 bs t
