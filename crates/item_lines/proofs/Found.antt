-- An item's line tells that item.
use Rattle.std.proofs.Common.{◌≡◌, refl, ℕ, zero, suc, ◌^◌, ◌<◌, List, Some, None, decimal, ap, sym, ◌∙◌, arith}
use Rattle.std.proofs.lemmas.Bool.{cond-true, lt-ltb}
use Rattle.std.proofs.lemmas.Nat.{from_be_bytes-to_be_bytes_8}
use Rattle.std.specs.Int.{w64, to_be_bytes}
use Rattle.hex.specs.Hex.{IsBytes}
use Rattle.hex.proofs.HexLemmas.{decode_sized-encode_lower}
use Rattle.host.specs.Ranges.{InRange}
use Rattle.host.specs.declared.item.Item.{Item}
use Rattle.host.specs.declared.item.Item.TheVariants.{Number, Real, Character}
use Rattle.item_lines.specs.Lines.{item_text}
use Rattle.item_lines.specs.Reading.{below, real_of, item_in}
use Rattle.numerals.specs.Natural.{natural}
use Rattle.numerals.proofs.Round.{natural_decimal}

below_found : (bound n : ℕ) (make : ℕ → Item) → n < bound → n < 2 ^ 64 → below bound make (natural (decimal n)) ≡ Some (make n)
below_found bound n make h small = ap (below bound make) (natural_decimal n small) ∙ cond-true _ _ _ (lt-ltb n bound h)

-- the bytes of a number are bytes
all_bytes : (b : ℕ) → IsBytes (to_be_bytes w64 b)
all_bytes b zero = omega arith
all_bytes b (suc zero) = omega arith
all_bytes b (suc (suc zero)) = omega arith
all_bytes b (suc (suc (suc zero))) = omega arith
all_bytes b (suc (suc (suc (suc zero)))) = omega arith
all_bytes b (suc (suc (suc (suc (suc zero))))) = omega arith
all_bytes b (suc (suc (suc (suc (suc (suc zero)))))) = omega arith
all_bytes b (suc (suc (suc (suc (suc (suc (suc zero))))))) = omega arith
all_bytes b (suc (suc (suc (suc (suc (suc (suc (suc i)))))))) = omega arith

pub found : (x : Item) → InRange x → item_in (item_text x) ≡ Some x
found (Number n) h = below_found (2 ^ 32) n Number h (omega (arith, h))
found (Real b) h = ap real_of (decode_sized-encode_lower (to_be_bytes w64 b) 8 refl (all_bytes b)) ∙ ap (λ n. Some (Real n)) (from_be_bytes-to_be_bytes_8 b h)
found (Character c) h = below_found (2 ^ 8) c Character h (omega (arith, h))

-- where no item is seen, the line is no item's
pub unread : (line : List ℕ) → item_in line ≡ None → (x : Item) → InRange x → line ≡ item_text x → ⊥
unread line none x h e = let f = found x h in let g : item_in line ≡ item_in (item_text x) = ap item_in e in cc

-- where the item that is seen has another line, the line is no item's
pub other : (line : List ℕ) (y : Item) → item_in line ≡ Some y → (item_text y ≡ line → ⊥) → (x : Item) → InRange x → line ≡ item_text x → ⊥
other line y some not x h e = let f = found x h in let g : item_in line ≡ item_in (item_text x) = ap item_in e in not (let same : y ≡ x = cc in ap item_text same ∙ sym e)
