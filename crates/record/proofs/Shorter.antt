-- A tape has no more items than bytes.
use Rattle.std.proofs.Common.{ℕ, zero, suc, ◌≤◌, Bool, true, false, cond, List, [], ◌∷◌, length, arith}
use Rattle.host.specs.Tapes.{items, items_from, size, whole}
use Rattle.host.specs.declared.item.Item.{Item}

one_more : (b : Bool) (x : Item) (xs : List Item) (n : ℕ) → length xs ≤ n → length (cond b (x ∷ xs) []) ≤ suc n
one_more true x xs n h = omega (arith, h)
one_more false x xs n h = omega arith

from_short : (k : ℕ) (bs : List ℕ) → length (items_from k bs) ≤ length bs
from_short k [] = omega arith
from_short zero (c ∷ bs) = one_more (whole c bs) _ (items_from (size c) bs) (length bs) (from_short (size c) bs)
from_short (suc k) (c ∷ bs) = omega (arith, from_short k bs)

pub items_short : (bs : List ℕ) → length (items bs) ≤ length bs
items_short bs = from_short 0 bs
