-- Items written one after the other.
use Rattle.std.proofs.Common.{◌≡◌, ℕ, ◌+◌, ◌-◌, ◌<◌, ◌≤◌, List, [], ◌∷◌, ◌++◌, length, get_or, take, drop, sym, ap, ◌∙◌, arith}
use Rattle.std.proofs.lemmas.Bool.{lt-ltb, cond-true}
use Rattle.std.proofs.lemmas.List.{take_more, drop-drop}
use Rattle.bounded.specs.declared.list.BoundedList.{BoundedList}
use Rattle.host.specs.declared.item.Item.{Item}
use Rattle.host.specs.declared.item.Item.TheVariants.{Number}
use Rattle.host.specs.Codes.{Code}
use Rattle.host.specs.Lent.{place_after}
use Rattle.host.specs.Meaning.{Meaning, after_write}

-- where a write is left, the next of some items is written behind those before it
pub written_more : (m : Meaning) (xs : List Item) (i : ℕ) → i < length xs → 0 < m.left → m.written ≡ take i xs → (after_write (get_or xs i (Number 0)) m).written ≡ take (i + 1) xs
written_more m xs i here left so_far =
    cond-true _ _ _ (lt-ltb 0 m.left left) ∙ ap (λ (ys : List Item). ys ++ get_or xs i (Number 0) ∷ []) so_far ∙ sym (take_more xs i (Number 0) here)

-- and the place goes past its units
pub place_more : {X : Type 0} (c : Code X) (left : ℕ) (x : Item) (l : BoundedList X) → 0 < left → place_after c left x l ≡ l.len + length (c.coded x)
place_more c left x l h = cond-true _ _ _ (lt-ltb 0 left h)

-- lists that are the same past a place are so past a later one
pub drop_later : {X : Type 0} (xs ys : List X) (at later : ℕ) → at ≤ later → drop at xs ≡ drop at ys → drop later xs ≡ drop later ys
drop_later xs ys at later h same =
    let far : at + (later - at) ≡ later = omega arith in
    ap (λ (n : ℕ). drop n xs) (sym far) ∙ sym (drop-drop (later - at) at xs) ∙ ap (drop (later - at)) same ∙ drop-drop (later - at) at ys ∙ ap (λ (n : ℕ). drop n ys) far
