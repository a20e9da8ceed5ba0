-- An item pushed to the list of what was written.
use Rattle.std.proofs.Common.{◌≡◌, ℕ, zero, suc, ◌+◌, ◌-◌, ◌*◌, ◌<◌, ◌≤◌, true, List, [], ◌∷◌, ◌++◌, length, take, drop, sym, ap, ◌∙◌, subst, arith, append-nil, length-append, length-drop, mul-suc, sub-one}
use Rattle.std.proofs.lemmas.Bool.{le-leb, cond-true}
use Rattle.std.proofs.lemmas.List.{length-take-le, take_at}
use Rattle.std.proofs.lemmas.Grind.{flat_map-append}
use Rattle.bounded.specs.Held.{entries, room}
use Rattle.bounded.specs.declared.list.BoundedList.{BoundedList}
use Rattle.host.specs.declared.item.Item.{Item}
use Rattle.host.specs.Codes.{Code, CodeLaws, all_coded}
use Rattle.host.specs.Lent.{IsCoded}
use Rattle.host.specs.Pushed.{has_room, items_pushed, length_pushed}
use Rattle.host.specs.Ranges.{InRange}

-- a list after an item is pushed to it: the entries are one item more, and there is room for as many more as before but one
pub record Appended {X : Type 0} (c : Code X) (most : ℕ) (before : BoundedList X) (left : ℕ) (item : Item) (after : BoundedList X) : Type 0 where
  pub reads : c.items (entries after) ≡ c.items (entries before) ++ item ∷ []
  pub coded : IsCoded c (entries after)
  pub fits : after.len + most * (left - 1) ≤ room after

one_more : (m n : ℕ) → 0 < n → m * n ≡ m + m * (n - 1)
one_more m zero h = absurd (omega (arith, h))
one_more m (suc n) h = rw (mul-suc m n, sub-one) (omega arith)

module _ {X : Type 0} (us : List X) (l n : BoundedList X) (room_for : l.len + length us ≤ room l) (items : n.items.now ≡ items_pushed us l) (count : n.len ≡ length_pushed us l) where
  has : has_room us l ≡ true
  has = le-leb _ _ room_for

  laid : n.items.now ≡ (entries l ++ us) ++ drop (l.len + length us) l.items.now
  laid = items ∙ cond-true _ _ _ has

  long : n.len ≡ l.len + length us
  long = count ∙ cond-true _ _ _ has

  filled : length (entries l ++ us) ≡ l.len + length us
  filled = length-append (entries l) us ∙ ap (λ (k : ℕ). k + length us) (length-take-le l.len l.items.now l.within)

  -- units that are pushed stand behind the entries
  pub entries_more : entries n ≡ entries l ++ us
  entries_more = ap (take n.len) laid ∙ take_at (entries l ++ us) _ n.len (omega (arith, filled, long))

  pub room_same : room n ≡ room l
  room_same = ap length laid ∙ length-append (entries l ++ us) _ ∙ omega (arith, filled, length-drop (l.len + length us) l.items.now)

module _ {X : Type 0} {c : Code X} {most : ℕ} (laws : CodeLaws c most) where
  -- units that are those of their items, and then one item
  coded_items : (us : List X) (x : Item) → InRange x → IsCoded c us → c.items (us ++ c.coded x) ≡ c.items us ++ x ∷ []
  coded_items us x range is = laws.items_append us (c.coded x) is.clean ∙ ap (λ (r : List Item). c.items us ++ r) (laws.coded x range).items

  coded_more : (us : List X) (x : Item) → InRange x → IsCoded c us → IsCoded c (us ++ c.coded x)
  coded_more us x range is = record {
    clean = laws.spoiled_append us (c.coded x) is.clean ∙ (laws.coded x range).clean;
    back = ap (λ (r : List X). r ++ c.coded x) is.back ∙ ap (λ (r : List X). all_coded c (c.items us) ++ r) (sym (append-nil (c.coded x))) ∙ sym (flat_map-append c.coded (c.items us) (x ∷ [])) ∙ ap (all_coded c) (sym (coded_items us x range is));
  }

  pub appended : (l n : BoundedList X) (left : ℕ) (x : Item) → InRange x → 0 < left → l.len + most * left ≤ room l → IsCoded c (entries l) → n.items.now ≡ items_pushed (c.coded x) l → n.len ≡ length_pushed (c.coded x) l → Appended c most l left x n
  appended l n left x range some fits is items count =
      let us = c.coded x in
      let few : length us ≤ most = laws.short x in
      let next : most * left ≡ most + most * (left - 1) = one_more most left some in
      let room_for : l.len + length us ≤ room l = omega (arith, few, next, fits) in
      let more = entries_more us l n room_for items count in
      record {
        reads = ap c.items more ∙ coded_items (entries l) x range is;
        coded = subst (IsCoded c) (sym more) (coded_more (entries l) x range is);
        fits = omega (arith, room_same us l n room_for items count, long us l n room_for items count);
      }
