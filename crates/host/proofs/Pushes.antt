-- Units pushed to a list.
use Rattle.std.proofs.Common.{◌≡◌, ℕ, suc, ◌+◌, ◌<◌, ◌≤◌, Bool, true, false, ltb, List, [], ◌∷◌, ◌++◌, length, get_or, take, set, Ok, Err, Result, sym, refl, ap, ◌∙◌, subst, add-zero, add-suc, suc-add, arith, length-append}
use Rattle.std.proofs.Math.Seq.{length-sets}
use Rattle.std.proofs.lemmas.List.{length-take-le, take_more}
use Rattle.std.proofs.lemmas.List.Edits.{sets, sets-eq}
use Rattle.std.proofs.lemmas.Bool.{lt-ltb, le-ltb, ltb-true, ltb-false, le-leb, lt-leb, cond-true, cond-false}
use Rattle.bounded.specs.Held.{entries, room, answer, items_after, length_after}
use Rattle.bounded.specs.declared.list.BoundedList.{BoundedList}
use Rattle.bounded.specs.declared.list.Full.{Full}
use Rattle.host.specs.Pushed.{has_room, push_answer, items_pushed, length_pushed}

sets_push : {X : Type 0} (us xs : List X) (i : ℕ) (x : X) → set (sets xs i us) (i + length us) x ≡ sets xs i (us ++ x ∷ [])
sets_push [] xs i x = rw add-zero
sets_push (a ∷ us) xs i x = rw (add-suc, ← suc-add) (sets_push us (set xs i a) (suc i) x)

-- units that stand behind the entries of a list, and the answer to the last of them
pub record Behind {X : Type 0} (before : BoundedList X) (us : List X) (after : BoundedList X) (result : Result Unit Full) : Type 0 where
  pub answer : result ≡ Ok tt
  pub items : after.items.now ≡ sets before.items.now before.len us
  pub len : after.len ≡ before.len + length us

-- what pushing units comes to
pub record Pushed {X : Type 0} (before : BoundedList X) (us : List X) (after : BoundedList X) (result : Result Unit Full) : Type 0 where
  pub value : result ≡ push_answer us before
  pub items : after.items.now ≡ items_pushed us before
  pub count : after.len ≡ length_pushed us before

module _ {X : Type 0} where
  pub behind_none : (l : BoundedList X) → Behind l [] l (Ok tt)
  behind_none l = record { answer = refl; items = refl; len = sym (add-zero l.len) }

  -- one unit more, where there is room for it
  pub behind_more : (l m n : BoundedList X) (us : List X) (x : X) (r : Result Unit Full)
      → Behind l us m (Ok tt) → l.len + length us < room l
      → r ≡ answer (entries m) (room m) → n.items.now ≡ items_after (entries m) m.items.now x → n.len ≡ length_after m.len (room m)
      → Behind l (us ++ x ∷ []) n r
  behind_more l m n us x r before free answered stored counted =
      let long : room m ≡ room l = ap length before.items ∙ length-sets l.items.now l.len us in
      let held : length (entries m) ≡ l.len + length us = length-take-le m.len m.items.now (omega (arith, before.len)) ∙ before.len in
      let has : ltb (length (entries m)) (room m) ≡ true = lt-ltb _ _ (omega (arith, held)) in
      record {
        answer = answered ∙ cond-true _ _ _ has;
        items = stored ∙ cond-true _ _ _ has ∙ ap (λ (i : ℕ). set m.items.now i x) held ∙ ap (λ (s : List X). set s (l.len + length us) x) before.items ∙ sets_push us l.items.now l.len x;
        len = counted ∙ cond-true _ _ _ (lt-ltb m.len (room m) (omega (arith, before.len))) ∙ omega (arith, before.len, length-append us (x ∷ []));
      }

  -- the next of some units behind a first
  pub behind_next : (l m n : BoundedList X) (x : X) (xs : List X) (i : ℕ) (d : X) (r : Result Unit Full)
      → i < length xs → l.len + length (x ∷ xs) ≤ room l → Behind l (x ∷ take i xs) m (Ok tt)
      → r ≡ answer (entries m) (room m) → n.items.now ≡ items_after (entries m) m.items.now (get_or xs i d) → n.len ≡ length_after m.len (room m)
      → Behind l (x ∷ take (i + 1) xs) n r
  behind_next l m n x xs i d r here free before answered stored counted =
      let few = length-take-le i xs (omega arith) in
      let more = behind_more l m n (x ∷ take i xs) (get_or xs i d) r before (omega (arith, few)) answered stored counted in
      subst (λ (us : List X). Behind l (x ∷ us) n r) (sym (take_more xs i d here)) more

  -- where there is room for units, they are pushed as soon as all stand behind the entries
  pub pushed_all : (l m : BoundedList X) (us : List X) (r : Result Unit Full) → l.len + length us ≤ room l → Behind l us m r → Pushed l us m r
  pushed_all l m us r fits all =
      let has : has_room us l ≡ true = le-leb _ _ fits in
      record {
        value = all.answer ∙ sym (cond-true _ _ _ has);
        items = all.items ∙ sets-eq us l.items.now l.len fits ∙ sym (cond-true _ _ _ has);
        count = all.len ∙ sym (cond-true _ _ _ has);
      }

  -- where there is none, nothing is pushed
  pub pushed_none : (l : BoundedList X) (us : List X) → room l < l.len + length us → Pushed l us l (Err (record {}))
  pushed_none l us more =
      let has : has_room us l ≡ false = lt-leb _ _ more in
      record { value = sym (cond-false _ _ _ has); items = sym (cond-false _ _ _ has); count = sym (cond-false _ _ _ has) }

module _ {X : Type 0} (l : BoundedList X) (x : X) where
  one_pushed : (b : Bool) → ltb l.len (room l) ≡ b → items_after (entries l) l.items.now x ≡ items_pushed (x ∷ []) l
  one_pushed true e =
      let free : l.len < room l = ltb-true l.len (room l) e in
      let held : length (entries l) ≡ l.len = length-take-le l.len l.items.now l.within in
      let has : ltb (length (entries l)) (room l) ≡ true = lt-ltb _ _ (omega (arith, held)) in
      let fits : l.len + length (x ∷ []) ≤ room l = omega arith in
      cond-true _ _ _ has ∙ ap (λ (i : ℕ). set l.items.now i x) held ∙ sets-eq (x ∷ []) l.items.now l.len fits ∙ sym (cond-true _ _ _ (le-leb _ _ fits))
  one_pushed false e =
      let full : room l ≤ l.len = ltb-false l.len (room l) e in
      let held : length (entries l) ≡ l.len = length-take-le l.len l.items.now l.within in
      let none : ltb (length (entries l)) (room l) ≡ false = le-ltb _ _ (omega (arith, held)) in
      let over : room l < l.len + length (x ∷ []) = omega arith in
      cond-false _ _ _ none ∙ sym (cond-false _ _ _ (lt-leb _ _ over))

  -- pushing one unit
  pub pushed_one : items_after (entries l) l.items.now x ≡ items_pushed (x ∷ []) l
  pushed_one = one_pushed (ltb l.len (room l)) refl

pub full_or_ok : (e : Full) → ◌≡◌ {A = Result Unit Full} (Err e) (Ok tt) → ⊥
full_or_ok e h = let z : ◌≡◌ {A = ℕ} 0 1 = cc in absurd (omega arith)
