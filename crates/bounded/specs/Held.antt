-- What a bounded list holds, and what an append makes of it.
use Rattle.std.specs.Prelude.{◌≡◌, ℕ, ◌+◌, cond, List, [], ◌∷◌, ◌++◌, length, take, drop, Ok, Err, Result, nat_lt, slice_set}
use Rattle.bounded.specs.declared.list.BoundedList.{BoundedList}
use Rattle.bounded.specs.declared.list.Full.{Full}

-- the entries are the first of the lent items, as many as the list is long
abbrev pub entries : {X : Type 0} → BoundedList X → List X
entries l = take l.len l.items.now

-- the maximum
abbrev pub room : {X : Type 0} → BoundedList X → ℕ
room l = length l.items.now

-- an append is refused where the list is full
abbrev pub answer : {X : Type 0} → List X → ℕ → Result Unit Full
answer held most = cond (nat_lt (length held) most) (Ok tt) (Err (record {}))

-- the entries after an append: one more at the end, or the same where the list is full
abbrev pub appended : {X : Type 0} → List X → ℕ → X → List X
appended held most x = cond (nat_lt (length held) most) (held ++ x ∷ []) held

-- the lent items after an append: only the one past the last entry is written
abbrev pub items_after : {X : Type 0} → List X → List X → X → List X
items_after held items x = cond (nat_lt (length held) (length items)) (slice_set items (length held) x) items

-- the length field after an append: one more, or the same where the list is full
abbrev pub length_after : ℕ → ℕ → ℕ
length_after n most = cond (nat_lt n most) (n + 1) n

-- the items past the last entry of a list are as they were, and so is the slice that is lent
pub record KeepsRest {X : Type 0} (before after : BoundedList X) : Type 0 where
  pub past : drop after.len after.items.now ≡ drop after.len before.items.now
  pub lender : after.items.ghost_name ≡ before.items.ghost_name
