-- What a host means, and what its two calls do to that.
use Rattle.std.specs.Prelude.{ℕ, ◌-◌, Bool, true, false, cond, List, [], ◌∷◌, ◌++◌, Ok, Err, Result, nat_lt}
use Rattle.host.specs.declared.item.Item.{Item}
use Rattle.host.specs.declared.item.Item.TheVariants.{Number, Real, Character}
use Rattle.host.specs.declared.item.Kind.{Kind}
use Rattle.host.specs.declared.item.Kind.TheVariants as kind
use Rattle.host.specs.declared.refusal.Refusal.{Refusal}
use Rattle.host.specs.declared.refusal.Refusal.TheVariants.{NothingWaits, SpoiledEnd, OtherKind, NoWriteLeft}

-- what can still be got, whether something unreadable comes behind that, what was written from the first item to the last, and the number of writes to come
pub record Meaning : Type 0 where
  pub waiting : List Item
  pub spoiled : Bool
  pub written : List Item
  pub left : ℕ

-- the kind of an item
abbrev pub kind_of : Item → Kind
kind_of (Number n) = kind.Number
kind_of (Real b) = kind.Real
kind_of (Character c) = kind.Character

-- whether an item is of a kind
abbrev pub is_kind : Kind → Item → Bool
is_kind kind.Number (Number n) = true
is_kind kind.Number (Real b) = false
is_kind kind.Number (Character c) = false
is_kind kind.Real (Number n) = false
is_kind kind.Real (Real b) = true
is_kind kind.Real (Character c) = false
is_kind kind.Character (Number n) = false
is_kind kind.Character (Real b) = false
is_kind kind.Character (Character c) = true

-- getting an item of a kind from items that wait before a clean or a spoiled end
abbrev pub first_of : Kind → List Item → Bool → Result Item Refusal
first_of k [] false = Err NothingWaits
first_of k [] true = Err SpoiledEnd
first_of k (x ∷ xs) spoiled = cond (is_kind k x) (Ok x) (Err OtherKind)

-- what waits after it: all but the first where that is taken, and else the same
abbrev pub rest_of : Kind → List Item → List Item
rest_of k [] = []
rest_of k (x ∷ xs) = cond (is_kind k x) xs (x ∷ xs)

-- what getting answers
abbrev pub got : Kind → Meaning → Result Item Refusal
got k m = first_of k m.waiting m.spoiled

-- the meaning after getting: only what waits can change
abbrev pub after_get : Kind → Meaning → Meaning
after_get k m = record { waiting = rest_of k m.waiting; spoiled = m.spoiled; written = m.written; left = m.left }

-- what writing answers
abbrev pub write_answer : Meaning → Result Unit Refusal
write_answer m = cond (nat_lt 0 m.left) (Ok tt) (Err NoWriteLeft)

-- the meaning after writing: the item is appended and one write fewer is left, or all is the same where none is left
abbrev pub after_write : Item → Meaning → Meaning
after_write x m = record {
  waiting = m.waiting;
  spoiled = m.spoiled;
  written = cond (nat_lt 0 m.left) (m.written ++ x ∷ []) m.written;
  left = m.left - 1;
}
