-- Items read from lent units and written to them.
use Rattle.std.specs.Prelude.{◌≡◌, ℕ, ◌+◌, false, cond, List, [], ◌++◌, length, drop, Ok, Err, Result, nat_lt}
use Rattle.bounded.specs.Held.{entries}
use Rattle.bounded.specs.declared.list.BoundedList.{BoundedList}
use Rattle.host.specs.declared.item.Item.{Item}
use Rattle.host.specs.declared.refusal.Refusal.{Refusal}
use Rattle.host.specs.Codes.{Code, all_coded}
use Rattle.host.specs.Meaning.{Meaning}
use Rattle.host.specs.Rooms.{room_for, writes_left}

-- units end clean, and are those of the items that are read from them
pub record IsCoded {X : Type 0} (c : Code X) (us : List X) : Type 0 where
  pub clean : c.spoiled us ≡ false
  pub back : us ≡ all_coded c (c.items us)

-- a new host: the items on its input, nothing written, and the writes asked for where question 46 gets a yes
abbrev pub new_lent : {X : Type 0} → Code X → ℕ → List X → ℕ → ℕ → Meaning
new_lent c most input room writes = record { waiting = c.items input; spoiled = c.spoiled input; written = []; left = writes_left (room_for most room writes) writes }

-- the input after getting: without the units of the item that was taken, and as it was after a refusal
abbrev pub input_after : {X : Type 0} → Code X → Result Item Refusal → List X → List X
input_after c (Ok x) us = drop (length (c.coded x)) us
input_after c (Err q) us = us

-- the lent units after an item is written to the list of the written ones: its entries, the item, and those past it as they were; all as they were where no write is left
abbrev pub output_after : {X : Type 0} → Code X → ℕ → Item → BoundedList X → List X
output_after c left item l = cond (nat_lt 0 left) (entries l ++ c.coded item ++ drop (l.len + length (c.coded item)) l.items.now) l.items.now

-- how many are written after it: those of the item more, or the same where no write is left
abbrev pub place_after : {X : Type 0} → Code X → ℕ → Item → BoundedList X → ℕ
place_after c left item l = cond (nat_lt 0 left) (l.len + length (c.coded item)) l.len
