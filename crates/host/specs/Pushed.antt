-- Units pushed to a list with a maximum, all or none.
use Rattle.std.specs.Prelude.{ℕ, ◌+◌, Bool, cond, List, ◌++◌, length, drop, Ok, Err, Result, nat_le}
use Rattle.bounded.specs.Held.{entries, room}
use Rattle.bounded.specs.declared.list.BoundedList.{BoundedList}
use Rattle.bounded.specs.declared.list.Full.{Full}

-- whether a list has room for some units behind its entries
abbrev pub has_room : {X : Type 0} → List X → BoundedList X → Bool
has_room us l = nat_le (l.len + length us) (room l)

-- what pushing them answers: a refusal where there is no room for all
abbrev pub push_answer : {X : Type 0} → List X → BoundedList X → Result Unit Full
push_answer us l = cond (has_room us l) (Ok tt) (Err (record {}))

-- the lent items after it: the entries, the units, and the items past them as they were; all as they were where there is no room
abbrev pub items_pushed : {X : Type 0} → List X → BoundedList X → List X
items_pushed us l = cond (has_room us l) (entries l ++ us ++ drop (l.len + length us) l.items.now) l.items.now

-- the length after it
abbrev pub length_pushed : {X : Type 0} → List X → BoundedList X → ℕ
length_pushed us l = cond (has_room us l) (l.len + length us) l.len
