-- Items written in units, and read back from them.
use Rattle.std.specs.Prelude.{ℕ, Bool, cond, List, ◌++◌, length, drop, Ok, Err, Result}
use Rattle.host.specs.declared.item.Item.{Item}
use Rattle.host.specs.declared.room.NoRoom.{NoRoom}
use Rattle.host.specs.Rooms.{room_for}

-- 46 of an output for a write of each of some items
abbrev pub all_fit : {X : Type 0} → ℕ → List Item → List X → Bool
all_fit most items output = room_for most (length output) (length items)

-- what writing items answers: how many units they have, or a refusal where question 46 gets a no
abbrev pub length_answer : {X : Type 0} → Bool → List X → Result ℕ NoRoom
length_answer asked units = cond asked (Ok (length units)) (Err (record {}))

-- an output after it: the units, and past them what stood there; all as it was after a refusal
abbrev pub output_with : {X : Type 0} → Bool → List X → List X → List X
output_with answered units output = cond answered (units ++ drop (length units) output) output
