-- 46: are 65,536 writes or fewer asked for, with room for so many units for each?
use Rattle.std.specs.Prelude.{ℕ, ◌*◌, Bool, cond, ◌&&◌, Ok, Err, Result, nat_le}
use Rattle.host.specs.declared.room.NoRoom.{NoRoom}

-- 46: are 65,536 writes or fewer asked for, with room for so many units for each?
abbrev pub room_for : ℕ → ℕ → ℕ → Bool
room_for each room writes = nat_le writes 65536 && nat_le (each * writes) room

-- what the call answers
abbrev pub room_answer : Bool → Result Unit NoRoom
room_answer asked = cond asked (Ok tt) (Err (record {}))

-- the writes of a host that was made: none where question 46 gets a no
abbrev pub writes_left : Bool → ℕ → ℕ
writes_left asked writes = cond asked writes 0
