-- The order in which a step asks its questions.
use Rattle.std.specs.Prelude.{ℕ, ◌≤◌}
use Rattle.host.specs.declared.item.Item.{Item}
use Rattle.machine.specs.Act.{Act, fault, ask, get, put, load, store, push, done, Question, holds, register, pair, inside}
use Rattle.machine.specs.declared.cause.Cause.{Cause}
use Rattle.machine.specs.declared.cause.Cause.TheVariants.{Fetch, Opcode, SystemCall, Pair, Register, Shift, Quotient, Double, Character, Cell, Segment, Stack, Host}

-- the place of all that a host is asked, in the order of asking
abbrev pub host_rank : ℕ
host_rank = 9

-- the place of the cells that are touched, after call's target. All that is asked of one cell has this place: its order is that of cell_asked and push_asked
abbrev pub cell_rank : ℕ
cell_rank = 11

-- the place of each question in that order, of 39 where it is asked of call's target; the number that tells its fault has no part in it
abbrev pub rank_of : Cause → ℕ
rank_of Fetch = 0
rank_of Opcode = 1
rank_of SystemCall = 2
rank_of Pair = 3
rank_of Register = 4
rank_of Shift = 5
rank_of Quotient = 6
rank_of Double = 7
rank_of Character = 8
rank_of (Host refusal) = host_rank
rank_of Cell = 10
rank_of Segment = cell_rank
rank_of Stack = cell_rank

-- the place at which a command's question is asked
abbrev pub turn_of : Question → ℕ
turn_of (holds b q) = rank_of q
turn_of (register x r) = rank_of Register
turn_of (pair x r) = rank_of Register
turn_of (inside a) = rank_of Cell

-- a tree in which no question stands after one of a later place, from some place on
abbrev pub InTurn : ℕ → Act → Type 0
InTurn n (fault q) = n ≤ rank_of q
InTurn n (ask q next) = (n ≤ turn_of q) × InTurn (turn_of q) next
InTurn n (get k next) = (n ≤ host_rank) × ((x : Item) → InTurn host_rank (next x))
InTurn n (put x next) = (n ≤ host_rank) × InTurn host_rank next
InTurn n (load a next) = (n ≤ cell_rank) × ((v : ℕ) → InTurn cell_rank (next v))
InTurn n (store a v next) = (n ≤ cell_rank) × InTurn cell_rank next
InTurn n (push a v next) = (n ≤ cell_rank) × InTurn cell_rank next
InTurn n (done c t) = Unit
