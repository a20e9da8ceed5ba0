-- What a step asks of a permit, and of memory.
use Rattle.std.specs.Prelude.{ℕ, ◌+◌, ◌-◌, Bool, true, cond, Ok, Err, Result, nat_le, nat_lt}
use Rattle.std.specs.Result.{result_and}
use Rattle.permit.specs.Levels.{may_read, may_write}
use Rattle.permit.specs.Rights.{Rights, rights_of, register_level}
use Rattle.machine.specs.declared.access.Access.{Access}
use Rattle.machine.specs.declared.access.Access.TheVariants.{Reading, Writing}
use Rattle.machine.specs.declared.cause.Cause.{Cause}
use Rattle.machine.specs.declared.cause.Cause.TheVariants as cause
use Rattle.machine.specs.declared.layout.Layout.{Layout}
use Rattle.machine.specs.declared.rules.Rules as code

-- the levels and the maximum of a permit, and how many words of code stand from cell 0 on, of constants after them, with the initial stack pointer
pub record Rules : Type 0 where
  pub rights : Rights
  pub layout : Layout

-- the rules of the code
abbrev pub rules_of : code.Rules → Rules
rules_of r = record { rights = rights_of r.permit.now; layout = r.layout }

-- whether a level allows an access
abbrev pub allows : Access → ℕ → Bool
allows Reading level = may_read level
allows Writing level = may_write level

-- 34: is a register open to an access?
abbrev pub allows_register : Rules → Access → ℕ → Bool
allows_register s x r = allows x (register_level s.rights r)

-- 39: does a memory of some size have a cell?
abbrev pub is_inside : ℕ → ℕ → Bool
is_inside size a = nat_lt a size

-- the level of a cell: the code stands from cell 0 on, the constants after it, and what is neither is open
abbrev pub cell_level : Rules → ℕ → ℕ
cell_level s a = cond (nat_lt a s.layout.code) s.rights.code (cond (nat_lt a (s.layout.code + s.layout.constants)) s.rights.constants 0)

-- 40: is the segment of a cell open to an access?
abbrev pub allows_cell : Rules → Access → ℕ → Bool
allows_cell s x a = allows x (cell_level s a)

-- 41: are the words from the initial stack pointer down to a cell no more than the maximum? A cell above gets a yes
abbrev pub fits_stack : Rules → ℕ → Bool
fits_stack s a = cond (nat_le a s.layout.stack) (nat_le (s.layout.stack - a + 1) s.rights.stack) true

-- a question is answered: a no is a cause
abbrev pub asked : Bool → Cause → Result Unit Cause
asked b q = cond b (Ok tt) (Err q)

-- 34 of a register
abbrev pub register_asked : Rules → Access → ℕ → Result Unit Cause
register_asked s x r = asked (allows_register s x r) cause.Register

-- 34 of a pair
abbrev pub pair_asked : Rules → Access → ℕ → Result Unit Cause
pair_asked s x r = result_and (register_asked s x r) (register_asked s x (r + 1))

-- 39 and 40 of a cell
abbrev pub cell_asked : Rules → ℕ → Access → ℕ → Result Unit Cause
cell_asked s size x a = result_and (asked (is_inside size a) cause.Cell) (asked (allows_cell s x a) cause.Segment)

-- 39 to 41 of a cell that a push writes
abbrev pub push_asked : Rules → ℕ → ℕ → Result Unit Cause
push_asked s size a = result_and (cell_asked s size Writing a) (asked (fits_stack s a) cause.Stack)
