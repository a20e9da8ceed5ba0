-- Looks at a machine.
use Rattle.std.specs.Prelude.{ℕ, cond, List, length, Ok, Err, Result, ◌==◌, nat_lt, slice_index}
use Rattle.machine.specs.Cores.{in_register}
use Rattle.runs.specs.Machines.{Machine}
use Rattle.runs.specs.declared.refusal.CallRefusal.{CallRefusal}
use Rattle.runs.specs.declared.refusal.CallRefusal.TheVariants.{OtherMemory, OutOfRange}

-- 53: is there such a register?
abbrev pub register_seen : Machine → ℕ → Result ℕ CallRefusal
register_seen m r = cond (nat_lt r 16) (Ok (in_register m.core r)) (Err OutOfRange)

-- 50: has the memory as many cells as when the machine was loaded? Then 53: is there such a cell?
abbrev pub cell_seen : Machine → List ℕ → ℕ → Result ℕ CallRefusal
cell_seen m c a = cond (length c == m.size) (cond (nat_lt a (length c)) (Ok (slice_index c a)) (Err OutOfRange)) (Err OtherMemory)
