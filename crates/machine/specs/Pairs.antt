-- 33: pairs of registers.
use Rattle.std.specs.Prelude.{ℕ, Bool, cond, Ok, Err, Result, nat_lt}
use Rattle.machine.specs.declared.cause.Cause.{Cause}
use Rattle.machine.specs.declared.cause.Cause.TheVariants as cause
use Rattle.machine.specs.declared.pair.Pair.{Pair}

-- 33: is there a register after one?
abbrev pub has_next : ℕ → Bool
has_next r = nat_lt r 15

-- the first register of a pair, or 33
abbrev pub pair_at : ℕ → Result ℕ Cause
pair_at r = cond (has_next r) (Ok r) (Err cause.Pair)

-- a pair of the code by its first register
abbrev pub first_of : Result Pair Cause → Result ℕ Cause
first_of (Ok p) = Ok p.low.number
first_of (Err q) = Err q
