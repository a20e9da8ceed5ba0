-- The numbers that a field holds.
use Rattle.std.specs.Prelude.{ℕ, ◌-◌, ◌^◌, cond, ℤ, Some, None, Option, nat_lt}
use Rattle.std.specs.Int.Signed.{mag}

-- n where it is below a bound
abbrev pub below : ℕ → ℕ → Option ℕ
below bound n = cond (nat_lt n bound) (Some n) None

-- z where k bits hold it in two's complement: `mag` is n both of n and of -n - 1
abbrev pub in_bits : ℕ → ℤ → Option ℤ
in_bits k z = cond (nat_lt (mag z) (2 ^ (k - 1))) (Some z) None
