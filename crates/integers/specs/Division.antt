-- Division of a number of 64 bits by a word.
use Rattle.std.specs.Prelude.{ℕ, ◌/◌, ◌%◌, ◌^◌, Bool, cond, ◌&&◌, Ok, Err, Result, nat_lt}
use Rattle.integers.specs.declared.division.NoFit.{NoFit}

-- 36: is there a quotient that fits in a word? A zero divisor has none
abbrev pub quotient_fits : ℕ → ℕ → Bool
quotient_fits n d = nat_lt 0 d && nat_lt (n / d) (2 ^ 32)

-- the quotient and the remainder, or 36
abbrev pub divided : ℕ → ℕ → Result (ℕ × ℕ) NoFit
divided n d = cond (quotient_fits n d) (Ok (n / d, n % d)) (Err (record {}))
