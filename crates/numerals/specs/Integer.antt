-- Numerals that may have a minus in front.
use Rattle.std.specs.Prelude.{ℕ, zero, suc, ◌-◌, ◌^◌, min, cond, List, [], ◌∷◌, ℤ, pos, negsuc, None, Option, ◌==◌}
use Rattle.std.specs.Option.{option_map}
use Rattle.numerals.specs.Natural.{natural}

-- minus n
abbrev pub negative : ℕ → ℤ
negative zero = pos zero
negative (suc n) = negsuc n

-- a numeral without a sign, or one after a minus (45)
abbrev pub integer : List ℕ → Option ℤ
integer [] = None
integer (b ∷ bs) = cond (b == 45) (option_map negative (natural bs)) (option_map pos (natural (b ∷ bs)))

-- as far as it matters: no range goes past 2 ^ 32 either way
abbrev pub capped_integer : ℤ → ℤ
capped_integer (pos n) = pos (min n (2 ^ 32))
capped_integer (negsuc n) = negsuc (min n (2 ^ 32 - 1))
