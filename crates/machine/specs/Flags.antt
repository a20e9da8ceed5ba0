-- The flags register.
use Rattle.std.specs.Prelude.{ℕ, ◌/◌, ◌%◌, ◌^◌, Bool, true, false, ◌||◌, Some, None, Option, ◌==◌}
use Rattle.std.specs.Ordering.{is_eq, is_ne, is_gt, is_lt, is_ge, is_le}
use Rattle.std.specs.declared.cmp.Ordering.{Ordering}
use Rattle.std.specs.declared.cmp.Ordering.TheVariants.{Less, Equal, Greater}
use Rattle.machine.specs.declared.flags.calls.Condition.{Condition}
use Rattle.machine.specs.declared.flags.calls.Condition.TheVariants as condition

-- 0 new, 2 unordered, 22 greater, 42 less, 49 equal
abbrev pub is_flags : ℕ → Bool
is_flags n = n == 0 || (n == 2 || (n == 22 || (n == 42 || n == 49)))

-- what a comparison leaves: 2 where there is no order
abbrev pub flags_after : Option Ordering → ℕ
flags_after None = 2
flags_after (Some Greater) = 22
flags_after (Some Less) = 42
flags_after (Some Equal) = 49

-- the bit that a condition looks at
abbrev pub bit_of : Condition → ℕ
bit_of condition.Equal = 0
bit_of condition.NotEqual = 1
bit_of condition.Greater = 2
bit_of condition.Less = 3
bit_of condition.GreaterOrEqual = 4
bit_of condition.LessOrEqual = 5

-- whether that bit is set
abbrev pub is_met : Condition → ℕ → Bool
is_met c n = n / 2 ^ bit_of c % 2 == 1

-- what a condition means of an order; where there is none, only "not equal" holds
abbrev pub satisfies : Condition → Option Ordering → Bool
satisfies condition.Equal None = false
satisfies condition.NotEqual None = true
satisfies condition.Greater None = false
satisfies condition.Less None = false
satisfies condition.GreaterOrEqual None = false
satisfies condition.LessOrEqual None = false
satisfies condition.Equal (Some o) = is_eq o
satisfies condition.NotEqual (Some o) = is_ne o
satisfies condition.Greater (Some o) = is_gt o
satisfies condition.Less (Some o) = is_lt o
satisfies condition.GreaterOrEqual (Some o) = is_ge o
satisfies condition.LessOrEqual (Some o) = is_le o
