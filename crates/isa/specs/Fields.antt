-- The fields of a 32-bit word.
use Rattle.std.specs.Prelude.{ℕ, ◌-◌, ◌/◌, ◌%◌, ◌^◌, cond, ℤ, pos, negsuc, nat_lt}

-- bits 24 to 31
abbrev pub code_field : ℕ → ℕ
code_field w = w / 2 ^ 24

-- the four bits from a bit on
abbrev pub register_field : ℕ → ℕ → ℕ
register_field at w = w / 2 ^ at % 2 ^ 4

-- bits 20 to 23
abbrev pub first_field : ℕ → ℕ
first_field w = register_field 20 w

-- bits 16 to 19
abbrev pub source_field : ℕ → ℕ
source_field w = register_field 16 w

-- the number that k bits mean in two's complement (negsuc n is -n - 1)
abbrev pub signed : ℕ → ℕ → ℤ
signed k n = cond (nat_lt n (2 ^ (k - 1))) (pos n) (negsuc (2 ^ k - 1 - n))

-- the lowest k bits, signed
abbrev pub signed_field : ℕ → ℕ → ℤ
signed_field k w = signed k (w % 2 ^ k)

-- bits 0 to 15, signed
abbrev pub modifier_field : ℕ → ℤ
modifier_field w = signed_field 16 w

-- bits 0 to 19, signed
abbrev pub immediate_field : ℕ → ℤ
immediate_field w = signed_field 20 w

-- bits 0 to 19
abbrev pub address_field : ℕ → ℕ
address_field w = w % 2 ^ 20

-- the k bits that mean a number in two's complement
abbrev pub bits : ℕ → ℤ → ℕ
bits k (pos n) = n
bits k (negsuc n) = 2 ^ k - 1 - n

-- what a modifier adds to a word, modulo 2^32
abbrev pub modifier_word : ℕ → ℕ
modifier_word w = bits 32 (modifier_field w)

-- an immediate modulo 2^32
abbrev pub immediate_word : ℕ → ℕ
immediate_word w = bits 32 (immediate_field w)
