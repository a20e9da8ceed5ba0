-- What number a word writes, however long it is.
use Rattle.std.specs.Prelude.{ℕ, ◌+◌, ◌-◌, ◌*◌, ◌^◌, min, cond, ◌&&◌, ◌||◌, List, [], ◌∷◌, Some, None, Option, ◌==◌, nat_le, nat_lt}

-- what a digit is worth (0 to 9, then a to f or A to F), and 99 for what is no digit
abbrev pub worth : ℕ → ℕ
worth b = cond (nat_le 48 b && nat_le b 57) (b - 48) (cond (nat_le 97 b && nat_le b 102) (b - 87) (cond (nat_le 65 b && nat_le b 70) (b - 55) 99))

-- the number that digits write after a front worth n
abbrev pub go_on : ℕ → ℕ → List ℕ → Option ℕ
go_on radix n [] = Some n
go_on radix n (b ∷ bs) = cond (nat_lt (worth b) radix) (go_on radix (n * radix + worth b) bs) None

-- one digit or more
abbrev pub digits_in : ℕ → List ℕ → Option ℕ
digits_in radix [] = None
digits_in radix (b ∷ bs) = go_on radix 0 (b ∷ bs)

-- after a 0: nothing, or x and hexadecimal digits, or octal digits
abbrev pub after_zero : List ℕ → Option ℕ
after_zero [] = Some 0
after_zero (b ∷ bs) = cond (b == 120 || b == 88) (digits_in 16 bs) (go_on 8 0 (b ∷ bs))

-- the number of a numeral without a sign; none where the word is no numeral
abbrev pub natural : List ℕ → Option ℕ
natural [] = None
natural (b ∷ bs) = cond (b == 48) (after_zero bs) (go_on 10 0 (b ∷ bs))

-- as far as it matters: no range goes past 2 ^ 32
abbrev pub capped : ℕ → ℕ
capped n = min n (2 ^ 32)
