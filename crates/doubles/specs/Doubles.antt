-- Doubles by their 64 bits, over the library's model of IEEE 754's binary64: its operations round once, to nearest, ties to even, and its one value that is not a number has the bits 0x7FF8000000000000.
use Rattle.std.specs.Prelude.{ℕ, pos, Bool, true, false, cond, ◌&&◌, Ok, Err, Some, None, Option, Result}
use Rattle.std.specs.declared.cmp.Ordering.{Ordering}
use Rattle.std.specs.declared.cmp.Ordering.TheVariants.{Less, Equal, Greater}
use Rattle.std.specs.Float.Ieee as Ieee
use Rattle.std.specs.Float.Ieee.{Float, fin, binary64}
use Rattle.doubles.specs.declared.conversion.OutOfRange.{OutOfRange}

-- the value of some bits: all patterns that are not a number are one value
abbrev pub value : ℕ → Float
value b = Ieee.of_bits binary64 b

-- the bits of a value
abbrev pub stored : Float → ℕ
stored x = Ieee.to_bits binary64 x

-- each operation is IEEE 754's, rounded once
abbrev pub sum : ℕ → ℕ → ℕ
sum a b = stored (Ieee.add binary64 (value a) (value b))

abbrev pub difference : ℕ → ℕ → ℕ
difference a b = stored (Ieee.sub binary64 (value a) (value b))

abbrev pub product : ℕ → ℕ → ℕ
product a b = stored (Ieee.mul binary64 (value a) (value b))

abbrev pub quotient : ℕ → ℕ → ℕ
quotient a b = stored (Ieee.div binary64 (value a) (value b))

-- how the first compares with the second; none where one is not a number, of which no comparison is true. The two zeros are equal
abbrev pub compared : ℕ → ℕ → Option Ordering
compared a b =
    cond (Ieee.lt (value a) (value b)) (Some Less)
    (cond (Ieee.eq (value a) (value b)) (Some Equal)
    (cond (Ieee.lt (value b) (value a)) (Some Greater) None))

-- a word's number as a double; each of them is one, so that nothing is rounded
abbrev pub of_word : ℕ → ℕ
of_word n = stored (Ieee.of_int binary64 (pos n))

-- -1 and 2^32
abbrev pub minus_one : Float
minus_one = fin true 1 (pos 0)

abbrev pub two_to_32 : Float
two_to_32 = fin false 1 (pos 32)

-- 37: does a double lie between -1 and 2^32, so that without its fraction it is a number of 32 bits? What is not a number does not
abbrev pub fits_word : ℕ → Bool
fits_word a = Ieee.lt minus_one (value a) && Ieee.lt (value a) two_to_32

-- the whole part of a double, its fraction dropped
abbrev pub whole_part : ℕ → ℕ
whole_part a = Ieee.to_unsigned 32 (value a)

-- the whole part, or 37
abbrev pub to_word : ℕ → Result ℕ OutOfRange
to_word a = cond (fits_word a) (Ok (whole_part a)) (Err (record {}))
