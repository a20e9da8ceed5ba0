-- The bounds of what is cut to a word, as a program's literals have them.
use Rattle.std.proofs.Common.{◌≡◌, ℕ, true, false, Ok, Err, refl}
use Rattle.std.specs.Float.Ieee.{Float, neg, lt, of_bits, to_unsigned, binary64}
use Rattle.doubles.specs.Doubles.{minus_one, two_to_32, to_word, value}

-- 1.0 with its sign changed is -1
minus_one_is : neg (of_bits binary64 4607182418800017408) ≡ minus_one
unfolding neg of_bits
minus_one_is = refl

-- 4294967296.0 is 2^32
two_to_32_is : of_bits binary64 4751297606875873280 ≡ two_to_32
unfolding of_bits
two_to_32_is = refl

-- between both bounds a double is cut
pub cut : (a n : ℕ) (x : Float) → x ≡ value a → n ≡ to_unsigned 32 x → lt (neg (of_bits binary64 4607182418800017408)) x ≡ true → lt x (of_bits binary64 4751297606875873280) ≡ true → Ok n ≡ to_word a
cut a n x e k l h = let low = rw minus_one_is at l in let high = rw two_to_32_is at h in rw (← e, low, high, k)

-- at or below the first it is out of range
pub low_out : (a : ℕ) (x : Float) → x ≡ value a → lt (neg (of_bits binary64 4607182418800017408)) x ≡ false → Err (record {}) ≡ to_word a
low_out a x e l = let low = rw minus_one_is at l in rw (← e, low)

-- and at or above the second
pub high_out : (a : ℕ) (x : Float) → x ≡ value a → lt (neg (of_bits binary64 4607182418800017408)) x ≡ true → lt x (of_bits binary64 4751297606875873280) ≡ false → Err (record {}) ≡ to_word a
high_out a x e l h = let low = rw minus_one_is at l in let high = rw two_to_32_is at h in rw (← e, low, high)
