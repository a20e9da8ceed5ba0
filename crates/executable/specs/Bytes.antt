-- Numbers and words in a run of bytes, least byte first.
use Rattle.std.specs.Prelude.{ℕ, ◌+◌, ◌*◌, List, [], ◌∷◌, take, drop}

-- the number that bytes write, the least first
abbrev pub little_endian : List ℕ → ℕ
little_endian [] = 0
little_endian (b ∷ bs) = b + 256 * little_endian bs

-- the 4-byte number at a place
abbrev pub number_at : ℕ → List ℕ → ℕ
number_at at bs = little_endian (take 4 (drop at bs))

-- the words, of 4 bytes each; bytes past the last whole word are none
abbrev pub words_of : List ℕ → List ℕ
words_of (a ∷ b ∷ c ∷ d ∷ rest) = little_endian (a ∷ b ∷ c ∷ d ∷ []) ∷ words_of rest
words_of (a ∷ b ∷ c ∷ []) = []
words_of (a ∷ b ∷ []) = []
words_of (a ∷ []) = []
words_of [] = []
