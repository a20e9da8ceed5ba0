-- The header of an executable, and the questions asked of its bytes.
use Rattle.std.specs.Prelude.{ℕ, ◌+◌, ◌%◌, Bool, ◌&&◌, List, [], ◌∷◌, ◌++◌, length, take, drop, codes, ◌==◌, nat_le, nat_lt}
use Rattle.std.specs.List.{list_all}
use Rattle.std.specs.Str.{bytes_eq}
use Rattle.executable.specs.Bytes.{number_at}
use Rattle.executable.specs.declared.refusal.Refusal.{Refusal}
use Rattle.executable.specs.declared.refusal.Refusal.TheVariants.{TooShort, NoMark, OtherProcessor, FillerNotZero, BadSizes, OtherLength, AddressTooLarge}

-- bytes 0 to 15
abbrev pub mark : List ℕ
mark = codes "ThisIsKarmaExec" ++ 0 ∷ []

-- bytes 16 to 19
abbrev pub code_size : List ℕ → ℕ
code_size bs = number_at 16 bs

-- bytes 20 to 23
abbrev pub constants_size : List ℕ → ℕ
constants_size bs = number_at 20 bs

-- bytes 24 to 27
abbrev pub first_instruction : List ℕ → ℕ
first_instruction bs = number_at 24 bs

-- bytes 28 to 31
abbrev pub stack_pointer : List ℕ → ℕ
stack_pointer bs = number_at 28 bs

-- bytes 32 to 35
abbrev pub processor : List ℕ → ℕ
processor bs = number_at 32 bs

-- every byte is 0
abbrev pub all_zero : List ℕ → Bool
all_zero bs = list_all (λ b. b == 0) bs

-- 20: does a whole header stand there, 512 bytes?
abbrev pub long_enough : List ℕ → Bool
long_enough bs = nat_le 512 (length bs)

-- 21: do the first 16 bytes spell the mark?
abbrev pub marked : List ℕ → Bool
marked bs = bytes_eq (take 16 bs) mark

-- 22: is it made for processor 239?
abbrev pub right_processor : List ℕ → Bool
right_processor bs = processor bs == 239

-- 23: is the filler, bytes 36 to 511, all zero?
abbrev pub zero_filler : List ℕ → Bool
zero_filler bs = all_zero (drop 36 (take 512 bs))

-- 24: do both sizes count whole words, 65,536 at most in all?
abbrev pub right_sizes : List ℕ → Bool
right_sizes bs = code_size bs % 4 == 0 && (constants_size bs % 4 == 0 && nat_le (code_size bs + constants_size bs) 262144)

-- 25: is every byte accounted for by header and sizes?
abbrev pub right_length : List ℕ → Bool
right_length bs = length bs == 512 + code_size bs + constants_size bs

-- 26: are both addresses below 1,048,576?
abbrev pub right_addresses : List ℕ → Bool
right_addresses bs = nat_lt (first_instruction bs) 1048576 && nat_lt (stack_pointer bs) 1048576

-- the question behind each refusal
abbrev pub asked : Refusal → List ℕ → Bool
asked TooShort bs = long_enough bs
asked NoMark bs = marked bs
asked OtherProcessor bs = right_processor bs
asked FillerNotZero bs = zero_filler bs
asked BadSizes bs = right_sizes bs
asked OtherLength bs = right_length bs
asked AddressTooLarge bs = right_addresses bs

-- the place of each question in the order of asking
abbrev pub rank_of : Refusal → ℕ
rank_of TooShort = 0
rank_of NoMark = 1
rank_of OtherProcessor = 2
rank_of FillerNotZero = 3
rank_of BadSizes = 4
rank_of OtherLength = 5
rank_of AddressTooLarge = 6
