-- The checksum of numbers.
use Rattle.std.specs.Prelude.{ℕ, ◌+◌, ◌*◌, ◌%◌, ◌^◌, List, fold}

-- each number is added to 31 times what came before it, in 32 bits
abbrev pub added : ℕ → ℕ → ℕ
added sum number = (sum * 31 + number) % 2 ^ 32

-- each byte is added to 31 times the sum before it, in 32 bits
abbrev pub checksum_of : List ℕ → ℕ
checksum_of bytes = fold added 0 bytes
