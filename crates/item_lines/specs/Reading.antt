-- The item that a line may tell: the line of another item is not it.
use Rattle.std.specs.Prelude.{ℕ, Bool, ◌^◌, cond, List, drop, None, Option, Some, Ok, Err, Result, codes, nat_lt, ◌==◌}
use Rattle.std.specs.Int.{w64, from_be_bytes}
use Rattle.std.specs.List.{starts_with}
use Rattle.hex.specs.Hex.{decode_sized}
use Rattle.hex.specs.declared.error.FromHexError.{FromHexError}
use Rattle.host.specs.declared.item.Item.{Item}
use Rattle.host.specs.declared.item.Item.TheVariants.{Number, Real, Character}
use Rattle.numerals.specs.Natural.{natural}

-- a number below a bound, as an item
abbrev pub below : ℕ → (ℕ → Item) → Option ℕ → Option Item
below bound make None = None
below bound make (Some n) = cond (nat_lt n bound) (Some (make n)) None

-- a number, and a character, by a numeral
abbrev pub number_in : List ℕ → Option Item
number_in word = below (2 ^ 32) Number (natural word)

abbrev pub character_in : List ℕ → Option Item
character_in word = below (2 ^ 8) Character (natural word)

-- a real by its bytes, the highest first
abbrev pub real_of : Result (List ℕ) FromHexError → Option Item
real_of (Ok bytes) = Some (Real (from_be_bytes w64 bytes))
real_of (Err e) = None

abbrev pub real_in : List ℕ → Option Item
real_in word = real_of (decode_sized word 8)

-- whether a line begins with a text
abbrev pub begins : List ℕ → List ℕ → Bool
begins front text = starts_with (λ a b. a == b) text front

abbrev pub item_in : List ℕ → Option Item
item_in text =
    cond (begins (codes "number ") text) (number_in (drop 7 text))
    (cond (begins (codes "real 0x") text) (real_in (drop 7 text))
    (cond (begins (codes "character ") text) (character_in (drop 10 text)) None))
