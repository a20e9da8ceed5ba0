-- The bytes of a tape: 0x4E and 4 bytes is a number, 0x44 and 8 a real, 0x43 and 1 a character, least byte first.
use Rattle.std.specs.Prelude.{ℕ, zero, suc, ◌+◌, ◌*◌, ◌/◌, ◌%◌, Bool, true, false, cond, ◌&&◌, List, [], ◌∷◌, length, take, Ok, Err, Result, ◌==◌, nat_le, nat_lt}
use Rattle.host.specs.declared.found.Found.{Found}
use Rattle.host.specs.declared.item.Item.{Item}
use Rattle.host.specs.declared.item.Item.TheVariants.{Number, Real, Character}
use Rattle.host.specs.declared.refusal.Refusal.{Refusal}
use Rattle.host.specs.declared.refusal.Refusal.TheVariants.{NothingWaits, SpoiledEnd}
use Rattle.host.specs.Codes.{Code}

-- the number that bytes write, the least first
abbrev pub little_endian : List ℕ → ℕ
little_endian [] = 0
little_endian (b ∷ bs) = b + 256 * little_endian bs

-- so many bytes of a number, the least first
abbrev pub bytes_of : ℕ → ℕ → List ℕ
bytes_of zero n = []
bytes_of (suc k) n = n % 256 ∷ bytes_of k (n / 256)

-- the bytes of an operand after its command; 0 for a byte that is no command
abbrev pub size : ℕ → ℕ
size c = cond (c == 0x4E) 4 (cond (c == 0x44) 8 (cond (c == 0x43) 1 0))

-- the item of a command and its operand
abbrev pub item_of : ℕ → List ℕ → Item
item_of c operand = cond (c == 0x4E) (Number (little_endian operand)) (cond (c == 0x44) (Real (little_endian operand)) (Character (little_endian operand)))

-- a byte is a command, and its operand is not cut
abbrev pub whole : ℕ → List ℕ → Bool
whole c bs = nat_lt 0 (size c) && nat_le (size c) (length bs)

-- the items of bytes, once k more bytes are passed over: up to the end, or to what is no whole item
abbrev pub items_from : ℕ → List ℕ → List Item
items_from k [] = []
items_from zero (c ∷ bs) = cond (whole c bs) (item_of c (take (size c) bs) ∷ items_from (size c) bs) []
items_from (suc k) (c ∷ bs) = items_from k bs

-- whether they come to what is no whole item
abbrev pub spoiled_from : ℕ → List ℕ → Bool
spoiled_from k [] = false
spoiled_from zero (c ∷ bs) = cond (whole c bs) (spoiled_from (size c) bs) true
spoiled_from (suc k) (c ∷ bs) = spoiled_from k bs

-- the items on a tape
abbrev pub items : List ℕ → List Item
items bs = items_from 0 bs

-- whether a tape ends spoiled
abbrev pub spoiled : List ℕ → Bool
spoiled bs = spoiled_from 0 bs

-- what stands first on a tape, with the bytes that an item takes
abbrev pub first_on : List ℕ → Result Found Refusal
first_on [] = Err NothingWaits
first_on (c ∷ bs) = cond (whole c bs) (Ok (record { item = item_of c (take (size c) bs); units = suc (size c) })) (Err SpoiledEnd)

-- an item on a tape
abbrev pub coded : Item → List ℕ
coded (Number n) = 0x4E ∷ bytes_of 4 n
coded (Real n) = 0x44 ∷ bytes_of 8 n
coded (Character n) = 0x43 ∷ bytes_of 1 n

-- the code of a tape, whose units are bytes
abbrev pub tape_code : Code ℕ
tape_code = record { items = items; spoiled = spoiled; coded = coded; is_unit = λ b. nat_lt b 256 }
