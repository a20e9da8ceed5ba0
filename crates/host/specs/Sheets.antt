-- The records of a sheet: kind 1 is a number, 2 a real, 3 a character.
use Rattle.std.specs.Prelude.{ℕ, ◌^◌, Bool, true, false, cond, List, [], ◌∷◌, Some, None, Option, Ok, Err, Result, ◌==◌, nat_lt}
use Rattle.host.specs.declared.found.Found.{Found}
use Rattle.host.specs.declared.item.Item.{Item}
use Rattle.host.specs.declared.item.Item.TheVariants.{Number, Real, Character}
use Rattle.host.specs.declared.record.Record.{Record}
use Rattle.host.specs.declared.refusal.Refusal.{Refusal}
use Rattle.host.specs.declared.refusal.Refusal.TheVariants.{NothingWaits, SpoiledEnd}
use Rattle.host.specs.Codes.{Code}

-- a value below a bound
abbrev pub within : ℕ → (ℕ → Item) → ℕ → Option Item
within bound make n = cond (nat_lt n bound) (Some (make n)) None

-- the item of a record; none where no item is written so
abbrev pub item_of : Record → Option Item
item_of r =
    cond (r.kind == 1) (within (2 ^ 32) Number r.value)
    (cond (r.kind == 2) (Some (Real r.value))
    (cond (r.kind == 3) (within 256 Character r.value) None))

-- an item in front of the items of later records; none where the record has none
abbrev pub in_front : Option Item → List Item → List Item
in_front None xs = []
in_front (Some x) xs = x ∷ xs

-- a record without an item spoils the end
abbrev pub spoils : Option Item → Bool → Bool
spoils None later = true
spoils (Some x) later = later

-- the items on a sheet: up to the end, or to a record without one
abbrev pub items : List Record → List Item
items [] = []
items (r ∷ rs) = in_front (item_of r) (items rs)

-- whether a sheet ends spoiled
abbrev pub spoiled : List Record → Bool
spoiled [] = false
spoiled (r ∷ rs) = spoils (item_of r) (spoiled rs)

-- what stands first: an item takes one record
abbrev pub first_by : Option Item → Result Found Refusal
first_by None = Err SpoiledEnd
first_by (Some x) = Ok (record { item = x; units = 1 })

-- what stands first on a sheet
abbrev pub first_on : List Record → Result Found Refusal
first_on [] = Err NothingWaits
first_on (r ∷ rs) = first_by (item_of r)

-- an item on a sheet
abbrev pub record_of : Item → Record
record_of (Number n) = record { kind = 1; value = n }
record_of (Real n) = record { kind = 2; value = n }
record_of (Character n) = record { kind = 3; value = n }

-- the code of a sheet: one record for each item, and each record is a unit
abbrev pub sheet_code : Code Record
sheet_code = record { items = items; spoiled = spoiled; coded = λ x. record_of x ∷ []; is_unit = λ r. true }
