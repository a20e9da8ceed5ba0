-- What stands first on an input.
use Rattle.std.specs.Prelude.{◌≡◌, ◌≤◌, Bool, true, false, List, [], ◌∷◌, length, take, drop, Ok, Err, Result}
use Rattle.host.specs.declared.found.Found.{Found}
use Rattle.host.specs.declared.item.Item.{Item}
use Rattle.host.specs.declared.refusal.Refusal.{Refusal}
use Rattle.host.specs.declared.refusal.Refusal.TheVariants.{NothingWaits, SpoiledEnd, OtherKind, NoWriteLeft}
use Rattle.host.specs.Codes.{Code}

-- the first of some items with how many units it has, or why there is none
abbrev pub found_by : {X : Type 0} → Code X → List Item → Bool → Result Found Refusal
found_by c [] false = Err NothingWaits
found_by c [] true = Err SpoiledEnd
found_by c (x ∷ xs) spoiled = Ok (record { item = x; units = length (c.coded x) })

-- what stands first on units
abbrev pub found_first : {X : Type 0} → Code X → List X → Result Found Refusal
found_first c us = found_by c (c.items us) (c.spoiled us)

-- no item and a clean end, no item and a spoiled end, or the units of an item and then what is read past them; it asks for no kind and writes nothing, so it is never refused by 44 or 45
abbrev pub StandsFirst : {X : Type 0} → Code X → List X → Result Found Refusal → Type 0
StandsFirst c us (Err NothingWaits) = (c.items us ≡ []) × (c.spoiled us ≡ false)
StandsFirst c us (Err SpoiledEnd) = (c.items us ≡ []) × (c.spoiled us ≡ true)
StandsFirst c us (Err OtherKind) = ⊥
StandsFirst c us (Err NoWriteLeft) = ⊥
StandsFirst c us (Ok f) = (f.units ≤ length us) × (c.items us ≡ f.item ∷ c.items (drop f.units us)) × (c.spoiled us ≡ c.spoiled (drop f.units us)) × (take f.units us ≡ c.coded f.item)
