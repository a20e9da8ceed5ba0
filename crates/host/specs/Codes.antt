-- Codes: items written in units of some kind.
use Rattle.std.specs.Prelude.{◌≡◌, ◌≢◌, ℕ, ◌≤◌, Bool, true, false, List, [], ◌∷◌, ◌++◌, length, All}
use Rattle.std.specs.List.{flat_map}
use Rattle.host.specs.declared.item.Item.{Item}
use Rattle.host.specs.Ranges.{InRange}

-- the items that units are read as, whether they end spoiled (and else clean), the units of an item, and whether a value is a unit
pub record Code (X : Type 0) : Type 0 where
  pub items : List X → List Item
  pub spoiled : List X → Bool
  pub coded : Item → List X
  pub is_unit : X → Bool

-- units read as some items, with a clean end
pub record ReadsAs {X : Type 0} (c : Code X) (us : List X) (xs : List Item) : Type 0 where
  pub items : c.items us ≡ xs
  pub clean : c.spoiled us ≡ false

-- the units of items, one after the other
abbrev pub all_coded : {X : Type 0} → Code X → List Item → List X
all_coded c xs = flat_map c.coded xs

-- units that begin no item: there are some, they are read as no item with a spoiled end, and no item's units stand at their beginning
pub record BeginNoItem {X : Type 0} (c : Code X) (us : List X) : Type 0 where
  pub some : us ≢ []
  pub items : c.items us ≡ []
  pub spoiled : c.spoiled us ≡ true
  pub none : (x : Item) (more : List X) → InRange x → us ≢ c.coded x ++ more

-- what is left behind the last item: nothing at a clean end, and units that begin no item at a spoiled one
abbrev pub RestAt : {X : Type 0} → Code X → Bool → List X → Type 0
RestAt c false rest = rest ≡ []
RestAt c true rest = BeginNoItem c rest

-- units are those of the items that they are read as, and then such a rest
pub record Parted {X : Type 0} (c : Code X) (us : List X) : Type 0 where
  pub rest : List X
  pub parts : us ≡ all_coded c (c.items us) ++ rest
  pub ending : RestAt c (c.spoiled us) rest

-- what holds of each code: no units are no item and a clean end; what follows units that end clean is read after them; the units of an item are read as that item, and are not too many; any units are those of their items and a rest
pub record CodeLaws {X : Type 0} (c : Code X) (most : ℕ) : Type 0 where
  pub empty : ReadsAs c [] []
  pub items_append : (us vs : List X) → c.spoiled us ≡ false → c.items (us ++ vs) ≡ c.items us ++ c.items vs
  pub spoiled_append : (us vs : List X) → c.spoiled us ≡ false → c.spoiled (us ++ vs) ≡ c.spoiled vs
  pub coded : (x : Item) → InRange x → ReadsAs c (c.coded x) (x ∷ [])
  pub short : (x : Item) → length (c.coded x) ≤ most
  pub parted : (us : List X) → All (λ u. c.is_unit u ≡ true) us → Parted c us
