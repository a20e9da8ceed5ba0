-- The questions that getting and writing ask of a host.
use Rattle.std.specs.Prelude.{◌≡◌, ℕ, ◌<◌, Bool, true, false, ◌||◌, List, [], ◌∷◌, Ok, Err, Result, nat_lt}
use Rattle.host.specs.declared.item.Item.{Item}
use Rattle.host.specs.declared.item.Kind.{Kind}
use Rattle.host.specs.declared.refusal.Refusal.{Refusal}
use Rattle.host.specs.declared.refusal.Refusal.TheVariants.{NothingWaits, SpoiledEnd, OtherKind, NoWriteLeft}
use Rattle.host.specs.Meaning.{Meaning, is_kind}

-- whether an item waits
abbrev pub waits : List Item → Bool
waits [] = false
waits (x ∷ xs) = true

-- whether the first of some items is of a kind; yes where there is none
abbrev pub first_is : Kind → List Item → Bool
first_is k [] = true
first_is k (x ∷ xs) = is_kind k x

-- the question behind each refusal of getting; 45 is not asked there
abbrev pub asked : Refusal → Kind → Meaning → Bool
asked NothingWaits k m = waits m.waiting || m.spoiled
asked SpoiledEnd k m = waits m.waiting
asked OtherKind k m = first_is k m.waiting
asked NoWriteLeft k m = true

-- the place of each question in the order of asking
abbrev pub rank_of : Refusal → ℕ
rank_of NothingWaits = 0
rank_of SpoiledEnd = 1
rank_of OtherKind = 2
rank_of NoWriteLeft = 3

-- an item is answered where every question gets a yes; a refusal's own question gets a no, and each that is asked before it a yes
abbrev pub OnlyFirstNo : Kind → Meaning → Result Item Refusal → Type 0
OnlyFirstNo k m (Ok x) = (q : Refusal) → asked q k m ≡ true
OnlyFirstNo k m (Err q) = (asked q k m ≡ false) × ((p : Refusal) → rank_of p < rank_of q → asked p k m ≡ true)

-- 45: may one more item be written?
abbrev pub write_left : Meaning → Bool
write_left m = nat_lt 0 m.left

-- writing is refused by 45 alone, and only where no write is left
abbrev pub OnlyNoWriteLeft : Meaning → Result Unit Refusal → Type 0
OnlyNoWriteLeft m (Ok u) = write_left m ≡ true
OnlyNoWriteLeft m (Err q) = (q ≡ NoWriteLeft) × (write_left m ≡ false)
