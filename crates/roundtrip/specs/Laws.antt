-- Laws of listing and assembling together.
use Rattle.std.specs.Prelude.{◌≡◌, ℕ, ◌<◌, true, List, [], length, slice_index}
use Rattle.executable.specs.Check.{parts_in}
use Rattle.executable.specs.Questions.{asked}
use Rattle.executable.specs.declared.refusal.Refusal.{Refusal}
use Rattle.listing.specs.Listing.{listing}
use Rattle.assembler.specs.Assembled.{assembled, good}

-- numbers that are bytes: each is below 256
abbrev pub Bytes : List ℕ → Type 0
Bytes bs = (i : ℕ) → slice_index bs i < 256

-- an accepted executable gets a yes to every question of the check
abbrev pub Accepted : List ℕ → Type 0
Accepted bs = (q : Refusal) → asked q bs ≡ true

-- the listing of an accepted executable assembles, with no label entries and an output of its length, to that executable
abbrev pub AssemblesBack : Type 0
AssemblesBack = (bs : List ℕ) → Bytes bs → Accepted bs → assembled (listing (parts_in bs)) 0 (length bs) ≡ good bs []

-- two accepted executables have equal listings exactly when they are equal
abbrev pub TellsApart : Type 0
TellsApart = (xs ys : List ℕ) → Bytes xs → Bytes ys → Accepted xs → Accepted ys
    → (listing (parts_in xs) ≡ listing (parts_in ys) → xs ≡ ys) × (xs ≡ ys → listing (parts_in xs) ≡ listing (parts_in ys))
