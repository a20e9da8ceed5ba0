-- The listing of any executable.
use Rattle.std.specs.Prelude.{◌≡◌, ℕ, List, Ok, Err, Result, Vec}
use Rattle.std.specs.Global.{Global}
use Rattle.executable.specs.Check.{Parts, checked}
use Rattle.executable.specs.declared.refusal.Refusal as executable
use Rattle.listing.specs.Listing.{listing}
use Rattle.listing.specs.declared.refusal.Refusal.{Refusal}
use Rattle.listing.specs.declared.refusal.Refusal.TheVariants.{Executable}
use Rattle.tasks.specs.declared.listing_page.ListError.{ListError}
use Rattle.tasks.specs.declared.listing_page.ListError.TheVariants.{Refused, Memory}

-- the listing of an accepted executable, or the refusal of the check
abbrev pub listing_of : Result Parts executable.Refusal → Result (List ℕ) Refusal
listing_of (Ok p) = Ok (listing p)
listing_of (Err q) = Err (Executable q)

abbrev pub listed_whole : List ℕ → Result (List ℕ) Refusal
listed_whole bytes = listing_of (checked bytes)

-- an answer tells that, unless there is no memory
abbrev pub Lists : List ℕ → Result (Vec ℕ Global) ListError → Type 0
Lists bytes (Ok page) = listed_whole bytes ≡ Ok page.items
Lists bytes (Err (Refused q)) = listed_whole bytes ≡ Err q
Lists bytes (Err Memory) = Unit
