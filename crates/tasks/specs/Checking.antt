-- A filed listing, checked against its executable.
use Rattle.std.specs.Prelude.{◌≡◌, ℕ, true, List, Ok, Err, Result}
use Rattle.std.specs.Str.{bytes_eq}
use Rattle.tasks.specs.Listing.{listed_whole}
use Rattle.tasks.specs.declared.checking.CheckError.{CheckError}
use Rattle.tasks.specs.declared.checking.CheckError.TheVariants.{Refused, Memory}
use Rattle.tasks.specs.declared.checking.Checked.{Checked}
use Rattle.tasks.specs.declared.listing_page.ListError.{ListError}
use Rattle.tasks.specs.declared.listing_page.ListError.TheVariants as list

-- an error of listing
abbrev pub after_listing : ListError → CheckError
after_listing (list.Refused q) = Refused q
after_listing list.Memory = Memory

-- what a check finds: the listing, that the executable is assembled from it, and whether the filed listing is it
pub record Finds (bytes filed : List ℕ) (found : Checked) : Type 0 where
  pub page : listed_whole bytes ≡ Ok found.page.items
  pub back : found.back ≡ true
  pub same : found.same ≡ bytes_eq found.page.items filed

-- an answer tells that or the refusal of the executable, unless there is no memory
abbrev pub Checks : List ℕ → List ℕ → Result Checked CheckError → Type 0
Checks bytes filed (Ok found) = Finds bytes filed found
Checks bytes filed (Err (Refused q)) = listed_whole bytes ≡ Err q
Checks bytes filed (Err Memory) = Unit
