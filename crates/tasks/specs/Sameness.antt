-- Two executables, compared by their listings.
use Rattle.std.specs.Prelude.{◌≡◌, ℕ, Bool, List, Ok, Err, Result}
use Rattle.std.specs.Str.{bytes_eq}
use Rattle.executable.specs.Check.{Parts}
use Rattle.executable.specs.declared.refusal.Refusal as executable
use Rattle.listing.specs.declared.refusal.Refusal.{Refusal}
use Rattle.tasks.specs.Listing.{listed_whole}
use Rattle.tasks.specs.declared.sameness.SameError.{SameError}
use Rattle.tasks.specs.declared.sameness.SameError.TheVariants.{Left, Right, Memory}

-- a refusal is the left's where the left is refused, and else the right's
abbrev pub refused_by : Result Parts executable.Refusal → Refusal → SameError
refused_by (Ok p) q = Right q
refused_by (Err e) q = Left q

-- the first that is refused, or whether the executables are the same byte by byte
abbrev pub of_both : Bool → Result (List ℕ) Refusal → Result (List ℕ) Refusal → Result Bool SameError
of_both same (Err q) right = Err (Left q)
of_both same (Ok l) (Err q) = Err (Right q)
of_both same (Ok l) (Ok r) = Ok same

abbrev pub compared : List ℕ → List ℕ → Result Bool SameError
compared left right = of_both (bytes_eq left right) (listed_whole left) (listed_whole right)

-- an answer is that, unless there is no memory
abbrev pub Compares : List ℕ → List ℕ → Result Bool SameError → Type 0
Compares left right (Ok same) = compared left right ≡ Ok same
Compares left right (Err (Left q)) = compared left right ≡ Err (Left q)
Compares left right (Err (Right q)) = compared left right ≡ Err (Right q)
Compares left right (Err Memory) = Unit
