-- Two executables told apart by their listings.
use Rattle.std.specs.Prelude.{◌≡◌, ℕ, Bool, true, List, Ok, Err, Result, Decides}
use Rattle.std.specs.Str.{bytes_eq}
use Rattle.executable.specs.Check.{Parts, checked}
use Rattle.listing.specs.Listing.{listing, room_for, listed, output_after}
use Rattle.listing.specs.declared.refusal.Refusal.{Refusal}

-- the first that is refused, or whether the executables are the same byte by byte
abbrev pub of_both : Bool → Result (List ℕ) Refusal → Result (List ℕ) Refusal → Result Bool Refusal
of_both same (Err q) right = Err q
of_both same (Ok l) (Err q) = Err q
of_both same (Ok l) (Ok r) = Ok same

-- the answer for two executables and the room for their listings
abbrev pub compared : List ℕ → List ℕ → ℕ → ℕ → Result Bool Refusal
compared xs ys left_room right_room = of_both (bytes_eq xs ys) (listed xs left_room) (listed ys right_room)

-- the second output afterwards
abbrev pub second_after : Result (List ℕ) Refusal → Result (List ℕ) Refusal → List ℕ → List ℕ
second_after (Err q) right out = out
second_after (Ok l) right out = output_after right out

-- an answer for two executables by their parts: yes exactly where both listings are equal, and exactly where both executables are
pub record Told (xs ys : List ℕ) (p q : Parts) (r : Result Bool Refusal) : Type 0 where
  pub same : Bool
  pub answer : r ≡ Ok same
  pub listings : Decides same (listing p ≡ listing q)
  pub executables : Decides same (xs ≡ ys)

-- that is answered for every two accepted executables whose listings have room
abbrev pub TellsEqual : List ℕ → List ℕ → ℕ → ℕ → Result Bool Refusal → Type 0
TellsEqual xs ys left_room right_room r =
    (p q : Parts) → checked xs ≡ Ok p → checked ys ≡ Ok q → room_for p left_room ≡ true → room_for q right_room ≡ true → Told xs ys p q r
