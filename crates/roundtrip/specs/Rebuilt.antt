-- What an executable gives that is listed and assembled again.
use Rattle.std.specs.Prelude.{ℕ, cond, List, ◌++◌, length, drop, Ok, Err, Result, nat_le}
use Rattle.listing.specs.Listing.{listed}
use Rattle.listing.specs.Numbers as numbers
use Rattle.listing.specs.declared.refusal.Refusal as listing
use Rattle.roundtrip.specs.declared.refusal.Refusal.{Refusal}
use Rattle.roundtrip.specs.declared.refusal.Refusal.TheVariants.{Listing, OutputTooShort}

-- the number of each question
abbrev pub number_of : Refusal → ℕ
number_of (Listing q) = numbers.number_of q
number_of OutputTooShort = 13

-- a listed executable gives itself, where the output has room for it
abbrev pub rebuilt_from : List ℕ → ℕ → Result (List ℕ) listing.Refusal → Result (List ℕ) Refusal
rebuilt_from bs room (Err q) = Err (Listing q)
rebuilt_from bs room (Ok text) = cond (nat_le (length bs) room) (Ok bs) (Err OutputTooShort)

-- the answer for an executable, the room for its listing and the room for itself
abbrev pub rebuilt : List ℕ → ℕ → ℕ → Result (List ℕ) Refusal
rebuilt bs text_room room = rebuilt_from bs room (listed bs text_room)

-- what the call answers: the executable's length
abbrev pub length_of : Result (List ℕ) Refusal → Result ℕ Refusal
length_of (Ok bs) = Ok (length bs)
length_of (Err q) = Err q

-- the output afterwards: the executable, and past it what was there
abbrev pub written_to : List ℕ → Result (List ℕ) Refusal → List ℕ
written_to out (Ok bs) = bs ++ drop (length bs) out
written_to out (Err q) = out
