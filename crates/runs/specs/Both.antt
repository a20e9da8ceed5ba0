-- One executable on two machines, each with a memory and a host.
use Rattle.std.specs.Prelude.{◌≡◌, ℕ, List, length, Ok, Err, Result}
use Rattle.host.specs.Meaning.{Meaning}
use Rattle.runs.specs.Agreement.{AllAsOpen, AllOther, AlikeFor, Agrees}
use Rattle.runs.specs.Compared.{Both, End, Compared, OneEnd, agreed}
use Rattle.runs.specs.Loading.{loaded, cells_after}
use Rattle.runs.specs.Machines.{Machine, machine_of}
use Rattle.runs.specs.Runs.{held}
use Rattle.runs.specs.declared.comparison.Comparison.{Comparison}
use Rattle.runs.specs.declared.comparison.Pairing.{Pairing}
use Rattle.runs.specs.declared.refusal.LoadRefusal.{LoadRefusal}

-- what is lent to a comparison: two memories with the meanings of their hosts, and another memory
pub record Lent : Type 0 where
  pub first_cells : List ℕ
  pub first_host : Meaning
  pub second_cells : List ℕ
  pub second_host : Meaning
  pub other : List ℕ

abbrev pub lent : List ℕ → Meaning → List ℕ → Meaning → List ℕ → Lent
lent c m d n o = record { first_cells = c; first_host = m; second_cells = d; second_host = n; other = o }

-- two machines over what is lent
abbrev pub both_over : Machine → Machine → Lent → Both
both_over m n l = record { first = held m l.first_cells l.first_host; second = held n l.second_cells l.second_host; other = l.other }

-- what is lent, once an executable is in both memories
abbrev pub filled : List ℕ → Lent → Lent
filled bs l = lent (cells_after bs l.first_cells) l.first_host (cells_after bs l.second_cells) l.second_host l.other

-- both machines as they are loaded, or the first refusal: all questions about the first memory come before those about the second
abbrev pub both_by : List ℕ → Lent → Result Machine LoadRefusal → Result Machine LoadRefusal → Result Both LoadRefusal
both_by bs l (Err q) second = Err q
both_by bs l (Ok m) (Err q) = Err q
both_by bs l (Ok m) (Ok n) = Ok (both_over m n (filled bs l))

abbrev pub both_loaded : List ℕ → Lent → Result Both LoadRefusal
both_loaded bs l = both_by bs l (loaded bs (length l.first_cells)) (loaded bs (length l.second_cells))

-- the end that a comparison tells of
abbrev pub end_of : Comparison → Lent → End
end_of c after = record { outcome = c.outcome; both = both_over (machine_of c.first) (machine_of c.second) after }

-- a comparison of two machines from their loading on: the one end of the list, and how many calls were answered alike
pub record ComparedFrom (start : Result Both LoadRefusal) (xs : List Pairing) (c : Comparison) (after : Lent) : Type 0 where
  pub both : Both
  pub start_is : start ≡ Ok both
  pub compared : Compared xs 0 both (end_of c after)
  pub only : OneEnd xs both
  pub agreed : c.agreed ≡ agreed c.outcome (length xs)

-- what a comparison answers and leaves: the list is asked of both machines as they are loaded; a refusal is the first one of loading, and leaves everything
abbrev pub Compares : List ℕ → List Pairing → Lent → Result Comparison LoadRefusal → Lent → Type 0
Compares bs xs l (Ok c) after = ComparedFrom (both_loaded bs l) xs c after
Compares bs xs l (Err q) after = (both_loaded bs l ≡ Err q) × (after ≡ l)

-- both memories are equally long, and both hosts mean the same
pub record AreLentAlike (l : Lent) : Type 0 where
  pub cells : length l.second_cells ≡ length l.first_cells
  pub hosts : l.second_host ≡ l.first_host

-- two machines that are loaded alike agree, and so many calls as are told were answered alike
pub record AgreesFrom (start : Result Both LoadRefusal) (xs : List Pairing) (c : Comparison) (after : Lent) : Type 0 where
  pub both : Both
  pub start_is : start ≡ Ok both
  pub agrees : Agrees xs both (end_of c after)
  pub alike : AlikeFor c.agreed xs both

-- two machines that are loaded alike, given the same list, the second under permits that are at least as open at every run, do not differ until the first meets a permit fault; no other memory that is handed in is as long as theirs
abbrev pub NeverDiffers : List ℕ → List Pairing → Lent → Result Comparison LoadRefusal → Lent → Type 0
NeverDiffers bs xs l (Ok c) after =
    AreLentAlike l → AllAsOpen xs → AllOther (length l.first_cells) l.other xs → AgreesFrom (both_loaded bs l) xs c after
NeverDiffers bs xs l (Err q) after = Unit

-- another memory is as it was, whatever the permits are, where no part of it that is handed in is as long as one of the memories
abbrev pub LeavesOther : List Pairing → Lent → Lent → Type 0
LeavesOther xs l after = AllOther (length l.first_cells) l.other xs → AllOther (length l.second_cells) l.other xs → after.other ≡ l.other
