-- Two machines that are asked the same requests, the second under permits of its own.
use Rattle.std.specs.Prelude.{◌≡◌, ◌⊎◌, ℕ, ◌+◌, List, [], ◌∷◌, length, Some, None, Option, cond}
use Rattle.permit.specs.Rights.{rights_of}
use Rattle.runs.specs.Laws.{by_permit}
use Rattle.runs.specs.Requests.{Answered, answered}
use Rattle.runs.specs.Runs.{Held}
use Rattle.runs.specs.declared.comparison.Outcome.{Outcome}
use Rattle.runs.specs.declared.comparison.Outcome.TheVariants.{Same, PermitFault, Different}
use Rattle.runs.specs.declared.comparison.Pairing.{Pairing}
use Rattle.runs.specs.declared.report.Ending.TheVariants.{Spent}
use Rattle.runs.specs.declared.request.Answer.{Answer}
use Rattle.runs.specs.declared.request.Answer.TheVariants.{Ran, Saw, Refused}
use Rattle.runs.specs.declared.request.Call.TheVariants.{Run}
use Rattle.runs.specs.declared.request.Request.{Request}

-- two machines with their memories and hosts, and another memory, of which parts are handed to both
pub record Both : Type 0 where
  pub first : Held
  pub second : Held
  pub other : List ℕ

-- the steps of a run that met a permit fault, if an answer tells of one
abbrev pub met : Answer → Option ℕ
met (Ran r) = cond (by_permit r.ending) (Some r.steps) None
met (Saw v) = None
met (Refused q) = None

-- what the second machine is asked: the same, or a run of as many steps as the first took to its permit fault
abbrev pub asked_then : Request → Option ℕ → Request
asked_then r None = r
asked_then r (Some n) = record { call = Run n; memory = r.memory }

-- what the second machine has to answer
abbrev pub wanted : Answer → Option ℕ → Answer
wanted a None = a
wanted a (Some n) = Ran (record { steps = n; ending = Spent })

-- the answers of both machines to a request, the first's first
abbrev pub first_answered : Pairing → Both → Answered
first_answered x b = answered (rights_of x.first) x.request b.first b.other

abbrev pub second_answered : Pairing → Both → Answered
second_answered x b = answered (rights_of x.second) (asked_then x.request (met (first_answered x b).answer)) b.second (first_answered x b).other

abbrev pub second_wanted : Pairing → Both → Answer
second_wanted x b = wanted (first_answered x b).answer (met (first_answered x b).answer)

-- both machines after a request
abbrev pub both_after : Pairing → Both → Both
both_after x b = record { first = (first_answered x b).held; second = (second_answered x b).held; other = (second_answered x b).other }

-- how two machines end after a list, and both as they are then
pub record End : Type 0 where
  pub outcome : Outcome
  pub both : Both

abbrev pub end_at : Outcome → Both → End
end_at o b = record { outcome = o; both = b }

-- after both answers: the first met a permit fault, or the rest of the list follows
abbrev pub AfterBoth : Option ℕ → ℕ → Both → End → Type 0 → Type 0
AfterBoth None at b e rest = rest
AfterBoth (Some n) at b e rest = e ≡ end_at (PermitFault at n) b

-- the requests in turn, up to the first permit fault of the first machine or the first answer that the second should not give
abbrev pub Compared : List Pairing → ℕ → Both → End → Type 0
Compared [] at b e = e ≡ end_at Same b
Compared (x ∷ xs) at b e =
    let agrees = (second_answered x b).answer ≡ second_wanted x b in
    let rest = Compared xs (at + 1) (both_after x b) e in
    (agrees × AfterBoth (met (first_answered x b).answer) at (both_after x b) e rest) ⊎ ((agrees → ⊥) × (e ≡ end_at (Different at) (both_after x b)))

-- a list and a start have one end
abbrev pub OneEnd : List Pairing → Both → Type 0
OneEnd xs b = (e f : End) → Compared xs 0 b e → Compared xs 0 b f → f ≡ e

-- how many calls both answered alike, of so many
abbrev pub agreed : Outcome → ℕ → ℕ
agreed Same all = all
agreed (PermitFault at n) all = at
agreed (Different at) all = at
