-- The law of permits, as a user of two machines sees it: call by call.
use Rattle.std.specs.Prelude.{◌≡◌, ℕ, zero, suc, List, [], ◌∷◌, length, Some, None}
use Rattle.permit.specs.Open.{AsOpen}
use Rattle.permit.specs.Rights.{rights_of}
use Rattle.permit.specs.declared.permit.Permit.{Permit}
use Rattle.runs.specs.Compared.{Both, met, first_answered, second_answered, both_after, End}
use Rattle.runs.specs.Requests.{IsOther}
use Rattle.runs.specs.declared.comparison.Outcome.{Outcome}
use Rattle.runs.specs.declared.comparison.Outcome.TheVariants.{Same, PermitFault, Different}
use Rattle.runs.specs.declared.comparison.Pairing.{Pairing}
use Rattle.runs.specs.declared.report.Ending.TheVariants.{Spent}
use Rattle.runs.specs.declared.request.Answer.TheVariants.{Ran}
use Rattle.runs.specs.declared.request.Call.{Call}
use Rattle.runs.specs.declared.request.Call.TheVariants.{Run, Register, Flags, Cell}

-- a run has a second permit that is at least as open as the first; a look asks no permit
abbrev pub AsOpenAt : Call → Permit → Permit → Type 0
AsOpenAt (Run b) p q = AsOpen (rights_of p) (rights_of q)
AsOpenAt (Register r) p q = Unit
AsOpenAt Flags p q = Unit
AsOpenAt (Cell a) p q = Unit

abbrev pub AllAsOpen : List Pairing → Type 0
AllAsOpen [] = Unit
AllAsOpen (x ∷ xs) = AsOpenAt x.request.call x.first x.second × AllAsOpen xs

-- what is handed in is the machines' own memories or another one, at every request
abbrev pub AllOther : ℕ → List ℕ → List Pairing → Type 0
AllOther size o [] = Unit
AllOther size o (x ∷ xs) = IsOther size o x.request.memory × AllOther size o xs

-- a call that meets no permit fault: both answers are equal with all their values, and both machines are equal after it in registers, flags, cells and the meaning of their hosts
pub record AnswersAlike (x : Pairing) (b : Both) : Type 0 where
  pub quiet : met (first_answered x b).answer ≡ None
  pub answer : (second_answered x b).answer ≡ (first_answered x b).answer
  pub held : (both_after x b).second ≡ (both_after x b).first

-- a run of the first machine that meets a permit fault after so many steps: the second, given these as its budget, is spent after as many, and both machines are equal after it
pub record SpentThere (n : ℕ) (x : Pairing) (b : Both) : Type 0 where
  pub fault : met (first_answered x b).answer ≡ Some n
  pub spent : (second_answered x b).answer ≡ Ran (record { steps = n; ending = Spent })
  pub held : (both_after x b).second ≡ (both_after x b).first

-- so many calls from some place of a list on are answered alike
abbrev pub AlikeFor : ℕ → List Pairing → Both → Type 0
AlikeFor zero xs b = Unit
AlikeFor (suc k) [] b = ⊥
AlikeFor (suc k) (x ∷ xs) b = AnswersAlike x b × AlikeFor k xs (both_after x b)

-- the calls from some place of a list on: so many are answered alike, and then the list is through, or the first machine meets a permit fault
abbrev pub AlikeThrough : ℕ → List Pairing → Both → Type 0
AlikeThrough k [] b = k ≡ zero
AlikeThrough zero (x ∷ xs) b = ⊥
AlikeThrough (suc k) (x ∷ xs) b = AnswersAlike x b × AlikeThrough k xs (both_after x b)

abbrev pub AlikeToFault : ℕ → ℕ → List Pairing → Both → Type 0
AlikeToFault k n [] b = ⊥
AlikeToFault zero n (x ∷ xs) b = SpentThere n x b
AlikeToFault (suc k) n (x ∷ xs) b = AnswersAlike x b × AlikeToFault k n xs (both_after x b)

-- what is seen of both up to an outcome
abbrev pub SeenAlike : Outcome → List Pairing → Both → Type 0
SeenAlike Same xs b = AlikeThrough (length xs) xs b
SeenAlike (PermitFault at n) xs b = AlikeToFault at n xs b
SeenAlike (Different at) xs b = ⊥

-- two machines that agree up to an end: no answer differs before a permit fault of the first, both are equal at the end, and the other memory is as it was
pub record Agrees (xs : List Pairing) (b : Both) (e : End) : Type 0 where
  pub calls : SeenAlike e.outcome xs b
  pub held : e.both.second ≡ e.both.first
  pub other : e.both.other ≡ b.other

-- two machines that are equal, the second under permits that are at least as open at every run, do not differ until the first meets a permit fault; no other memory that is handed in is as long as theirs
abbrev pub NeverDifferent : List Pairing → Both → End → Type 0
NeverDifferent xs b e = AllAsOpen xs → AllOther b.first.machine.size b.other xs → b.second ≡ b.first → Agrees xs b e

-- an outcome in which no answer differs
abbrev pub NoDifference : Outcome → Type 0
NoDifference Same = Unit
NoDifference (PermitFault at n) = Unit
NoDifference (Different at) = ⊥
