-- The numbers of a host's refusals.
use Rattle.std.specs.Prelude.{ℕ}
use Rattle.host.specs.declared.refusal.Refusal.{Refusal}
use Rattle.host.specs.declared.refusal.Refusal.TheVariants.{NothingWaits, SpoiledEnd, OtherKind, NoWriteLeft}

-- the number of each question
abbrev pub number_of : Refusal → ℕ
number_of NothingWaits = 42
number_of SpoiledEnd = 43
number_of OtherKind = 44
number_of NoWriteLeft = 45
