-- The numbers of the refusals.
use Rattle.std.specs.Prelude.{ℕ}
use Rattle.executable.specs.declared.refusal.Refusal.{Refusal}
use Rattle.executable.specs.declared.refusal.Refusal.TheVariants.{TooShort, NoMark, OtherProcessor, FillerNotZero, BadSizes, OtherLength, AddressTooLarge}

-- the number of each question
abbrev pub number_of : Refusal → ℕ
number_of TooShort = 20
number_of NoMark = 21
number_of OtherProcessor = 22
number_of FillerNotZero = 23
number_of BadSizes = 24
number_of OtherLength = 25
number_of AddressTooLarge = 26
