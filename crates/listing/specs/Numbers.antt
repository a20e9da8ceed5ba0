-- The numbers of the refusals.
use Rattle.std.specs.Prelude.{ℕ}
use Rattle.executable.specs.Numbers as executable
use Rattle.listing.specs.declared.refusal.Refusal.{Refusal}
use Rattle.listing.specs.declared.refusal.Refusal.TheVariants.{Executable, OutputTooShort}

-- the number of each question
abbrev pub number_of : Refusal → ℕ
number_of (Executable q) = executable.number_of q
number_of OutputTooShort = 27
