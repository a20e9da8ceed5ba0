-- What the listing program prints for its input.
use Rattle.std.specs.Prelude.{ℕ, Bool, true, false, cond, List, length, Ok, Err, codes, Result, nat_lt}
use Rattle.executable.specs.Check.{Parts, checked}
use Rattle.executable.specs.Numbers.{number_of}
use Rattle.executable.specs.declared.refusal.Refusal.{Refusal}
use Rattle.executable.specs.declared.refusal.Refusal.TheVariants.{OtherLength}
use Rattle.listing.specs.Lines.{line_text, number_line}
use Rattle.listing.specs.Listing.{listing}
use Rattle.listing.specs.declared.printout.Printed.{Printed}
use Rattle.listing.specs.declared.printout.Printed.TheVariants.{Listing, Refused}

-- the program takes at most 8,192 bytes; more is refused as a wrong length
abbrev pub taken : List ℕ → Result Parts Refusal
taken input = cond (nat_lt 8192 (length input)) (Err OtherLength) (checked input)

-- a refusal is told on one line: the word `refused` and its number
abbrev pub refused_text : ℕ → List ℕ
refused_text n = line_text (number_line (codes "refused") n)

-- what the program prints: the listing, or the line of the refusal
abbrev pub text_of : Result Parts Refusal → List ℕ
text_of (Ok p) = listing p
text_of (Err q) = refused_text (number_of q)

-- whether an input is refused
abbrev pub is_refused : Result Parts Refusal → Bool
is_refused (Ok p) = false
is_refused (Err q) = true

-- the text that is printed
abbrev pub printed_text : Printed → List ℕ
printed_text (Listing text) = text.items
printed_text (Refused text) = text.items

-- and whether it tells a refusal
abbrev pub tells_refusal : Printed → Bool
tells_refusal (Listing text) = false
tells_refusal (Refused text) = true
