-- Bytes that the check accepts get a yes to every question.
use Rattle.std.proofs.Common.{◌≡◌, refl, ℕ, Bool, true, false, List, Ok, Result, arith}
use Rattle.executable.specs.Check.{Parts, parts_in, ask, checked}
use Rattle.executable.specs.Questions.{long_enough, marked, right_processor, zero_filler, right_sizes, right_length, right_addresses, asked}
use Rattle.executable.specs.declared.refusal.Refusal.{Refusal}
use Rattle.executable.specs.declared.refusal.Refusal.TheVariants.{TooShort, NoMark, OtherProcessor, FillerNotZero, BadSizes, OtherLength, AddressTooLarge}

-- where the answers after a question come to parts, that question gets a yes
asked_on : (b : Bool) (q : Refusal) (next : Result Parts Refusal) (p : Parts) → ask b q next ≡ Ok p → (b ≡ true) × (next ≡ Ok p)
asked_on true q next p e = (refl, e)
asked_on false q next p e = let z : ◌≡◌ {A = ℕ} 0 1 = cc in absurd (omega arith)

module _ (bs : List ℕ) (p : Parts) (is : checked bs ≡ Ok p) where
  abbrev accepted : Result Parts Refusal
  accepted = Ok (parts_in bs)

  abbrev from_addresses : Result Parts Refusal
  from_addresses = ask (right_addresses bs) AddressTooLarge accepted

  abbrev from_length : Result Parts Refusal
  from_length = ask (right_length bs) OtherLength from_addresses

  abbrev from_sizes : Result Parts Refusal
  from_sizes = ask (right_sizes bs) BadSizes from_length

  abbrev from_filler : Result Parts Refusal
  from_filler = ask (zero_filler bs) FillerNotZero from_sizes

  abbrev from_processor : Result Parts Refusal
  from_processor = ask (right_processor bs) OtherProcessor from_filler

  abbrev from_mark : Result Parts Refusal
  from_mark = ask (marked bs) NoMark from_processor

  long : (long_enough bs ≡ true) × (from_mark ≡ Ok p)
  long = asked_on (long_enough bs) TooShort from_mark p is

  mark : (marked bs ≡ true) × (from_processor ≡ Ok p)
  mark = asked_on (marked bs) NoMark from_processor p long.1

  processor : (right_processor bs ≡ true) × (from_filler ≡ Ok p)
  processor = asked_on (right_processor bs) OtherProcessor from_filler p mark.1

  filler : (zero_filler bs ≡ true) × (from_sizes ≡ Ok p)
  filler = asked_on (zero_filler bs) FillerNotZero from_sizes p processor.1

  sizes : (right_sizes bs ≡ true) × (from_length ≡ Ok p)
  sizes = asked_on (right_sizes bs) BadSizes from_length p filler.1

  length_right : (right_length bs ≡ true) × (from_addresses ≡ Ok p)
  length_right = asked_on (right_length bs) OtherLength from_addresses p sizes.1

  addresses : (right_addresses bs ≡ true) × (accepted ≡ Ok p)
  addresses = asked_on (right_addresses bs) AddressTooLarge accepted p length_right.1

  pub each_yes : (q : Refusal) → asked q bs ≡ true
  each_yes TooShort = long.0
  each_yes NoMark = mark.0
  each_yes OtherProcessor = processor.0
  each_yes FillerNotZero = filler.0
  each_yes BadSizes = sizes.0
  each_yes OtherLength = length_right.0
  each_yes AddressTooLarge = addresses.0

  pub the_parts : p ≡ parts_in bs
  the_parts = let e : accepted ≡ Ok p = addresses.1 in cc
