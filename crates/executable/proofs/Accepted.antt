-- What follows where every question gets a yes.
use Rattle.std.proofs.Common.{◌≡◌, ℕ, true, List, Ok, ◌∙◌}
use Rattle.std.proofs.lemmas.Bool.{cond-true}
use Rattle.executable.specs.Check.{parts_in, checked}
use Rattle.executable.specs.Questions.{long_enough, marked, right_processor, zero_filler, right_sizes, right_length, right_addresses}

module _ (bs : List ℕ) (a : long_enough bs ≡ true) (b : marked bs ≡ true) (c : right_processor bs ≡ true) (d : zero_filler bs ≡ true) (e : right_sizes bs ≡ true) (f : right_length bs ≡ true) (g : right_addresses bs ≡ true) where
  pub accepted : checked bs ≡ Ok (parts_in bs)
  accepted = cond-true _ _ _ a ∙ cond-true _ _ _ b ∙ cond-true _ _ _ c ∙ cond-true _ _ _ d ∙ cond-true _ _ _ e ∙ cond-true _ _ _ f ∙ cond-true _ _ _ g
