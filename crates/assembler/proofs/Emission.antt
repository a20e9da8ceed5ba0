-- The turns of the second pass.
use Rattle.std.proofs.Common.{◌≡◌, ℕ, ◌-◌, true, false, eqb, List, [], ◌∷◌, ◌++◌, length, take, drop, is_some, Some, None, Option, sym, refl, ap, ◌∙◌, arith}
use Rattle.std.specs.List.{flat_map}
use Rattle.std.specs.Option.{option_map}
use Rattle.std.proofs.lemmas.List.{append_assoc, take_rest}
use Rattle.std.proofs.lemmas.Bool.{cond_both, false≢true}
use Rattle.assembler.specs.Characters.{in_front, until_quote, characters}
use Rattle.assembler.specs.Emit.{string_constants, four_bytes}

pub joined_append : {X A : Type 0} (f : X → List A) (xs ys : List X) → flat_map f (xs ++ ys) ≡ flat_map f xs ++ flat_map f ys
joined_append f [] ys = refl
joined_append f (x ∷ xs) ys = ap (λ l. f x ++ l) (joined_append f xs ys) ∙ sym (append_assoc (f x) (flat_map f xs) (flat_map f ys))

-- a string with a character in front
pub more_left : (u v : Option (List ℕ)) (x : ℕ) → u ≡ in_front (Some x) v → is_some u ≡ true → is_some v ≡ true
more_left u None x e s = sym (ap is_some e) ∙ s
more_left u (Some cs) x e s = refl

pub constants_on : (u v : Option (List ℕ)) (x : ℕ) → u ≡ in_front (Some x) v → is_some u ≡ true → flat_map four_bytes (string_constants u) ≡ four_bytes x ++ flat_map four_bytes (string_constants v)
constants_on u None x e s = absurd (false≢true (sym (ap is_some e) ∙ s))
constants_on u (Some cs) x e s = ap (λ w. flat_map four_bytes (string_constants w)) e

no_count : (n : ℕ) → ◌≡◌ {A = Option ℕ} (Some n) None → ⊥
no_count n e = let z : ◌≡◌ {A = ℕ} 0 1 = cc in omega arith

-- a word that has characters has them past its opening quote
pub past_quote : (w : List ℕ) (n : ℕ) → Some n ≡ option_map length (characters w) → characters w ≡ until_quote (take (length w - 1) (drop 1 w))
past_quote [] n e = absurd (no_count n e)
past_quote (b ∷ bs) n e =
    cond_both (eqb b 34) (until_quote bs) None (λ o. Some n ≡ option_map length o → o ≡ until_quote (take (length (b ∷ bs) - 1) (drop 1 (b ∷ bs))))
    (λ _ _. sym (ap until_quote (take_rest (b ∷ bs) 1))) (λ _ h. absurd (no_count n h)) e

pub some_counted : (o : Option (List ℕ)) (n : ℕ) → Some n ≡ option_map length o → is_some o ≡ true
some_counted None n e = absurd (no_count n e)
some_counted (Some cs) n e = refl

pub was_some : (n : Option ℕ) → is_some n ≡ true → (k : ℕ) × (n ≡ Some k)
was_some None s = absurd (false≢true s)
was_some (Some k) s = (k, refl)

pub none_counted : (o : Option (List ℕ)) (n : Option ℕ) → n ≡ option_map length o → is_some n ≡ false → o ≡ None
none_counted None n e s = refl
none_counted (Some cs) n e s = absurd (false≢true (sym s ∙ ap is_some e))
