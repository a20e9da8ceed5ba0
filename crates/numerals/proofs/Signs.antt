-- A minus in front.
use Rattle.std.proofs.Common.{◌≡◌, ℕ, zero, suc, ◌-◌, ◌^◌, ◌<◌, min, List, [], ◌∷◌, length, get_or, take, drop, Some, None, Option, sym, refl, ap, ◌∙◌, arith}
use Rattle.std.specs.Option.{option_map}
use Rattle.std.proofs.lemmas.List.{take_rest}
use Rattle.std.proofs.lemmas.Bool.{cond-true, eq-eqb}
use Rattle.numerals.specs.Natural.{natural, capped}
use Rattle.numerals.specs.Integer.{negative, integer, capped_integer}

pub negative_capped : (o : Option ℕ) → option_map negative (option_map capped o) ≡ option_map capped_integer (option_map negative o)
negative_capped None = refl
negative_capped (Some zero) = refl
negative_capped (Some (suc n)) = let e : min (suc n) (2 ^ 32) ≡ suc (min n (2 ^ 32 - 1)) = omega arith in ap (λ k. Some (negative k)) e

pub after_the_minus : (w : List ℕ) → 0 < length w → get_or w 0 0 ≡ 45 → integer w ≡ option_map negative (natural (take (length w - 1) (drop 1 w)))
after_the_minus [] h e = absurd (omega arith)
after_the_minus (b ∷ bs) h e = cond-true _ _ _ (eq-eqb b 45 e) ∙ sym (ap (λ l. option_map negative (natural l)) (take_rest (b ∷ bs) 1))
