-- What two texts have in common at the front.
use Rattle.std.proofs.Common.{◌≡◌, refl, ℕ, ◌≤◌, Bool, List, [], ◌∷◌, length, drop, drop_of_length-le, ap, ◌∙◌}
use Rattle.tasks.specs.Difference.{common}

-- nothing with an empty text
common_nil : {X : Type 0} (same : X → X → Bool) (xs : List X) → common same xs [] ≡ 0
common_nil same [] = refl
common_nil same (x ∷ xs) = refl

-- nothing where the right text has ended
pub common_ended : {X : Type 0} (same : X → X → Bool) (xs ys : List X) (i : ℕ) → length ys ≤ i → common same (drop i xs) (drop i ys) ≡ 0
common_ended same xs ys i h = ap (common same (drop i xs)) (drop_of_length-le ys h) ∙ common_nil same (drop i xs)
