-- Where two texts differ first.
use Rattle.std.specs.Prelude.{ℕ, suc, ◌+◌, ◌-◌, Bool, cond, not, List, [], ◌∷◌, length, take, drop, Some, None, Option, ◌==◌}
use Rattle.std.specs.List.{before_first, count_by, suffix_len}
use Rattle.std.specs.Str.{bytes_eq}
use Rattle.tasks.specs.declared.difference.Difference.{Difference}

-- how many items two lists have in common at the front
abbrev pub common : {X : Type 0} → (X → X → Bool) → List X → List X → ℕ
common same [] right = 0
common same (x ∷ left) [] = 0
common same (x ∷ left) (y ∷ right) = cond (same x y) (suc (common same left right)) 0

-- where the last line of a text begins: behind its last byte 10, or at 0
abbrev pub line_start : List ℕ → ℕ
line_start text = length text - suffix_len (λ b. not (b == 10)) text

-- a line in which two texts differ, by what it holds in both
pub record Shown : Type 0 where
  pub line : ℕ
  pub start : ℕ
  pub left : List ℕ
  pub right : List ℕ

abbrev pub shown : Difference → Shown
shown d = record { line = d.line; start = d.start; left = d.left.now; right = d.right.now }

-- the line of both texts that begins at a place
abbrev pub line_from : ℕ → List ℕ → List ℕ
line_from start text = before_first (λ b. b == 10) (drop start text)

-- the line in which what two texts have in common at the front ends: its number is 1 and how many line ends that has
abbrev pub line_after : List ℕ → List ℕ → List ℕ → Shown
line_after front left right = record {
  line = count_by (λ b. b == 10) front + 1;
  start = line_start front;
  left = line_from (line_start front) left;
  right = line_from (line_start front) right;
}

-- none where both are equal
abbrev pub first_difference : List ℕ → List ℕ → Option Shown
first_difference left right = cond (bytes_eq left right) None (Some (line_after (take (common (λ a b. a == b) left right) left) left right))
