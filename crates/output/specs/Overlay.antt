-- Text written into a caller's output.
use Rattle.std.specs.Prelude.{◌≡◌, ℕ, zero, suc, ◌+◌, ◌-◌, ◌^◌, min, List, [], ◌∷◌, length}

-- a text laid over an output from a place on; what falls past the output's end is lost
abbrev pub overlay : List ℕ → ℕ → List ℕ → List ℕ
overlay [] at text = []
overlay (x ∷ out) zero [] = x ∷ out
overlay (x ∷ out) zero (t ∷ text) = t ∷ overlay out zero text
overlay (x ∷ out) (suc at) text = x ∷ overlay out at text

-- a text was written from a place on; answered is the place after it, as far as 64 bits hold it
pub record Wrote (before : List ℕ) (at : ℕ) (text : List ℕ) (end : ℕ) (after : List ℕ) : Type 0 where
  pub ends : end ≡ min (at + length text) (2 ^ 64 - 1)
  pub laid : after ≡ overlay before at text
