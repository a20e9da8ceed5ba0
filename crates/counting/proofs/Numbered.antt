-- The numbers from one up to another.
use Rattle.std.proofs.Common.{◌≡◌, ℕ, suc, ◌+◌, ◌-◌, ◌<◌, ◌∷◌, ap, arith}
use Rattle.host.specs.declared.item.Item.TheVariants.{Number}
use Rattle.counting.specs.Counted.{numbers}

-- the first, and those that follow it
pub numbers_more : (a b : ℕ) → a < b → numbers (b - a) a ≡ Number a ∷ numbers (b - (a + 1)) (a + 1)
numbers_more a b h =
    let one : b - a ≡ suc (b - (a + 1)) = omega arith in
    ap (λ (k : ℕ). numbers k a) one
