-- Readings that are made by counting.
use Rattle.std.specs.Prelude.{ℕ, zero, suc, ◌+◌, ◌-◌, false, List, [], ◌∷◌}
use Rattle.host.specs.declared.item.Item.{Item}
use Rattle.host.specs.declared.item.Item.TheVariants.{Number}
use Rattle.host.specs.Meaning.{Meaning}

-- so many numbers, from one on
abbrev pub numbers : ℕ → ℕ → List Item
numbers zero n = []
numbers (suc k) n = Number n ∷ numbers k (n + 1)

-- a new counting host: the numbers from one up to, and without, another, which end clean; nothing written, and 16 writes left
abbrev pub new_counting : ℕ → ℕ → Meaning
new_counting next end = record { waiting = numbers (end - next) next; spoiled = false; written = []; left = 16 }
