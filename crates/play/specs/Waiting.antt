-- The tape of the readings that still wait.
use Rattle.std.specs.Prelude.{◌≡◌, ℕ, ◌-◌, List, length, take, drop}
use Rattle.host.specs.Codes.{all_coded}
use Rattle.host.specs.Tapes.{items, tape_code}

-- the tape on which so many of the items of the readings wait: the readings without the bytes of the items before these
abbrev pub tape_left : List ℕ → ℕ → List ℕ
tape_left readings count = drop (length (all_coded tape_code (take (length (items readings) - count) (items readings)))) readings

-- what is left of the readings: their last items, with the bytes of these
pub record IsLeft (readings left : List ℕ) : Type 0 where
  pub bytes : left ≡ tape_left readings (length (items left))
  pub last : items left ≡ drop (length (items readings) - length (items left)) (items readings)
