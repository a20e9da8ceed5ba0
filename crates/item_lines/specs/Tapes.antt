-- What is on a tape, and the lines that show it.
use Rattle.std.specs.Prelude.{◌≡◌, ℕ, cond, List, [], ◌∷◌, ◌++◌, length, Some, None, Option, codes, decimal}
use Rattle.host.specs.Codes.{all_coded}
use Rattle.host.specs.Tapes.{items, spoiled, tape_code}
use Rattle.item_lines.specs.Lines.{item_lines}
use Rattle.item_lines.specs.declared.tape.Contents.{Contents}

-- the place at which a tape is spoiled, if it is: behind the bytes of its items
abbrev pub spoiled_place : List ℕ → Option ℕ
spoiled_place bs = cond (spoiled bs) (Some (length (all_coded tape_code (items bs)))) None

-- the items and that place
pub record HasContents (bs : List ℕ) (c : Contents) : Type 0 where
  pub items : c.items.items ≡ items bs
  pub spoiled : c.spoiled ≡ spoiled_place bs

-- the line that tells of a spoiled end
abbrev pub end_lines : Option ℕ → List ℕ
end_lines None = []
end_lines (Some n) = codes "spoiled at byte " ++ (decimal n ++ 10 ∷ [])

-- the lines of the items, and that line
abbrev pub tape_lines : List ℕ → List ℕ
tape_lines bs = item_lines (items bs) ++ end_lines (spoiled_place bs)
