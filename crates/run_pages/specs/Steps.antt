-- The lines of steps. Byte 10 ends each.
use Rattle.std.specs.Prelude.{ℕ, List, [], ◌∷◌, ◌++◌, codes, decimal}
use Rattle.std.specs.List.{flat_map}
use Rattle.run_pages.specs.Changes.{changes_text}
use Rattle.run_pages.specs.Commands.{command_text}
use Rattle.run_pages.specs.declared.step.Step.{Step}

-- step N address A, and a blank
abbrev pub step_place : Step → List ℕ
step_place s = codes "step " ++ (decimal s.number ++ (codes " address " ++ (decimal s.address ++ 32 ∷ [])))

-- step N address A COMMAND: CHANGES
abbrev pub step_line : Step → List ℕ
step_line s = step_place s ++ command_text s.word ++ codes ": " ++ changes_text s ++ 10 ∷ []

-- one after the other
abbrev pub steps_page : List Step → List ℕ
steps_page ss = flat_map step_line ss
