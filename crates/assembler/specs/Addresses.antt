-- Where the address of a label goes in a word.
use Rattle.std.specs.Prelude.{◌≡◌, ◌≤◌, ◌%◌, ◌^◌, List, [], ◌∷◌, Some, None, Option}
use Rattle.assembler.specs.Statements.{Meant, code, labelled, constant, text, stack, end, end_at}
use Rattle.assembler.specs.declared.label.Label.{Label}

-- no label's address is above 65,536
abbrev pub LowLabels : List Label → Type 0
LowLabels [] = Unit {0}
LowLabels (x ∷ xs) = (x.address ≤ 65536) × LowLabels xs

-- the 20 bits of the address are zero in a word to which a label's address is added
abbrev pub Clear : Option Meant → Type 0
Clear None = Unit {0}
Clear (Some (code w)) = Unit {0}
Clear (Some (labelled w l)) = w % 2 ^ 20 ≡ 0
Clear (Some (constant n)) = Unit {0}
Clear (Some (text cs)) = Unit {0}
Clear (Some (stack n)) = Unit {0}
Clear (Some (end n)) = Unit {0}
Clear (Some (end_at l)) = Unit {0}
