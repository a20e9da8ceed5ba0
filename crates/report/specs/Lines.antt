-- The lines that the assembling program prints. Byte 10 ends each.
use Rattle.std.specs.Prelude.{ℕ, List, [], ◌∷◌, ◌++◌, codes, decimal}
use Rattle.std.specs.List.{flat_map}
use Rattle.assembler.specs.Labels.{name_in}
use Rattle.assembler.specs.Questions.{number_of}
use Rattle.assembler.specs.declared.label.Label.{Label}
use Rattle.assembler.specs.declared.question.Refusal.{Refusal}
use Rattle.builder.specs.declared.summary.Summary.{Summary}
use Rattle.report.specs.Meanings.{meaning_of}

-- a text as a line
abbrev pub line : List ℕ → List ℕ
line text = text ++ 10 ∷ []

-- refused NUMBER line LINE: MEANING
abbrev pub refusal_line : Refusal → List ℕ
refusal_line r =
    line (codes "refused " ++ (decimal (number_of r.question) ++ (codes " line " ++ (decimal r.origin.line ++ (codes ": " ++ meaning_of r.question)))))

-- label NAME: ADDRESS
abbrev pub label_line : List ℕ → Label → List ℕ
label_line text l = line (codes "label " ++ (name_in text l ++ (codes ": " ++ decimal l.address)))

-- the numbers of an executable, each on its line
abbrev pub number_lines : Summary → List ℕ
number_lines s =
    line (codes "words of code: " ++ decimal s.code)
    ++ (line (codes "words of constants: " ++ decimal s.constants)
    ++ (line (codes "first instruction: " ++ decimal s.first) ++ line (codes "stack pointer: " ++ decimal s.stack)))

-- the numbers of an executable, and the labels of the text that it was made from
abbrev pub success_lines : Summary → List ℕ → List Label → List ℕ
success_lines s text ls = number_lines s ++ flat_map (label_line text) ls
