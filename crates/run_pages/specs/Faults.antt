-- The page of a fault. Byte 10 ends each line.
use Rattle.std.specs.Prelude.{ℕ, List, [], ◌∷◌, ◌++◌, Some, None, codes, decimal, Option}
use Rattle.machine.specs.Numbers.{number_of}
use Rattle.machine.specs.declared.fault.Fault.{Fault}
use Rattle.run_pages.specs.Commands.{command_text}
use Rattle.sentences.specs.Pages.{no_line}

-- the command that a word is, or that there is no word
abbrev pub command_found : Option ℕ → List ℕ
command_found (Some w) = command_text w
command_found None = codes "none, the address is outside memory"

-- command at A: TEXT
abbrev pub command_line : ℕ → Option ℕ → List ℕ
command_line a w = (codes "command at " ++ (decimal a ++ codes ": ")) ++ command_found w ++ 10 ∷ []

-- the question that got a no, and the command
abbrev pub fault_page : Fault → Option ℕ → List ℕ
fault_page f w = no_line (number_of f.cause) ++ command_line f.address w
