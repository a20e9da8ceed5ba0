-- The lines that tell how a run ended, and the page of a run. Byte 10 ends each line.
use Rattle.std.specs.Prelude.{ℕ, List, [], ◌∷◌, ◌++◌, codes, decimal}
use Rattle.machine.specs.Numbers.{number_of, layer_of}
use Rattle.machine.specs.declared.cause.Layer.{Layer}
use Rattle.machine.specs.declared.cause.Layer.TheVariants as layer
use Rattle.machine.specs.declared.fault.Fault.{Fault}
use Rattle.runs.specs.declared.report.Ending.{Ending}
use Rattle.runs.specs.declared.report.Ending.TheVariants as ending
use Rattle.runs.specs.declared.report.Report.{Report}

-- where a step was stopped
abbrev pub layer_name : Layer → List ℕ
layer_name layer.Machine = codes "machine"
layer_name layer.Host = codes "host"

-- ending fault NUMBER address A layer LAYER
abbrev pub fault_line : Fault → List ℕ
fault_line f =
    codes "ending fault " ++ (decimal (number_of f.cause)
    ++ (codes " address " ++ (decimal f.address ++ (codes " layer " ++ (layer_name (layer_of f.cause) ++ 10 ∷ [])))))

-- how a run ended
abbrev pub ending_line : Ending → List ℕ
ending_line ending.Spent = codes "ending spent" ++ 10 ∷ []
ending_line ending.Halted = codes "ending halted" ++ 10 ∷ []
ending_line (ending.Exited code) = codes "ending exited " ++ (decimal code ++ 10 ∷ [])
ending_line (ending.Fault f) = fault_line f

-- a line of a name and a count, and what follows it
abbrev pub count_line : List ℕ → ℕ → List ℕ → List ℕ
count_line name n more = name ++ (32 ∷ (decimal n ++ (10 ∷ more)))

-- the ending, the steps, and the items that were taken of the host and written to it
abbrev pub run_page : Report → ℕ → ℕ → List ℕ
run_page r taken written =
    ending_line r.ending ++ count_line (codes "steps") r.steps (count_line (codes "taken") taken (count_line (codes "written") written []))
