-- What is told of an executable that runs under two permits. Byte 10 ends each line.
use Rattle.std.specs.Prelude.{ℕ, Bool, true, false, List, [], ◌∷◌, ◌++◌, codes, decimal, Some, None, Option}
use Rattle.machine.specs.Numbers.{number_of}
use Rattle.machine.specs.declared.fault.Fault.{Fault}
use Rattle.play.specs.Whole.{Orders}
use Rattle.play.specs.Whole as play
use Rattle.play.specs.declared.comparing.Parting.{Parting}
use Rattle.reply.specs.Replies.{line}
use Rattle.run_replies.specs.Running.{Running, ran_page}
use Rattle.run_replies.specs.declared.running.Extras.{Extras}
use Rattle.runs.specs.declared.comparison.Outcome.{Outcome}
use Rattle.runs.specs.declared.comparison.Outcome.TheVariants.{Same, PermitFault, Different}
use Rattle.sentences.specs.Pages.{no_line}

-- the fault that the first meets, and the question that got a no, if there is one
abbrev pub fault_lines : Option Fault → List ℕ
fault_lines None = []
fault_lines (Some f) = codes "fault " ++ (decimal (number_of f.cause) ++ (codes " address " ++ (decimal f.address ++ (10 ∷ no_line (number_of f.cause)))))

-- what the second does at a permit fault of the first; that both hold the same there is told of a second permit that is at least as open
abbrev pub second_line : Bool → List ℕ
second_line true = line (codes "the second is spent after as many steps, and holds the same there")
second_line false = line (codes "the second is spent after as many steps")

-- after how many steps the first meets which permit fault, and what the second does there
abbrev pub met_lines : ℕ → Option Fault → Bool → List ℕ
met_lines n f as_open = codes "the first meets a permit fault after " ++ (decimal n ++ (line (codes " steps") ++ (fault_lines f ++ second_line as_open)))

-- whether and where the two part
abbrev pub outcome_lines : Parting → Outcome → List ℕ
outcome_lines p Same = line (codes "the same throughout")
outcome_lines p (PermitFault at n) = met_lines n p.fault p.open
outcome_lines p (Different at) = line (codes "the second answers otherwise")

-- no law is about the two where the second permit is not at least as open
abbrev pub law_line : Bool → List ℕ
law_line true = []
law_line false = line (codes "the second permit is not at least as open as the first: that the two do not differ is no law of such permits")

-- what comes of the two, and the line that begins what is told of the run under the first permit
abbrev pub parting_lines : Parting → List ℕ
parting_lines p = outcome_lines p p.outcome ++ (law_line p.open ++ line (codes "under the first permit:"))

-- whether no answer of the two differs
abbrev pub is_same : Outcome → Bool
is_same Same = true
is_same (PermitFault at n) = true
is_same (Different at) = false

-- what is told of both, and of the run under the first all that is told of a run; the results are that run's
unfoldable pub parting_page : Orders → Extras → Parting → play.Outcome → List ℕ
parting_page o x p run = parting_lines p ++ ran_page o x run

abbrev pub parted : Orders → Extras → Parting → play.Outcome → Running
parted o x p run = record { reply = record { page = parting_page o x p run; done = is_same p.outcome }; results = Some run.results }
