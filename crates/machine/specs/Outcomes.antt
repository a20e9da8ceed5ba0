-- What a function of the code is promised against the tree of a command.
use Rattle.std.specs.Prelude.{◌≡◌, ℕ, List, Ok, Err, Result}
use Rattle.host.specs.Meaning.{Meaning}
use Rattle.isa.specs.declared.fetched.Fetched.{Fetched}
use Rattle.machine.specs.Act.{Act, After, perform}
use Rattle.machine.specs.Commands.{Fetch, fetch}
use Rattle.machine.specs.Cores.{Core, core_of}
use Rattle.machine.specs.Rules.{rules_of}
use Rattle.machine.specs.declared.cause.Cause.{Cause}
use Rattle.machine.specs.declared.processor.Processor.{Processor}
use Rattle.machine.specs.declared.rules.Rules.{Rules}
use Rattle.machine.specs.declared.turn.Turn.{Turn}

-- an answer with what it left; a fault leaves nothing else
abbrev pub outcome : Result Turn Cause → Core → List ℕ → Meaning → Result After Cause
outcome (Ok t) core c m = Ok (record { turn = t; core = core; cells = c; meaning = m })
outcome (Err q) core c m = Err q

-- what touches neither cells nor host does what the tree says, whatever these are
abbrev pub Computes : Rules → (Fetch → Act) → Fetched → Processor → Result Turn Cause → Processor → Type 0
Computes rules act w old result new = (c : List ℕ) (m : Meaning) → perform (rules_of rules) (act (fetch w.word (core_of old))) c m ≡ outcome result (core_of new) c m

-- what touches cells and no host
abbrev pub Stores : Rules → (Fetch → Act) → Fetched → Processor → List ℕ → Result Turn Cause → Processor → List ℕ → Type 0
Stores rules act w old before result new after = (m : Meaning) → perform (rules_of rules) (act (fetch w.word (core_of old))) before m ≡ outcome result (core_of new) after m

-- what calls a host and touches no cell
abbrev pub Talks : Rules → (Fetch → Act) → Fetched → Processor → Meaning → Result Turn Cause → Processor → Meaning → Type 0
Talks rules act w old before result new after = (c : List ℕ) → perform (rules_of rules) (act (fetch w.word (core_of old))) c before ≡ outcome result (core_of new) c after
