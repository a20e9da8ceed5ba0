-- Steps by what their commands do.
use Rattle.std.proofs.Common.{◌≡◌, ℕ, List, Ok, Err, ap}
use Rattle.host.specs.Meaning.{Meaning}
use Rattle.machine.specs.Act.{perform}
use Rattle.machine.specs.Cores.{Core, in_register}
use Rattle.machine.specs.Outcomes.{outcome}
use Rattle.machine.specs.Rules.{Rules}
use Rattle.machine.specs.Step.{State, state, ended, step_act, stepped}
use Rattle.machine.specs.declared.cause.Cause.{Cause}
use Rattle.machine.specs.declared.turn.Turn.{Turn}

-- a step that is taken
pub taken : (r : Rules) (s : State) (t : Turn) (core : Core) (c : List ℕ) (m : Meaning) → perform r (step_act s.core s.cells) s.cells s.meaning ≡ outcome (Ok t) core c m → stepped r s ≡ record { turn = Ok t; state = state core c m }
unfolding stepped
taken r s t core c m e = ap (ended s) e

-- a step that faults
pub faulted : (r : Rules) (s : State) (q : Cause) → perform r (step_act s.core s.cells) s.cells s.meaning ≡ Err q → stepped r s ≡ record { turn = Err (record { cause = q; address = in_register s.core 15 }); state = s }
unfolding stepped
faulted r s q e = ap (ended s) e
