-- A step: the word at r15 is fetched, r15 moves to the next word, and the command works from there.
use Rattle.std.specs.Prelude.{ℕ, cond, List, length, Some, None, Option, Ok, Err, Result, slice_index}
use Rattle.host.specs.Meaning.{Meaning}
use Rattle.isa.specs.Fields.{code_field}
use Rattle.isa.specs.Table.{opcode_at}
use Rattle.isa.specs.declared.opcode.Opcode.{Opcode}
use Rattle.machine.specs.Act.{Act, fault, After, perform}
use Rattle.machine.specs.Commands.{act_of, fetch}
use Rattle.machine.specs.Cores.{Core, in_register, advanced}
use Rattle.machine.specs.Rules.{Rules, is_inside}
use Rattle.machine.specs.Table.{operation_of}
use Rattle.machine.specs.declared.cause.Cause.{Cause}
use Rattle.machine.specs.declared.cause.Cause.TheVariants as cause
use Rattle.machine.specs.declared.fault.Fault.{Fault}
use Rattle.machine.specs.declared.turn.Turn.{Turn}

-- what a step works on: the processor, the cells, and what the host means
pub record State : Type 0 where
  pub core : Core
  pub cells : List ℕ
  pub meaning : Meaning

abbrev pub state : Core → List ℕ → Meaning → State
state core c m = record { core = core; cells = c; meaning = m }

-- 31: does some opcode have the code? Then its operation works on the fetched word
abbrev pub with_opcode : Option Opcode → ℕ → Core → Act
with_opcode None w core = fault cause.Opcode
with_opcode (Some o) w core = act_of (operation_of o) (fetch w core)

abbrev pub command_act : ℕ → Core → Act
command_act w core = with_opcode (opcode_at (code_field w)) w core

-- 30: does r15 point at a cell of the memory? Then the word there is fetched, of which the permit is not asked
abbrev pub step_act : Core → List ℕ → Act
step_act core c = cond (is_inside (length c) (in_register core 15)) (command_act (slice_index c (in_register core 15)) (advanced core)) (fault cause.Fetch)

-- how a step ends, and the state after it
pub record Stepped : Type 0 where
  pub turn : Result Turn Fault
  pub state : State

-- a step that is taken leaves what its command leaves; a fault tells its cause and where its word stands, and leaves all as it was
abbrev pub ended : State → Result After Cause → Stepped
ended s (Ok a) = record { turn = Ok a.turn; state = state a.core a.cells a.meaning }
ended s (Err q) = record { turn = Err (record { cause = q; address = in_register s.core 15 }); state = s }

-- one step: the word at r15 is fetched, r15 goes on by one, and the command works; or it faults, and all is as it was
unfoldable pub stepped : Rules → State → Stepped
stepped r s = ended s (perform r (step_act s.core s.cells) s.cells s.meaning)
