-- The calling convention by simpler commands: prc, call, calli and ret each do what a sequence of pushes, pops, moves and a jump does.
use Rattle.std.specs.Prelude.{◌≡◌, ℕ, ◌+◌, ◌^◌, ◌<◌, List, [], ◌∷◌, length, pos, Some, Ok, Result, slice_index}
use Rattle.std.specs.Result.{result_and}
use Rattle.host.specs.Meaning.{Meaning}
use Rattle.isa.specs.Command.{instruction, encoded}
use Rattle.isa.specs.Fields.{code_field, first_field, source_field, modifier_word, address_field}
use Rattle.isa.specs.Operands.{Numbers, rr, ri, j}
use Rattle.isa.specs.Table.{opcode_at}
use Rattle.isa.specs.declared.opcode.Opcode.{Opcode}
use Rattle.isa.specs.declared.opcode.Opcode.TheVariants.{Push, Pop, Mov, Jmp, Prc, Call, Calli, Ret}
use Rattle.machine.specs.Act.{Act, After, on_yes, perform}
use Rattle.machine.specs.Commands.{next}
use Rattle.machine.specs.Cores.{Core, wrapped, in_register, with_register, advanced}
use Rattle.machine.specs.Rules.{Rules, is_inside, asked, register_asked}
use Rattle.machine.specs.Step.{State, Stepped, command_act, ended, stepped}
use Rattle.machine.specs.declared.access.Access.TheVariants.{Reading, Writing}
use Rattle.machine.specs.declared.cause.Cause.{Cause}
use Rattle.machine.specs.declared.cause.Cause.TheVariants as cause
use Rattle.machine.specs.declared.turn.Turn.TheVariants.{Next}
use Rattle.permit.specs.Rights.{register_level}

-- a part of a sequence: what a processor does as it is, with no fetch before
abbrev pub Part : Type 0
Part = Core → Act

-- a command as a part
abbrev pub command : Opcode → Numbers → Part
command o n core = command_act (encoded (instruction o n)) core

-- push r 0
abbrev pub push_of : ℕ → Part
push_of r = command Push (ri r (pos 0))

-- pop r 0
abbrev pub pop_of : ℕ → Part
pop_of r = command Pop (ri r (pos 0))

-- mov r q 0
abbrev pub move_of : ℕ → ℕ → Part
move_of r q = command Mov (rr r q (pos 0))

-- jmp a
abbrev pub jump_of : ℕ → Part
jump_of a = command Jmp (j a)

-- a jump to an address that jmp has no room for
abbrev pub far_jump : ℕ → Part
far_jump a core = next (with_register 15 a core)

-- parts one after another, each on what the one before left; the first fault ends them
abbrev pub one_by_one : Rules → List Part → Core → List ℕ → Meaning → Result After Cause
one_by_one s [] core c m = Ok (record { turn = Next; core = core; cells = c; meaning = m })
one_by_one s (p ∷ ps) core c m = on_yes (perform s (p core) c m) (λ a. one_by_one s ps a.core a.cells a.meaning)

-- a step that fetches a word and does parts in place of its command, and one that asks something before it does them
abbrev pub stepped_by : Rules → List Part → State → Stepped
stepped_by s ps x = ended x (one_by_one s ps (advanced x.core) x.cells x.meaning)

abbrev pub stepped_after : Result Unit Cause → Rules → List Part → State → Stepped
stepped_after q s ps x = ended x (on_yes q (λ u. one_by_one s ps (advanced x.core) x.cells x.meaning))

-- the word at r15
abbrev pub word_of : State → ℕ
word_of x = slice_index x.cells (in_register x.core 15)

-- at r15 stands a word with an opcode
pub record StandsAt (o : Opcode) (x : State) : Type 0 where
  pub inside : in_register x.core 15 < length x.cells
  pub opcode : opcode_at (code_field (word_of x)) ≡ Some o

-- the registers that calls use without naming them are open
pub record FrameIsOpen (s : Rules) : Type 0 where
  pub frame : register_level s.rights 13 ≡ 0
  pub stack : register_level s.rights 14 ≡ 0
  pub next : register_level s.rights 15 ≡ 0

-- the receiver and the target of a call
abbrev pub receiver : State → ℕ
receiver x = first_field (word_of x)

abbrev pub target : State → ℕ
target x = wrapped (in_register (advanced x.core) (source_field (word_of x)) + modifier_word (word_of x))

-- what call asks before it touches a cell: 34 of its source and of its receiver, and 39 of its target
abbrev pub call_asked : Rules → State → Result Unit Cause
call_asked s x =
    result_and (register_asked s Reading (source_field (word_of x)))
    (result_and (register_asked s Writing (receiver x))
    (asked (is_inside (length x.cells) (target x)) cause.Cell))

-- the sequences. r15 stays the return address until the jump
abbrev pub prc_parts : List Part
prc_parts = push_of 13 ∷ move_of 13 14 ∷ []

abbrev pub calli_parts : ℕ → List Part
calli_parts a = push_of 15 ∷ push_of 13 ∷ move_of 13 14 ∷ jump_of a ∷ []

abbrev pub call_parts : ℕ → ℕ → List Part
call_parts r a = push_of 15 ∷ push_of 13 ∷ move_of 13 14 ∷ move_of r 15 ∷ far_jump a ∷ []

abbrev pub ret_parts : List Part
ret_parts = move_of 14 13 ∷ pop_of 13 ∷ pop_of 15 ∷ move_of 14 13 ∷ pop_of 13 ∷ []

-- a step is its sequence, in what it leaves and in its fault; that of call is the sequence after call's own questions
pub record CallsAreSequences (s : Rules) (x : State) : Type 0 where
  pub prc : StandsAt Prc x → stepped s x ≡ stepped_by s prc_parts x
  pub calli : StandsAt Calli x → stepped s x ≡ stepped_by s (calli_parts (address_field (word_of x))) x
  pub call : StandsAt Call x → stepped s x ≡ stepped_after (call_asked s x) s (call_parts (receiver x) (target x)) x
  pub ret : StandsAt Ret x → stepped s x ≡ stepped_by s ret_parts x

-- a state as a step is handed it, whatever it is: 16 registers, and registers and cells of 32 bits
pub record IsLawful (x : State) : Type 0 where
  pub count : length x.core.registers ≡ 16
  pub registers : (r : ℕ) → in_register x.core r < 2 ^ 32
  pub cells : (a : ℕ) → slice_index x.cells a < 2 ^ 32

-- so it is under every permit under which r13, r14 and r15 are open
abbrev pub ActLikeSequences : Rules → State → Type 0
ActLikeSequences s x = IsLawful x → FrameIsOpen s → CallsAreSequences s x
