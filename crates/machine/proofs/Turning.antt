-- Every command asks its questions in turn.
use Rattle.std.proofs.Common.{ℕ, Bool, true, false, cond, List, length, Some, None, Option, arith, rules, ◌==◌, slice_index}
use Rattle.isa.specs.declared.opcode.Opcode.{Opcode}
use Rattle.machine.specs.declared.cause.Cause.TheVariants.{SystemCall}
use Rattle.machine.specs.Act.{Act, fault, ask, get, put, load, store, push, done}
use Rattle.machine.specs.Commands.{Fetch, act_of, numbered_call, exit, get_number, get_real, put_number, put_real, get_character, put_character}
use Rattle.machine.specs.Cores.{Core, in_register}
use Rattle.machine.specs.Rules.{is_inside}
use Rattle.machine.specs.Step.{step_act, with_opcode}
use Rattle.machine.specs.Table.{operation_of}
use Rattle.machine.specs.Turns.{InTurn}
use Rattle.machine.specs.declared.operation.Operand.TheVariants.{Source, Immediate, Address}
use Rattle.machine.specs.declared.operation.Operation.{Operation}
use Rattle.machine.specs.declared.operation.Operation.TheVariants.{Halt, CallSystem, Combine, Multiply, Divide, Invert, Shift, MakeDouble, MakeWord, Calculate, Compare, CompareDoubles, Jump, JumpIf, Push, Pop, Set, Load, LoadPair, Store, StorePair, Prepare, Call, CallAddress, Return}
use Rattle.isa.specs.Fields.{code_field, immediate_word}
use Rattle.isa.specs.Table.{opcode_at}

-- either of two trees
either : (n : ℕ) (b : Bool) (x y : Act) → InTurn n x → InTurn n y → InTurn n (cond b x y)
either n true x y h k = h
either n false x y h k = k

-- any system call, and none
chosen : (f : Fetch) (b₀ b₁ b₂ b₃ b₄ b₅ b₆ : Bool) → InTurn 2 (cond b₀ (exit f) (cond b₁ (get_number f) (cond b₂ (get_real f) (cond b₃ (put_number f) (cond b₄ (put_real f) (cond b₅ (get_character f) (cond b₆ (put_character f) (fault SystemCall))))))))
chosen f true b₁ b₂ b₃ b₄ b₅ b₆ = search rules
chosen f false true b₂ b₃ b₄ b₅ b₆ = search rules
chosen f false false true b₃ b₄ b₅ b₆ = search rules
chosen f false false false true b₄ b₅ b₆ = search rules
chosen f false false false false true b₅ b₆ = search rules
chosen f false false false false false true b₆ = search rules
chosen f false false false false false false true = search rules
chosen f false false false false false false false = search rules

-- the system call of a number
called : (n : ℕ) (f : Fetch) → InTurn 2 (numbered_call n f)
called n f = chosen f (n == 0) (n == 100) (n == 101) (n == 102) (n == 103) (n == 104) (n == 105)

-- every operation
operated : (o : Operation) (f : Fetch) → InTurn 2 (act_of o f)
operated Halt f = tt
operated CallSystem f = called (immediate_word f.word) f
operated (Combine how Source) f = search rules
operated (Combine how Immediate) f = search rules
operated (Combine how Address) f = search rules
operated (Multiply Source) f = search rules
operated (Multiply Immediate) f = search rules
operated (Multiply Address) f = search rules
operated (Divide Source) f = search rules
operated (Divide Immediate) f = search rules
operated (Divide Address) f = search rules
operated Invert f = search rules
operated (Shift d Source) f = search rules
operated (Shift d Immediate) f = search rules
operated (Shift d Address) f = search rules
operated (MakeDouble Source) f = search rules
operated (MakeDouble Immediate) f = search rules
operated (MakeDouble Address) f = search rules
operated MakeWord f = search rules
operated (Calculate how) f = search rules
operated (Compare Source) f = search rules
operated (Compare Immediate) f = search rules
operated (Compare Address) f = search rules
operated CompareDoubles f = search rules
operated Jump f = tt
operated (JumpIf c) f = tt
operated Push f = search rules
operated Pop f = search rules
operated (Set Source) f = search rules
operated (Set Immediate) f = search rules
operated (Set Address) f = search rules
operated (Load Source) f = search rules
operated (Load Immediate) f = search rules
operated (Load Address) f = search rules
operated (LoadPair Source) f = search rules
operated (LoadPair Immediate) f = search rules
operated (LoadPair Address) f = search rules
operated (Store Source) f = search rules
operated (Store Immediate) f = search rules
operated (Store Address) f = search rules
operated (StorePair Source) f = search rules
operated (StorePair Immediate) f = search rules
operated (StorePair Address) f = search rules
operated Prepare f = search rules
operated (Call Source) f = search rules
operated (Call Immediate) f = search rules
operated (Call Address) f = search rules
operated CallAddress f = search rules
operated Return f = search rules

-- a tree in turn from the question of system calls on is in turn from the first question on
later : (a : Act) → InTurn 2 a → InTurn 0 a
later (fault q) h = omega (arith, h)
later (ask q next) h = (omega (arith, h.0), h.1)
later (get k next) h = (omega arith, h.1)
later (put x next) h = (omega arith, h.1)
later (load a next) h = (omega arith, h.1)
later (store a v next) h = (omega arith, h.1)
later (push a v next) h = (omega arith, h.1)
later (done c t) h = tt

-- every command
with_code : (o : Option Opcode) (w : ℕ) (core : Core) → InTurn 0 (with_opcode o w core)
with_code None w core = search rules
with_code (Some o) w core = later _ (operated (operation_of o) _)

-- a step asks its questions in turn
pub steps_in_turn : (core : Core) (c : List ℕ) → InTurn 0 (step_act core c)
steps_in_turn core c = either 0 (is_inside (length c) (in_register core 15)) _ _ (with_code (opcode_at (code_field (slice_index c (in_register core 15)))) _ _) (search rules)
