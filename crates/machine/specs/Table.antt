-- What each opcode does: one row for each.
use Rattle.std.specs.Prelude.{Some, None, Option}
use Rattle.isa.specs.declared.form.Form.{Form}
use Rattle.isa.specs.declared.form.Form.TheVariants as form
use Rattle.isa.specs.declared.opcode.Opcode.{Opcode}
use Rattle.isa.specs.declared.opcode.Opcode.TheVariants as op
use Rattle.machine.specs.declared.flags.calls.Condition.TheVariants as condition
use Rattle.machine.specs.declared.operation.Calculation.TheVariants as calculation
use Rattle.machine.specs.declared.operation.Combination.TheVariants as combination
use Rattle.machine.specs.declared.operation.Direction.TheVariants.{Left, Right}
use Rattle.machine.specs.declared.operation.Operand.{Operand}
use Rattle.machine.specs.declared.operation.Operand.TheVariants.{Source, Immediate, Address}
use Rattle.machine.specs.declared.operation.Operation.{Operation}
use Rattle.machine.specs.declared.operation.Operation.TheVariants.{Halt, CallSystem, Combine, Multiply, Divide, Invert, Shift, MakeDouble, MakeWord, Calculate, Compare, CompareDoubles, Jump, JumpIf, Push, Pop, Set, Load, LoadPair, Store, StorePair, Prepare, Call, CallAddress, Return}

-- the 54 rows
abbrev pub operation_of : Opcode → Operation
operation_of op.Halt = Halt
operation_of op.Syscall = CallSystem
operation_of op.Add = Combine combination.Sum Source
operation_of op.Addi = Combine combination.Sum Immediate
operation_of op.Sub = Combine combination.Difference Source
operation_of op.Subi = Combine combination.Difference Immediate
operation_of op.Mul = Multiply Source
operation_of op.Muli = Multiply Immediate
operation_of op.Div = Divide Source
operation_of op.Divi = Divide Immediate
operation_of op.Not = Invert
operation_of op.Shl = Shift Left Source
operation_of op.Shli = Shift Left Immediate
operation_of op.Shr = Shift Right Source
operation_of op.Shri = Shift Right Immediate
operation_of op.And = Combine combination.And Source
operation_of op.Andi = Combine combination.And Immediate
operation_of op.Or = Combine combination.Or Source
operation_of op.Ori = Combine combination.Or Immediate
operation_of op.Xor = Combine combination.Xor Source
operation_of op.Xori = Combine combination.Xor Immediate
operation_of op.Itod = MakeDouble Source
operation_of op.Dtoi = MakeWord
operation_of op.Addd = Calculate calculation.Sum
operation_of op.Subd = Calculate calculation.Difference
operation_of op.Muld = Calculate calculation.Product
operation_of op.Divd = Calculate calculation.Quotient
operation_of op.Cmp = Compare Source
operation_of op.Cmpi = Compare Immediate
operation_of op.Cmpd = CompareDoubles
operation_of op.Jmp = Jump
operation_of op.Jne = JumpIf condition.NotEqual
operation_of op.Jeq = JumpIf condition.Equal
operation_of op.Jle = JumpIf condition.LessOrEqual
operation_of op.Jl = JumpIf condition.Less
operation_of op.Jge = JumpIf condition.GreaterOrEqual
operation_of op.Jg = JumpIf condition.Greater
operation_of op.Push = Push
operation_of op.Pop = Pop
operation_of op.Lc = Set Immediate
operation_of op.La = Set Address
operation_of op.Mov = Set Source
operation_of op.Load = Load Address
operation_of op.Load2 = LoadPair Address
operation_of op.Store = Store Address
operation_of op.Store2 = StorePair Address
operation_of op.Loadr = Load Source
operation_of op.Loadr2 = LoadPair Source
operation_of op.Storer = Store Source
operation_of op.Storer2 = StorePair Source
operation_of op.Prc = Prepare
operation_of op.Call = Call Source
operation_of op.Calli = CallAddress
operation_of op.Ret = Return

-- the operand that an operation takes, if it takes one
abbrev pub operand_of : Operation → Option Operand
operand_of Halt = None
operand_of CallSystem = None
operand_of (Combine h o) = Some o
operand_of (Multiply o) = Some o
operand_of (Divide o) = Some o
operand_of Invert = None
operand_of (Shift h o) = Some o
operand_of (MakeDouble o) = Some o
operand_of MakeWord = None
operand_of (Calculate h) = None
operand_of (Compare o) = Some o
operand_of CompareDoubles = None
operand_of Jump = None
operand_of (JumpIf h) = None
operand_of Push = None
operand_of Pop = None
operand_of (Set o) = Some o
operand_of (Load o) = Some o
operand_of (LoadPair o) = Some o
operand_of (Store o) = Some o
operand_of (StorePair o) = Some o
operand_of Prepare = None
operand_of (Call o) = Some o
operand_of CallAddress = None
operand_of Return = None

-- the operand that the words of a form have
abbrev pub operand_in : Form → Operand
operand_in form.Rr = Source
operand_in form.Ri = Immediate
operand_in form.Rm = Address
operand_in form.J = Address
