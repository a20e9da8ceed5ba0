-- The numbers of faults, and where each of them arises.
use Rattle.std.specs.Prelude.{ℕ}
use Rattle.host.specs.Numbers as host
use Rattle.machine.specs.declared.cause.Cause.{Cause}
use Rattle.machine.specs.declared.cause.Cause.TheVariants.{Fetch, Opcode, SystemCall, Pair, Register, Shift, Quotient, Double, Character, Cell, Segment, Stack, Host}
use Rattle.machine.specs.declared.cause.Layer.{Layer}
use Rattle.machine.specs.declared.cause.Layer.TheVariants as layer

-- the number of each question
abbrev pub number_of : Cause → ℕ
number_of Fetch = 30
number_of Opcode = 31
number_of SystemCall = 32
number_of Pair = 33
number_of Register = 34
number_of Shift = 35
number_of Quotient = 36
number_of Double = 37
number_of Character = 38
number_of Cell = 39
number_of Segment = 40
number_of Stack = 41
number_of (Host refusal) = host.number_of refusal

-- 42 to 45 arise in the host, the others in the machine
abbrev pub layer_of : Cause → Layer
layer_of Fetch = layer.Machine
layer_of Opcode = layer.Machine
layer_of SystemCall = layer.Machine
layer_of Pair = layer.Machine
layer_of Register = layer.Machine
layer_of Shift = layer.Machine
layer_of Quotient = layer.Machine
layer_of Double = layer.Machine
layer_of Character = layer.Machine
layer_of Cell = layer.Machine
layer_of Segment = layer.Machine
layer_of Stack = layer.Machine
layer_of (Host refusal) = layer.Host
