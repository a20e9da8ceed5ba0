-- Commands and the words that they are.
use Rattle.std.specs.Prelude.{ℕ, ◌+◌, ◌*◌, ◌^◌, cond, Some, None, Option, ◌==◌}
use Rattle.isa.specs.declared.command.Command.{Command}
use Rattle.isa.specs.declared.form.Form.{Form}
use Rattle.isa.specs.declared.form.Form.TheVariants.{Rr, Ri, Rm, J}
use Rattle.isa.specs.declared.opcode.Opcode.{Opcode}
use Rattle.isa.specs.Fields.{code_field, first_field, source_field, modifier_field, immediate_field, address_field, bits}
use Rattle.isa.specs.Operands.{Numbers, rr, ri, rm, j, numbers_in}
use Rattle.isa.specs.Table.{code_of, form_of, opcode_at}

-- a command by its opcode and its operands' numbers
pub record Plain : Type 0 where
  pub opcode : Opcode
  pub numbers : Numbers

-- an opcode with the numbers of its operands
abbrev pub instruction : Opcode → Numbers → Plain
instruction o n = record { opcode = o; numbers = n }

-- a command of the code by its opcode and numbers
abbrev pub plain : Command → Plain
plain c = instruction c.opcode (numbers_in c.operands)

-- what stands below the code: the first register in bits 20 to 23, then by the form a source register in 16 to 19 and a modifier in 0 to 15, or an immediate or an address in 0 to 19; a J word has zeros in 20 to 23
abbrev pub operand_bits : Numbers → ℕ
operand_bits (rr a b m) = a * 2 ^ 20 + b * 2 ^ 16 + bits 16 m
operand_bits (ri a i) = a * 2 ^ 20 + bits 20 i
operand_bits (rm a x) = a * 2 ^ 20 + x
operand_bits (j x) = x

-- the word that a command is assembled to: its code in bits 24 to 31
abbrev pub encoded : Plain → ℕ
encoded p = code_of p.opcode * 2 ^ 24 + operand_bits p.numbers

-- the operands in a word of a form; a J word has zeros in bits 20 to 23
abbrev pub operands_in : Form → ℕ → Option Numbers
operands_in Rr w = Some (rr (first_field w) (source_field w) (modifier_field w))
operands_in Ri w = Some (ri (first_field w) (immediate_field w))
operands_in Rm w = Some (rm (first_field w) (address_field w))
operands_in J w = cond (first_field w == 0) (Some (j (address_field w))) None

-- a command where there are operands, and else none
abbrev pub with_operands : Opcode → Option Numbers → Option Plain
with_operands o None = None
with_operands o (Some n) = Some (instruction o n)

-- a word with a known code is the command of that code with the operands of its form
abbrev pub with_opcode : Option Opcode → ℕ → Option Plain
with_opcode None w = None
with_opcode (Some o) w = with_operands o (operands_in (form_of o) w)

-- the command that a word is
abbrev pub decoded : ℕ → Option Plain
decoded w = with_opcode (opcode_at (code_field w)) w
