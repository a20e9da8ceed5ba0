-- Words and their fields.
use Rattle.std.proofs.Common.{◌≡◌, ℕ, ◌+◌, ◌*◌, ◌%◌, ◌^◌, ◌<◌, Some, ap, ◌∙◌, mod-eq_of_lt, arith}
use Rattle.std.proofs.Math.Pow.{pow-lt}
use Rattle.isa.specs.declared.opcode.Opcode.{Opcode}
use Rattle.isa.specs.Command.{instruction, with_opcode, with_operands, operands_in, decoded}
use Rattle.isa.specs.Fields.{code_field}
use Rattle.isa.specs.Operands.{Numbers}
use Rattle.isa.specs.Table.{code_of, form_of, opcode_at}
use Rattle.isa.proofs.Rows.{in_table}

-- one in bit k of a word
pub one_at : (k : ℕ) → k < 32 → 1 * 2 ^ k % 2 ^ 32 ≡ 2 ^ k
one_at k h =
    let below : 2 ^ k < 2 ^ 32 = pow-lt h in
    mod-eq_of_lt (omega (arith, below)) ∙ omega arith

-- a word with the code of o, in which the operands of its form are n, is o with n
pub decoded_at : (o : Opcode) (n : Numbers) (w r : ℕ) → w ≡ code_of o * 2 ^ 24 + r → r < 2 ^ 24 → operands_in (form_of o) w ≡ Some n → decoded w ≡ Some (instruction o n)
decoded_at o n w r e h i =
    let code : code_field w ≡ code_of o = omega (arith, e, h) in
    ap (λ c. with_opcode (opcode_at c) w) code ∙ ap (λ q. with_opcode q w) (in_table o) ∙ ap (with_operands o) i
