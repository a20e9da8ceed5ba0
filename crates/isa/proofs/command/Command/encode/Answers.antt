use Rattle.std.proofs.Common.{◌≡◌, ◌+◌, ◌*◌, ◌^◌, Some, arith}
use Rattle.isa.specs.Command.{operands_in}
use Rattle.isa.specs.Operands.{numbers_in}
use Rattle.isa.specs.Table.{code_of, form_of}
use Rattle.isa.proofs.Words.{decoded_at}
use Rattle.isa.proofs.command.Command.encode.Goals as goal

pub returns-clause-back : goal.returns-clause-back
returns-clause-back c =
    let o = c.args.self.opcode in
    let n = numbers_in c.args.self.operands in
    let w : c.above.result ≡ code_of o * 2 ^ 24 + c.bits.result = omega (arith, c.above.ensures, c.code.ensures) in
    let read = c.bits.ensures.back (code_of o) in
    let fits = c.args.self.fits in
    let operands : operands_in (form_of o) c.above.result ≡ Some n = cc in
    decoded_at o n c.above.result c.bits.result w c.bits.ensures.fits operands
