use Rattle.std.proofs.Common.{arith}
use Rattle.std.proofs.lemmas.List.FromFn.{fill_by_all}
use Rattle.machine.specs.Cores.{in_register}
use Rattle.runs.specs.Machines.{machine_of}
use Rattle.play.specs.Traced.{registers_of}
use Rattle.play.proofs.taken.registers.Goals as goal

pub returns : goal.returns
unfolding registers_of
returns c =
    fill_by_all (in_register (machine_of c.args.machine.now).core) c.loop-number.value-items 16 0 c.loop-number.invariant.0
    (λ k h. c.loop-number.invariant.1 k (omega (arith, h, c.loop-number-test.false, c.loop-number.invariant.0)))
