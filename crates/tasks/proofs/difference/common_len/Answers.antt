use Rattle.std.proofs.Common.{arith}
use Rattle.tasks.proofs.Fronts.{common_ended}
use Rattle.tasks.proofs.difference.common_len.Goals as goal

pub returns-else-count-right-clause-value : goal.returns-else-count-right-clause-value
returns-else-count-right-clause-value g c = omega (arith, c.loop-count.invariant.rest, common_ended g.T.PartialEq.eq c.args.left.now c.args.right.now c.loop-count.count c.if-count-right.false)
