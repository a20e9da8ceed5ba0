use Rattle.std.proofs.Common.{rules, ◌≤◌, ◌<◌, ◌≡◌, ◌^◌, length, take, arith}
use Rattle.host.specs.Tapes.{items}
use Rattle.record.proofs.Shorter.{items_short}
use Rattle.record.proofs.finding.compare_tapes.Goals as goal

pub overflow_add-result : goal.overflow_add-result
overflow_add-result c =
    let bound : length c.args.left.now < 2 ^ 63 = search rules in
    let front : length (take c.common_len.result c.args.left.now) ≤ length c.args.left.now = search rules in
    let same : c.in_ok-same.same ≡ length (items (take c.common_len.result c.args.left.now)) = search rules in
    omega (arith, bound, front, same, items_short (take c.common_len.result c.args.left.now))
