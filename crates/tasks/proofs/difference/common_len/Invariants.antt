use Rattle.std.proofs.Common.{◌≡◌, ◌≤◌, ◌+◌, ◌-◌, length, drop}
use Rattle.tasks.specs.Difference.{common}
use Rattle.tasks.proofs.difference.common_len.Given as goal

abbrev pub invariant-loop-count : goal.invariant-loop-count
invariant-loop-count g l =
    record {
      left_within : l.count ≤ length l.left;
      right_within : l.count ≤ length l.right;
      rest : common g.T.PartialEq.eq l.left l.right ≡ l.count + common g.T.PartialEq.eq (drop l.count l.left) (drop l.count l.right);
    }

abbrev pub decreases-loop-count : goal.decreases-loop-count
decreases-loop-count g l = length l.left - l.count
