use Rattle.std.proofs.Common.{◌≡◌, ◌*◌, ◌≤◌, ◌-◌, take}
use Rattle.cases.specs.Repeated.{repeated}
use Rattle.cases.proofs.bytes.spread.Given as goal

abbrev pub decreases-loop-done : goal.decreases-loop-done
decreases-loop-done l = l.times - l.done

abbrev pub invariant-loop-done : goal.invariant-loop-done
invariant-loop-done l = (1 ≤ l.done) × (1 ≤ l.times → l.done ≤ l.times) × (take (l.done * l.size) l.bytes ≡ repeated l.done (take l.size l.fn.bytes))
