use Rattle.std.proofs.Common.{arith, sym}
use Rattle.output.proofs.Writes.{overlay_part, overlay_past}
use Rattle.output.proofs.writer.lay.Goals as goal

pub returns-then-at-out : goal.returns-then-at-out
returns-then-at-out c = rw c.copy_from_slice.ensures.after (overlay_part _ _ _ _ (omega arith) (omega arith))

pub returns-else-at-out : goal.returns-else-at-out
returns-else-at-out c = sym (overlay_past _ _ _ (omega arith))
