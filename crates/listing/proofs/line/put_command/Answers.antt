use Rattle.std.proofs.Common.{append_assoc}
use Rattle.output.proofs.Puts.{put_then}
use Rattle.listing.proofs.line.put_command.Goals as goal

pub returns : goal.returns
returns c = rw (← c.name.ensures) (simp append_assoc (put_then c.put.ensures (put_then c.put_operands.ensures c.put_byte.ensures)))
