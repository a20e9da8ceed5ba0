use Rattle.std.proofs.Common.{append_assoc, append-nil}
use Rattle.output.proofs.Puts.{put_then}
use Rattle.listing.proofs.line.put_number_line.Goals as goal

pub returns : goal.returns
returns c = simp (append_assoc, append-nil) (put_then c.put.ensures (put_then c.put_number.ensures c.put_byte.ensures))
