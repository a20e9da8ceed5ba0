use Rattle.output.proofs.Puts.{put_then}
use Rattle.listing.proofs.put.put_register.Goals as goal

pub returns : goal.returns
returns c = rw (← c.format.ensures.text, ← c.as_bytes.ensures.value) (put_then c.put.ensures c.put-2.ensures)
