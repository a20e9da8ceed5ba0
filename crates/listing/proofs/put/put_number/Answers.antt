use Rattle.output.proofs.Puts.{put_then}
use Rattle.listing.proofs.put.put_number.Goals as goal

pub returns : goal.returns
returns g c = rw (← c.format.ensures.text, ← c.as_bytes.ensures.value) (put_then c.put_byte.ensures c.put.ensures)
