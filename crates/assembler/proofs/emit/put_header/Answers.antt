use Rattle.output.proofs.Puts.{put_then}
use Rattle.assembler.proofs.emit.put_header.Goals as goal

pub returns : goal.returns
returns c = put_then c.put.ensures (put_then c.put_word.ensures (put_then c.put_word-2.ensures (put_then c.put_word-3.ensures (put_then c.put_word-4.ensures (put_then c.put_word-5.ensures c.put-2.ensures)))))
