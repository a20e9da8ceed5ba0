use Rattle.std.proofs.Common.{◌∙◌, ap}
use Rattle.std.specs.List.{flat_map}
use Rattle.std.proofs.lemmas.List.{take_all}
use Rattle.output.proofs.Puts.{put_none, put_same, put_then}
use Rattle.listing.proofs.Turns.{quad_line, segment_lines, line_more}
use Rattle.listing.proofs.list.put_segment.Goals as goal

pub loop-word-init : goal.loop-word-init
loop-word-init c = put_none _

pub loop-word-preserved : goal.loop-word-preserved
loop-word-preserved c =
    put_same (line_more c.args.segment _ _ c.loop-word-test.true) (put_then c.loop-word.invariant (rw (← c.from_le_bytes.ensures) c.put_word.ensures))

pub returns : goal.returns
returns c =
    let words = take_all c.loop-word.word-index c.as_chunks.result.0.now c.loop-word-test.false ∙ c.as_chunks.ensures.front in
    put_same (ap (flat_map (quad_line c.args.segment)) words ∙ segment_lines c.args.segment c.args.bytes.now) c.loop-word.invariant
