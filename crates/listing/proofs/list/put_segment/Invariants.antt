use Rattle.std.proofs.Common.{take}
use Rattle.std.specs.List.{flat_map}
use Rattle.output.specs.Writes.{Put}
use Rattle.listing.proofs.Turns.{quad_line}
use Rattle.listing.proofs.list.put_segment.Given as goal

abbrev pub invariant-loop-word : goal.invariant-loop-word
invariant-loop-word l = Put l.initial.writer (flat_map (quad_line l.segment) (take l.word-index l.words)) l.writer
