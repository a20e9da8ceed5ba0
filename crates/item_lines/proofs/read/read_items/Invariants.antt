use Rattle.std.proofs.Common.{◌≡◌, ◌++◌, length, vec_items}
use Rattle.std.specs.List.{All}
use Rattle.host.specs.Ranges.{InRange}
use Rattle.item_lines.specs.Lines.{item_lines}
use Rattle.item_lines.proofs.read.read_items.Given as goal

abbrev pub invariant-loop-rest : goal.invariant-loop-rest
invariant-loop-rest l = record {
  lines : l.text ≡ item_lines (vec_items l.items) ++ l.rest;
  ranges : All InRange (vec_items l.items);
}

abbrev pub decreases-loop-rest : goal.decreases-loop-rest
decreases-loop-rest l = length l.rest
