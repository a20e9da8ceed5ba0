use Rattle.std.proofs.Common.{◌≡◌, take, vec_items}
use Rattle.item_lines.specs.Lines.{item_lines}
use Rattle.item_lines.proofs.show.show_items.Given as goal

abbrev pub invariant-loop-item : goal.invariant-loop-item
invariant-loop-item l = vec_items l.page ≡ item_lines (take l.item-index l.items)
