use Rattle.std.proofs.Common.{◌≡◌, map, vec_items}
use Rattle.std.specs.List.{range_with_len}
use Rattle.run_pages.specs.Changes.{held_in_register, change_texts, comma_joined}
use Rattle.run_pages.proofs.changes.changes_list.Given as goal

abbrev pub invariant-loop-number : goal.invariant-loop-number
invariant-loop-number l = vec_items l.list ≡ comma_joined (change_texts (map (held_in_register l.step) (range_with_len 0 l.number)))
