use Rattle.std.proofs.Common.{◌≡◌, ◌++◌, length, vec_items}
use Rattle.host.specs.Codes.{all_coded}
use Rattle.host.specs.Tapes.{items, spoiled, tape_code}
use Rattle.item_lines.proofs.tape.read_tape.Given as goal

abbrev pub invariant-loop-found : goal.invariant-loop-found
invariant-loop-found l = (items l.tape ≡ vec_items l.items ++ items l.rest) × (spoiled l.tape ≡ spoiled l.rest) × (l.place ≡ length (all_coded tape_code (vec_items l.items)))

abbrev pub decreases-loop-found : goal.decreases-loop-found
decreases-loop-found l = length l.rest
