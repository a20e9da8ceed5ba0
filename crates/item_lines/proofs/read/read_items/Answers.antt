use Rattle.std.proofs.Common.{rules}
use Rattle.item_lines.proofs.Same.{only_items, no_rest}
use Rattle.item_lines.proofs.read.read_items.Goals as goal

pub returns-in_default-clause-back : goal.returns-in_default-clause-back
returns-in_default-clause-back c xs ranges lines = no_rest c.args.text.now c.loop-rest.items.items xs c.loop-rest.rest.now c.loop-rest.invariant.ranges ranges c.loop-rest.invariant.lines (search rules) lines (search rules)

pub returns-clause-back : goal.returns-clause-back
returns-clause-back c xs ranges lines = only_items c.args.text.now c.loop-rest.items.items xs c.loop-rest.rest.now c.loop-rest.invariant.ranges ranges c.loop-rest.invariant.lines (search rules) lines
