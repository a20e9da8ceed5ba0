use Rattle.std.proofs.Common.{rules, sym, ◌∙◌}
use Rattle.item_lines.proofs.Found.{unread, other}
use Rattle.item_lines.proofs.reading.read_line.Goals as goal

pub returns-in_default : goal.returns-in_default
returns-in_default c = unread c.args.line.now (sym c.item_in.ensures ∙ c.in_default.is)

pub returns-then-ne : goal.returns-then-ne
returns-then-ne c = other c.args.line.now c.in-Some.item (sym c.item_in.ensures ∙ c.in-Some.is) (search rules)
