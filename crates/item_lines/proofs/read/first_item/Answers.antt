use Rattle.std.proofs.Common.{arith, sym, ◌∙◌}
use Rattle.item_lines.proofs.First.{no_end, no_item, an_item}
use Rattle.item_lines.proofs.read.first_item.Goals as goal

pub returns-then-end-text : goal.returns-then-end-text
returns-then-end-text c = no_end c.args.text.now (sym c.line_length-end.ensures.value ∙ c.if-end-text.true)

pub returns-in_default : goal.returns-in_default
returns-in_default c = no_item c.args.text.now c.line_length-end.result c.in_ok-item.field-0 c.line_length-end.ensures.value c.in_default.is c.in_ok-item.ensures

pub returns : goal.returns
returns c = an_item c.args.text.now c.line_length-end.result c.in_ok-item.field-0 c.in-Some.item c.line_length-end.ensures.value (omega (arith, c.line_length-end.ensures.within, c.if-end-text.false)) c.in-Some.is c.in_ok-item.ensures
