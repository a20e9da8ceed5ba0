use Rattle.std.proofs.Common.{vec_items}
use Rattle.assembler.specs.declared.label.Label.{Label}
use Rattle.report.specs.Lines.{number_lines}
use Rattle.report.proofs.Texts.{label_more, labels_all}
use Rattle.report.proofs.success.success_lines.Goals as goal

pub loop-label-preserved : goal.loop-label-preserved
loop-label-preserved c =
    let none : Label = record { place = record { offset = 0 }; length = 0; address = 0 } in
    label_more c.args.text.now (number_lines c.args.summary) (vec_items c.loop-label.page) (vec_items c.push_label.new.page) c.args.labels.now c.loop-label.label-index none c.loop-label-test.true c.loop-label.invariant c.in_ok-push_label.ensures

pub returns : goal.returns
returns c = labels_all c.args.text.now (number_lines c.args.summary) (vec_items c.loop-label.page) c.args.labels.now c.loop-label.label-index c.loop-label-test.false c.loop-label.invariant
