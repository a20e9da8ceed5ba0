use Rattle.std.proofs.Common.{◌<◌, ◌≤◌, get_or, ap, ◌∙◌, arith}
use Rattle.host.specs.declared.item.Item.TheVariants.{Number}
use Rattle.host.specs.LentMeaning.{lent_meaning}
use Rattle.host.specs.Meaning.{Meaning}
use Rattle.host.proofs.Transcripts.{written_more, place_more, drop_later}
use Rattle.host.proofs.transcript.write_items.Goals as goal

pub loop-item-preserved : goal.loop-item-preserved
loop-item-preserved g c =
    let code = g.U.CodeUnit.code in
    let l = c.loop-item in
    let w = c.write.ensures in
    let items = c.args.items.now in
    let left : 0 < l.host.left = omega (arith, c.loop-item-test.true, l.invariant.left) in
    let onward : l.host.output.len ≤ c.write.new.self.output.len = omega (arith, w.place, place_more code l.host.left (get_or items l.item-index (Number 0)) l.host.output left) in
    record {
      written = ap (λ (m : Meaning). m.written) w.after ∙ written_more (lent_meaning code l.host) items l.item-index c.loop-item-test.true left l.invariant.written;
      left = omega (arith, ap (λ (m : Meaning). m.left) w.after);
      rest = w.rest.past ∙ drop_later c.loop-item.host.output.items.now c.over-host.result.output.items.now l.host.output.len c.write.new.self.output.len onward l.invariant.rest;
      lender = cc (l.invariant.lender);
    }
