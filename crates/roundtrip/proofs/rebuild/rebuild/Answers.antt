use Rattle.std.proofs.Common.{length, sym, ap, ◌∙◌}
use Rattle.listing.specs.Listing.{listed}
use Rattle.roundtrip.specs.Laws.{Bytes}
use Rattle.roundtrip.specs.Rebuilt.{rebuilt_from, length_of, written_to}
use Rattle.std.proofs.lemmas.Result.{err_from_is_err_and}
use Rattle.roundtrip.proofs.Answered.{on_page, not_listed, rebuilt_value, rebuilt_output, too_short}
use Rattle.roundtrip.proofs.rebuild.rebuild.Goals as goal

pub returns-in_err-length : goal.returns-in_err-length
returns-in_err-length c =
    let bs = c.args.bytes.now in
    let refused = not_listed (listed bs (length c.args.text.now)) c.in_err-length.field-0.0 c.in_err-length.ensures.value in
    let e = err_from_is_err_and c.from_residual.result c.from_residual.ensures.1 in
    record {
      value = rw (e.1, e.2) (sym (ap (λ x. length_of (rebuilt_from bs (length c.args.out.now) x)) refused));
      text = c.list.ensures.output;
      output = sym (ap (λ x. written_to c.args.out.now (rebuilt_from bs (length c.args.out.now) x)) refused);
    }

pub returns-then-bytes-out : goal.returns-then-bytes-out
returns-then-bytes-out c =
    let short = too_short c.args.bytes.now (length c.args.text.now) c.in_ok-length.ensures.first c.args.out.now c.if-bytes-out.true in
    record {
      value = sym (ap length_of short);
      text = c.list.ensures.output;
      output = sym (ap (written_to c.args.out.now) short);
    }

pub returns : goal.returns
returns c =
    let bs = c.args.bytes.now in
    let text_room = length c.args.text.now in
    let bytes : Bytes bs = λ i. (c.type_inv.bytes i).fits in
    let listed = c.in_ok-length.ensures in
    let page = c.front.ensures ∙ on_page bs text_room listed.first c.args.text.now c.list.new.out c.in_ok-length.length listed.value listed.output in
    record {
      value = c.ok_or.ensures.value ∙ rebuilt_value bs text_room bytes listed.first c.args.out.now c.front.result.now page c.if-bytes-out.false c.assemble_listing.result _ c.assemble_listing.ensures.value;
      text = c.list.ensures.output;
      output = rebuilt_output bs text_room bytes listed.first c.args.out.now c.front.result.now page c.if-bytes-out.false c.assemble_listing.new.out c.assemble_listing.ensures.output;
    }
