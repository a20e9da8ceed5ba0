use Rattle.std.proofs.Common.{refl, ◌∙◌, arith}
use Rattle.std.proofs.lemmas.Result.{IfOk-weaker}
use Rattle.listing.proofs.OneLine.{text_within, text_taken, text_first}
use Rattle.listing.proofs.word_text.word_text.Goals as goal

pub slice_bounds-line-end : goal.slice_bounds-line-end
slice_bounds-line-end c = text_within c.args.segment c.args.word _ c.put_line-length.new.out c.put_line-length.result (omega arith) refl c.put_line-length.ensures

pub slice_bounds-from_slice-length : goal.slice_bounds-from_slice-length
slice_bounds-from_slice-length c = text_taken c.args.segment c.args.word _ c.put_line-length.new.out c.put_line-length.result (omega arith) refl c.put_line-length.ensures

pub returns : goal.returns
returns c =
    let first = text_first c.args.segment c.args.word _ c.put_line-length.new.out c.put_line-length.result (omega arith) refl c.put_line-length.ensures in
    IfOk-weaker c.from_slice.result _ _ (λ v is. is ∙ first) c.from_slice.ensures.items
