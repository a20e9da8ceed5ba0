use Rattle.std.proofs.Common.{◌≡◌, length, take, Ok, Err, Result, sym, ap, ◌∙◌, subst}
use Rattle.std.proofs.lemmas.Result.{err_from_is_err_and}
use Rattle.bounded.specs.Held.{room}
use Rattle.executable.specs.Check.{contents, checked}
use Rattle.assembler.specs.Assembled.{assembled, answer_of}
use Rattle.assembler.specs.declared.question.Refusal.{Refusal}
use Rattle.builder.specs.Built.{text_parts, summary_of, labels_left, labels_refused}
use Rattle.builder.specs.Standing.{ExactlyFirstOfAll}
use Rattle.builder.specs.declared.summary.Summary.{Summary}
use Rattle.builder.proofs.Called.{labels_left_are, stands, whole, same_output, numbers_are, refused_same, summed, as_long, not_refused}
use Rattle.builder.proofs.FirstNo.{exactly_of_all}
use Rattle.builder.proofs.build.build.Goals as goal

pub returns-in_err-length : goal.returns-in_err-length
returns-in_err-length c =
    let t = c.args.text.now in
    let told = c.assemble.ensures in
    let cap = room c.args.labels.now in
    let len = length c.args.out.now in
    let p = err_from_is_err_and c.from_residual.result c.from_residual.ensures.1 in
    let value : c.from_residual.result ≡ summary_of t (answer_of (assembled t cap len)) = rw (p.1) (ap Err p.2 ∙ refused_same t c.in_err-length.field-0.0 _ c.in_err-length.ensures.value) in
    record {
      value = value;
      labels = told.labels ∙ labels_left_are t cap len;
      output = told.output;
      accepted = rw (p.1) tt;
      numbers = rw (p.1) tt;
      left = rw (p.1) (told.labels ∙ labels_left_are t cap len ∙ ap (labels_left t) (sym c.in_err-length.ensures.value) ∙ ap (λ q. labels_refused t q.question q.origin.line) (sym p.2));
      written = rw (p.1) (told.output ∙ same_output (assembled t cap len) c.in_err-length.field-0.0 c.args.out.now c.in_err-length.ensures.value);
      rest = told.rest;
      first = subst (ExactlyFirstOfAll t cap len) (sym value) (exactly_of_all t cap len);
    }

pub slice_bounds-check-end : goal.slice_bounds-check-end
slice_bounds-check-end c = (stands c.args.text.now (room c.args.labels.now) c.args.out.now c.assemble.new.out c.in_ok-length.length c.in_ok-length.ensures.value c.assemble.ensures.output).0

pub unreachable-requires : goal.unreachable-requires
unreachable-requires c =
    let n = c.in_ok-length.length in
    let out = c.assemble.new.out in
    let ok = (stands c.args.text.now (room c.args.labels.now) c.args.out.now out n c.in_ok-length.ensures.value c.assemble.ensures.output).1 in
    not_refused (text_parts c.args.text.now) c.in-Err.field-0 (checked (take n out)) (c.in-Err.ensures.value) ok

pub returns : goal.returns
returns c =
    let t = c.args.text.now in
    let cap = room c.args.labels.now in
    let len = length c.args.out.now in
    let n = c.in_ok-length.length in
    let out = c.assemble.new.out in
    let told = c.assemble.ensures in
    let parts = contents c.in-Ok.executable in
    let ok = (stands t cap c.args.out.now out n c.in_ok-length.ensures.value told.output).1 in
    let is = whole t cap c.args.out.now out n c.in_ok-length.ensures.value told.output in
    let value : ◌≡◌ {A = Result Summary Refusal} (Ok c.summarize.result) (summary_of t (answer_of (assembled t cap len))) = summed t _ n parts c.summarize.result c.in_ok-length.ensures.value (c.in-Ok.ensures.value ∙ ok) c.summarize.ensures in
    record {
      value = value;
      labels = told.labels ∙ labels_left_are t cap len;
      output = told.output;
      accepted = as_long out n parts c.summarize.result c.summarize.ensures ∙ ok;
      numbers = numbers_are t _ n c.summarize.result c.in_ok-length.ensures.value value is.0;
      left = told.labels ∙ labels_left_are t cap len ∙ ap (labels_left t) (sym c.in_ok-length.ensures.value);
      written = is.1;
      rest = told.rest;
      first = subst (ExactlyFirstOfAll t cap len) (sym value) (exactly_of_all t cap len);
    }
