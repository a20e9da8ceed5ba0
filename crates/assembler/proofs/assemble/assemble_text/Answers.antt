use Rattle.std.proofs.Common.{◌≡◌, ◌+◌, ◌*◌, ◌≤◌, ◌^◌, ◌<◌, true, [], length, drop, sym, ap, ◌∙◌, subst, arith}
use Rattle.std.proofs.lemmas.Bool.{not-false}
use Rattle.lexer.specs.Text.{lines_of}
use Rattle.bounded.specs.Held.{entries, room}
use Rattle.assembler.specs.Addresses.{LowLabels}
use Rattle.assembler.specs.Labels.{name_in}
use Rattle.assembler.specs.Assembled.{passed, run_from, right_text, fresh}
use Rattle.assembler.specs.Progress.{progress_of}
use Rattle.assembler.proofs.Aimed.{low_labels}
use Rattle.assembler.proofs.Counts.{done}
use Rattle.assembler.proofs.assemble.assemble_text.Goals as goal

pub put_executable-requires : goal.put_executable-requires
put_executable-requires c =
    let t = c.args.text.now in
    let pr = progress_of c.in_ok-progress.progress in
    let told : passed (entries c.first_pass.new.labels) pr ≡ run_from (name_in t) (room c.clear.new.self) [] fresh 1 0 (lines_of t) = c.in_ok-progress.ensures.told in
    subst LowLabels (sym c.as_slice.ensures) (low_labels (name_in t) (room c.clear.new.self) (lines_of t) [] (entries c.first_pass.new.labels) fresh pr 1 0 (sym told) tt (omega arith))

pub returns : goal.returns
returns c =
    let t = c.args.text.now in
    let out = c.args.out.now in
    let pr = progress_of c.in_ok-progress.progress in
    let ls = entries c.first_pass.new.labels in
    let first = c.in_ok-progress.ensures in
    let cleared = c.clear.ensures.items in
    let told : passed ls pr ≡ run_from (name_in t) (room c.args.labels.now) [] fresh 1 0 (lines_of t) = first.told ∙ ap (λ i. run_from (name_in t) (length i) [] fresh 1 0 (lines_of t)) cleared in
    let right : right_text t ≡ true = sym c.if-not-is_text.ensures in
    let small : length out < 2 ^ 64 = omega arith in
    let fits : 512 + 4 * (pr.code + pr.pool) ≤ length out = omega (arith, c.total.ensures, c.if-total-out.false) in
    let all = done t (room c.args.labels.now) ls pr told right (not-false pr.ended c.if-not-progress.false) out c.put_executable.new.out c.put_executable.result c.as_slice.result.now c.as_slice.result.now
    c.as_slice.ensures c.as_slice.ensures c.in_default.ensures fits small c.put_executable.ensures in
    record {
      value = all.0;
      labels = all.1;
      output = all.2;
      rest = record {
        past = first.rest.past ∙ ap (drop c.first_pass.new.labels.len) cleared;
        lender = first.rest.lender ∙ c.clear.ensures.lender;
      };
    }
