use Rattle.assembler.specs.Labels.{name_in}
use Rattle.std.proofs.Common.{◌≡◌, ◌<◌, [], length, Ok, Err, rules, sym, ap, ◌∙◌, arith}
use Rattle.std.proofs.lemmas.List.{length-take-le}
use Rattle.std.proofs.lemmas.Result.{err_from_is_err_and}
use Rattle.bounded.specs.Held.{entries, room}
use Rattle.lexer.specs.Cursor.{numbered_in, shown_line}
use Rattle.lexer.specs.Text.{lines_of}
use Rattle.assembler.specs.Assembled.{outcome, run_from, fresh}
use Rattle.assembler.specs.Progress.{judged_as, progress_of}
use Rattle.assembler.specs.Questions.{refusal_at}
use Rattle.assembler.specs.Reading.{result_map}
use Rattle.assembler.proofs.Mapped.{map_err_ok, map_err_err}
use Rattle.assembler.proofs.Numbered.{run_in_lines, run_is}
use Rattle.assembler.proofs.Turns.{of_code, run_ok, run_err, finds_room, keeps_on}
use Rattle.assembler.proofs.pass.first_pass.Goals as goal

pub enter-requires : goal.enter-requires
enter-requires c = λ some.
    let held = length-take-le c.loop-line.labels.len c.loop-line.labels.items.now c.loop-line.labels.within in
    let line = c.in-Some.line in
    let is = map_err_ok c.judge.result c.map_err.result c.in_ok-judged.judged _ c.map_err.ensures.cases c.map_err.ensures.variant c.in_ok-judged.was in
    let judged : Ok (judged_as c.in_ok-judged.judged) ≡ of_code c.args.text.now c.capacity.result c.as_slice.result.now (progress_of c.loop-line.progress) line.place line.code.now = sym (ap (result_map judged_as) is) ∙ c.judge.ensures in
    let short : length c.as_slice.result.now < c.capacity.result = finds_room c.args.text.now c.capacity.result c.as_slice.result.now (progress_of c.loop-line.progress) line.place line.code.now (judged_as c.in_ok-judged.judged) judged some in
    omega (arith, ap length c.as_slice.ensures, c.capacity.ensures)

pub loop-line-preserved : goal.loop-line-preserved
loop-line-preserved c =
    let line = c.in-Some.line in
    let t = c.args.text.now in
    let labels = c.loop-line.labels in
    let pr = progress_of c.loop-line.progress in
    let j = judged_as c.in_ok-judged.judged in
    let is = map_err_ok c.judge.result c.map_err.result c.in_ok-judged.judged _ c.map_err.ensures.cases c.map_err.ensures.variant c.in_ok-judged.was in
    let judged : Ok j ≡ of_code t (room labels) (entries labels) pr line.place line.code.now =
    sym (ap (result_map judged_as) is) ∙ c.judge.ensures ∙ ap (λ x. of_code t x c.as_slice.result.now pr line.place line.code.now) c.capacity.ensures ∙ ap (λ x. of_code t (room labels) x pr line.place line.code.now) c.as_slice.ensures in
    let rest = numbered_in c.next.new.self in
    let on = ap (run_in_lines t (room labels) (entries labels) pr) c.in-Some.ensures.steps ∙ run_ok t (room labels) (entries labels) pr (shown_line line) rest j judged in
    record {
      told =
          ap (λ x. run_in_lines t x (entries c.enter.new.labels) j.progress rest) c.enter.ensures.room
          ∙ ap (λ x. run_in_lines t (room labels) x j.progress rest) c.enter.ensures.held
          ∙ sym on ∙ c.loop-line.invariant.told;
      room = c.enter.ensures.room ∙ c.loop-line.invariant.room;
      rest = keeps_on _ _ _ c.loop-line.invariant.rest c.enter.ensures.rest c.enter.ensures.grown;
    }

pub returns-in_err-judged-clause-told : goal.returns-in_err-judged-clause-told
returns-in_err-judged-clause-told c =
    let line = c.in-Some.line in
    let t = c.args.text.now in
    let labels = c.loop-line.labels in
    let pr = progress_of c.loop-line.progress in
    let p = err_from_is_err_and c.from_residual.result c.from_residual.ensures.1 in
    let bad = map_err_err c.judge.result c.map_err.result c.in_err-judged.field-0.0 _ (λ q. refusal_at q line.number) c.map_err.ensures.cases c.in_err-judged.was (λ e d h. search rules) in
    let judged : Err bad.0 ≡ of_code t (room labels) (entries labels) pr line.place line.code.now =
    sym (ap (result_map judged_as) bad.1) ∙ c.judge.ensures ∙ ap (λ x. of_code t x c.as_slice.result.now pr line.place line.code.now) c.capacity.ensures ∙ ap (λ x. of_code t (room labels) x pr line.place line.code.now) c.as_slice.ensures in
    let on = ap (run_in_lines t (room labels) (entries labels) pr) c.in-Some.ensures.steps ∙ run_err t (room labels) (entries labels) pr (shown_line line) (numbered_in c.next.new.self) bad.0 judged in
    ap (λ r. outcome r (entries labels)) (p.1 ∙ ap Err (p.2 ∙ bad.2))
    ∙ sym on ∙ c.loop-line.invariant.told ∙ run_is t _ [] fresh 1 0 (lines_of t) ∙ ap (λ i. run_from (name_in t) (length i) [] fresh 1 0 (lines_of t)) c.clear.ensures.items

pub returns-clause-told : goal.returns-clause-told
returns-clause-told c =
    let t = c.args.text.now in
    let labels = c.loop-line.labels in
    sym (ap (run_in_lines t (room labels) (entries labels) (progress_of c.loop-line.progress)) c.in-None.ensures.steps.0)
    ∙ c.loop-line.invariant.told ∙ run_is t _ [] fresh 1 0 (lines_of t) ∙ ap (λ i. run_from (name_in t) (length i) [] fresh 1 0 (lines_of t)) c.clear.ensures.items
