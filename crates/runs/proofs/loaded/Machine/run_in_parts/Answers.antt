use Rattle.std.proofs.Common.{◌≡◌, sym, ◌∙◌, rules}
use Rattle.std.specs.Option.{option_map}
use Rattle.runs.specs.Machines.{machine_of}
use Rattle.runs.specs.Parts.{total_report}
use Rattle.runs.specs.Runs.{held}
use Rattle.runs.specs.declared.report.Ending.TheVariants.{Spent}
use Rattle.runs.proofs.InParts.{one_run, leaves_other}
use Rattle.runs.proofs.Playing.{AnswersAt, ComesTo, spent_step, quiet_step, ends_parts, all_parts}
use Rattle.runs.proofs.loaded.Machine.run_in_parts.Goals as goal

pub loop-asked-preserved : goal.loop-asked-preserved
loop-asked-preserved g c =
    let now = held (machine_of c.loop-asked.self) c.loop-asked.cells (g.H.Host.meaning c.loop-asked.host) in
    let so : c.in-Ran.report.ending ≡ Spent = search rules in (
      spent_step c.args.requests.now _ c.loop-asked.asked-index c.asked-item.result now _ c.loop-asked.other _ c.loop-asked.invariant.0.0 (option_map total_report c.loop-asked.total) _ c.in-Ran.report (record { in_list = c.loop-asked-test.true; is = c.asked-item.is }) c.loop-asked.invariant.0.1
          (record { answer = sym c.in-Ran.is ∙ c.answer-answer.ensures.answer; held = c.answer-answer.ensures.after; other = c.answer-answer.ensures.other }) so c.with_run.ensures,
      search rules,
      search rules,
    )

pub loop-asked-preserved-in_default : goal.loop-asked-preserved-in_default
loop-asked-preserved-in_default g c =
    let now = held (machine_of c.loop-asked.self) c.loop-asked.cells (g.H.Host.meaning c.loop-asked.host) in (
      quiet_step c.args.requests.now _ c.loop-asked.asked-index c.asked-item.result now _ c.loop-asked.other _ c.loop-asked.invariant.0.0 (option_map total_report c.loop-asked.total) c.answer-answer.result (record { in_list = c.loop-asked-test.true; is = c.asked-item.is }) c.loop-asked.invariant.0.1
          (record { answer = c.answer-answer.ensures.answer; held = c.answer-answer.ensures.after; other = c.answer-answer.ensures.other }) c.in_default.not-Ran,
      search rules,
      search rules,
    )

pub returns-then-not-matches : goal.returns-then-not-matches
returns-then-not-matches g c =
    let begun = held (machine_of c.args.self.now) c.args.cells.now (g.H.Host.meaning c.args.host.now) in
    let now = held (machine_of c.loop-asked.self) c.loop-asked.cells (g.H.Host.meaning c.loop-asked.host) in
    let so : (c.in-Ran.report.ending ≡ Spent → ⊥) = search rules in
    let end = ends_parts c.args.requests.now _ c.loop-asked.asked-index c.asked-item.result now _ c.loop-asked.other _ c.loop-asked.invariant.0.0 (option_map total_report c.loop-asked.total) c.in-Ran.report (record { in_list = c.loop-asked-test.true; is = c.asked-item.is }) c.loop-asked.invariant.0.1
    (record { answer = sym c.in-Ran.is ∙ c.answer-answer.ensures.answer; held = c.answer-answer.ensures.after; other = c.answer-answer.ensures.other }) so in
    record {
      total = c.with_run.ensures ∙ sym end.report;
      after = sym end.held;
      other = sym end.other;
      one = λ p. one_run p c.args.requests.now begun c.args.other.now;
      kept = leaves_other c.args.requests.now begun c.args.other.now;
      lender = search rules;
    }

pub returns : goal.returns
returns g c =
    let begun = held (machine_of c.args.self.now) c.args.cells.now (g.H.Host.meaning c.args.host.now) in
    let now = held (machine_of c.loop-asked.self) c.loop-asked.cells (g.H.Host.meaning c.loop-asked.host) in
    let end = all_parts c.args.requests.now _ c.loop-asked.asked-index now c.loop-asked.other c.loop-asked.invariant.0.0 (option_map total_report c.loop-asked.total) c.loop-asked-test.false c.loop-asked.invariant.0.1 in
    record {
      total = sym end.report;
      after = sym end.held;
      other = sym end.other;
      one = λ p. one_run p c.args.requests.now begun c.args.other.now;
      kept = leaves_other c.args.requests.now begun c.args.other.now;
      lender = search rules;
    }
