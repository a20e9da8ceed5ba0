use Rattle.std.proofs.Common.{rules, ◌≡◌, ◌<◌, ◌≤◌, length, min, sym, ap}
use Rattle.runs.specs.Machines.{machine_of}
use Rattle.runs.specs.Runs.{held, settings_of}
use Rattle.runs.specs.declared.report.Ending.TheVariants.{Spent}
use Rattle.play.proofs.Spans.{ends_itself, span_more, span_ends, both_parts, parts_bounded}
use Rattle.play.proofs.Telling.{heard_more, heard_to_end, heard_whole}
use Rattle.play.proofs.watched.run_watched.Goals as goal

pub joined-report-requires : goal.joined-report-requires
joined-report-requires g c =
    let start = held (machine_of c.args.machine.now) c.args.cells.now (g.H.Host.meaning c.args.host.now) in
    let here = held (machine_of c.loop-left.machine) c.loop-left.cells (g.H.Host.meaning c.loop-left.host) in
    let few : c.min-part.result ≤ c.loop-left.left = search rules in
    parts_bounded (settings_of c.args.settings.now) c.loop-left.left c.min-part.result start here c.loop-left.report c.in_ok-run.field-0 c.loop-left.invariant.0 few c.in_ok-run.ensures.value

pub loop-left-preserved : goal.loop-left-preserved
loop-left-preserved g c =
    let s = settings_of c.args.settings.now in
    let start = held (machine_of c.args.machine.now) c.args.cells.now (g.H.Host.meaning c.args.host.now) in
    let here = held (machine_of c.loop-left.machine) c.loop-left.cells (g.H.Host.meaning c.loop-left.host) in
    let after = held (machine_of c.run-in-loop-left.new.self) c.run-in-loop-left.new.cells (g.H.Host.meaning c.run-in-loop-left.new.host) in
    let so : c.loop-left.report.ending ≡ Spent = search rules in
    let few : c.min-part.result ≤ c.loop-left.left = search rules in
    let long : length c.run-in-loop-left.new.cells ≡ length c.loop-left.cells = search rules in
    let run = both_parts _ c.in_ok-run.field-0 after c.in_ok-run.ensures.value c.in_ok-run.ensures.after in
    let span = span_more s c.loop-left.left c.min-part.result start here after c.loop-left.report c.in_ok-run.field-0 c.joined-report.result c.loop-left.invariant.0 so few run long c.joined-report.ensures in
    let more : 0 < c.loop-left.left = search rules in
    let part : c.min-part.result ≡ min c.loop-left.left 5_000_000 = search rules in (
      span,
      search rules,
      heard_more g.W.Watch.hears g.H.Waits.readings s c.loop-left.left c.min-part.result start here after c.loop-left.report c.joined-report.result c.waiting_tape.result.now
          c.args.watch.now c.loop-left.watch c.tell.new.self
          c.loop-left.invariant.2 c.loop-left.invariant.0 so more part span c.waiting_tape.ensures c.tell.ensures,
    )

pub returns-else-matches-clause-value : goal.returns-else-matches-clause-value
returns-else-matches-clause-value g c =
    let start = held (machine_of c.args.machine.now) c.args.cells.now (g.H.Host.meaning c.args.host.now) in
    let here = held (machine_of c.loop-left.machine) c.loop-left.cells (g.H.Host.meaning c.loop-left.host) in
    let not : (c.loop-left.report.ending ≡ Spent → ⊥) = search rules in
    sym (ap (λ x. x.answer) (span_ends (settings_of c.args.settings.now) c.loop-left.left start here c.loop-left.report c.loop-left.invariant.0 not))

pub returns-else-matches-clause-after : goal.returns-else-matches-clause-after
returns-else-matches-clause-after g c =
    let start = held (machine_of c.args.machine.now) c.args.cells.now (g.H.Host.meaning c.args.host.now) in
    let here = held (machine_of c.loop-left.machine) c.loop-left.cells (g.H.Host.meaning c.loop-left.host) in
    let not : (c.loop-left.report.ending ≡ Spent → ⊥) = search rules in
    sym (ap (λ x. x.held) (span_ends (settings_of c.args.settings.now) c.loop-left.left start here c.loop-left.report c.loop-left.invariant.0 not))

pub returns-else-matches-clause-heard : goal.returns-else-matches-clause-heard
returns-else-matches-clause-heard g c =
    let start = held (machine_of c.args.machine.now) c.args.cells.now (g.H.Host.meaning c.args.host.now) in
    let here = held (machine_of c.loop-left.machine) c.loop-left.cells (g.H.Host.meaning c.loop-left.host) in
    let not : (c.loop-left.report.ending ≡ Spent → ⊥) = search rules in
    heard_to_end g.W.Watch.hears g.H.Waits.readings (settings_of c.args.settings.now) c.loop-left.left start here c.loop-left.report c.args.watch.now c.loop-left.watch c.loop-left.invariant.2 c.loop-left.invariant.0
    (ends_itself c.loop-left.report.ending not)

pub returns-after-loop-left-clause-heard : goal.returns-after-loop-left-clause-heard
returns-after-loop-left-clause-heard g c =
    let start = held (machine_of c.args.machine.now) c.args.cells.now (g.H.Host.meaning c.args.host.now) in
    let here = held (machine_of c.loop-left.machine) c.loop-left.cells (g.H.Host.meaning c.loop-left.host) in
    let none : c.loop-left.left ≤ 0 = search rules in
    heard_whole g.W.Watch.hears g.H.Waits.readings (settings_of c.args.settings.now) c.loop-left.left start here c.loop-left.report c.args.watch.now c.loop-left.watch c.loop-left.invariant.2 c.loop-left.invariant.0 none
