use Rattle.std.proofs.Common.{◌≡◌}
use Rattle.runs.specs.Machines.{machine_of}
use Rattle.runs.specs.Runs.{held, settings_of}
use Rattle.play.proofs.Spans.{Span}
use Rattle.play.proofs.Telling.{HeardSo}
use Rattle.play.proofs.watched.run_watched.Given as goal

abbrev pub invariant-loop-left : goal.invariant-loop-left
invariant-loop-left g l =
    let start = held (machine_of l.fn.machine) l.fn.cells (g.H.Host.meaning l.fn.host) in
    Span (settings_of l.fn.settings) l.left start l.report (held (machine_of l.machine) l.cells (g.H.Host.meaning l.host))
    × (g.H.Host.roots l.host ≡ g.H.Host.roots l.fn.host)
    × HeardSo g.W.Watch.hears g.H.Waits.readings (settings_of l.fn.settings) l.left start l.fn.watch l.watch

abbrev pub decreases-loop-left : goal.decreases-loop-left
decreases-loop-left g l = l.left
