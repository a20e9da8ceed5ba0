use Rattle.std.proofs.Common.{◌≡◌, ◌-◌, ◌++◌}
use Rattle.permit.specs.Rights.{rights_of}
use Rattle.runs.specs.Machines.{machine_of}
use Rattle.runs.specs.Runs.{held}
use Rattle.play.specs.Traced.{traced}
use Rattle.play.proofs.trace.first_steps.Given as goal

abbrev pub invariant-loop-done : goal.invariant-loop-done
invariant-loop-done g l =
    traced (rights_of l.fn.permit) l.fn.count 0 (held (machine_of l.fn.machine) l.fn.cells (g.H.Host.meaning l.fn.host))
    ≡ l.steps.items ++ traced (rights_of l.fn.permit) (l.fn.count - l.done) l.done (held (machine_of l.machine) l.cells (g.H.Host.meaning l.host))
