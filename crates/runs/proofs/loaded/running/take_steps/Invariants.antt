use Rattle.std.proofs.Common.{◌≡◌, ◌-◌}
use Rattle.machine.specs.Cores.{core_of}
use Rattle.machine.specs.Rules.{rules_of}
use Rattle.machine.specs.Step.{state}
use Rattle.runs.specs.Runs.{ran, later}
use Rattle.runs.proofs.loaded.running.take_steps.Given as goal

abbrev pub invariant-loop-steps : goal.invariant-loop-steps
invariant-loop-steps g l =
    (ran (rules_of l.fn.rules) l.fn.budget (state (core_of l.fn.processor) l.fn.cells (g.H.Host.meaning l.fn.host))
    ≡ later l.steps (ran (rules_of l.fn.rules) (l.fn.budget - l.steps) (state (core_of l.processor) l.cells (g.H.Host.meaning l.host))))
    × (g.H.Host.roots l.host ≡ g.H.Host.roots l.fn.host)
