use Rattle.std.proofs.Common.{◌≡◌, Ok, rules}
use Rattle.runs.specs.Machines.{machine_of}
use Rattle.runs.specs.Runs.{called, held, settings_of}
use Rattle.runs.proofs.Exits.{no_run_after_exit}
use Rattle.runs.proofs.Faulting.{spent_at_permit_faults}
use Rattle.runs.proofs.InTurn.{steps_of_call}
use Rattle.runs.proofs.Larger.{same_under_larger}
use Rattle.runs.proofs.WiderRuns.{same_under_wider}
use Rattle.runs.proofs.loaded.Machine.run.Goals as goal

pub returns-clause-larger : goal.returns-clause-larger
returns-clause-larger g c = same_under_larger (settings_of c.args.settings.now) (held (machine_of c.args.self.now) c.args.cells.now (g.H.Host.meaning c.args.host.now))

pub returns-clause-wider : goal.returns-clause-wider
returns-clause-wider g c = same_under_wider (settings_of c.args.settings.now) (held (machine_of c.args.self.now) c.args.cells.now (g.H.Host.meaning c.args.host.now))

pub returns-clause-spent : goal.returns-clause-spent
returns-clause-spent g c = spent_at_permit_faults (settings_of c.args.settings.now) (held (machine_of c.args.self.now) c.args.cells.now (g.H.Host.meaning c.args.host.now))

pub returns-clause-exits : goal.returns-clause-exits
returns-clause-exits g c = no_run_after_exit (settings_of c.args.settings.now) (held (machine_of c.args.self.now) c.args.cells.now (g.H.Host.meaning c.args.host.now))

pub returns-clause-steps : goal.returns-clause-steps
returns-clause-steps g c =
    let s = settings_of c.args.settings.now in
    let h = held (machine_of c.args.self.now) c.args.cells.now (g.H.Host.meaning c.args.host.now) in
    let answer : Ok c.take_steps-report.result ≡ (called s h).answer = search rules in
    steps_of_call s h _ _ answer (search rules)
