use Rattle.std.proofs.Common.{ap, sym}
use Rattle.machine.proofs.Steps.{taken, faulted}
use Rattle.machine.proofs.Turning.{steps_in_turn}
use Rattle.machine.specs.Cores.{core_of}
use Rattle.machine.specs.Step.{state}
use Rattle.machine.proofs.processor.Processor.step.Goals as goal

pub returns-in-Ok-clause-value : goal.returns-in-Ok-clause-value
returns-in-Ok-clause-value g c = sym (ap (λ x. x.turn) (taken _ (state (core_of c.args.self.now) c.args.cells.now (g.H.Host.meaning c.args.host.now)) _ _ _ _ c.in-Ok.ensures.value))

pub returns-in-Ok-clause-after : goal.returns-in-Ok-clause-after
returns-in-Ok-clause-after g c = sym (ap (λ x. x.state) (taken _ (state (core_of c.args.self.now) c.args.cells.now (g.H.Host.meaning c.args.host.now)) _ _ _ _ c.in-Ok.ensures.value))

pub returns-in-Err-clause-value : goal.returns-in-Err-clause-value
returns-in-Err-clause-value g c = let e = sym (ap (λ x. x.turn) (faulted _ (state (core_of c.args.self.now) c.args.cells.now (g.H.Host.meaning c.args.host.now)) _ c.in-Err.ensures.value)) in rw c.register-address.ensures e

pub returns-in-Err-clause-after : goal.returns-in-Err-clause-after
returns-in-Err-clause-after g c =
    let e = sym (ap (λ x. x.state) (faulted _ (state (core_of c.args.self.now) c.args.cells.now (g.H.Host.meaning c.args.host.now)) _ c.in-Err.ensures.value)) in
    rw (c.in-Err.ensures.kept, c.in-Err.ensures.cells, c.in-Err.ensures.host) e

pub returns-in-Ok-clause-turn : goal.returns-in-Ok-clause-turn
returns-in-Ok-clause-turn g c = steps_in_turn (core_of c.args.self.now) c.args.cells.now

pub returns-in-Err-clause-turn : goal.returns-in-Err-clause-turn
returns-in-Err-clause-turn g c = steps_in_turn (core_of c.args.self.now) c.args.cells.now

pub returns-in-Ok-clause-lawful : goal.returns-in-Ok-clause-lawful
returns-in-Ok-clause-lawful g c = c.holds_words.ensures (g.H.Host.meaning c.args.host.now)

pub returns-in-Err-clause-lawful : goal.returns-in-Err-clause-lawful
returns-in-Err-clause-lawful g c = c.holds_words.ensures (g.H.Host.meaning c.args.host.now)
