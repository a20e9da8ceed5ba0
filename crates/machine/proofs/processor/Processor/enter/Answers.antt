use Rattle.std.proofs.Common.{◌≡◌, Ok, Err, length, rules}
use Rattle.machine.specs.Commands.{lowered}
use Rattle.machine.specs.Cores.{core_of, in_register}
use Rattle.machine.specs.Rules.{rules_of, push_asked}
use Rattle.machine.proofs.Cells.{push_after}
use Rattle.machine.proofs.processor.Processor.enter.Goals as goal

pub returns-in_err-push-2-clause-value : goal.returns-in_err-push-2-clause-value
returns-in_err-push-2-clause-value c m =
    let top = in_register (core_of c.args.self.now) 14 in
    let first : Ok tt ≡ push_asked (rules_of c.args.rules.now) (length c.args.cells.now) top = search rules in
    let second : Err c.in_err-push-2.field-0.0 ≡ push_asked (rules_of c.args.rules.now) (length c.args.cells.now) (lowered top) = search rules in
    rw (← first, push_after, ← second) (search rules)

pub returns-clause-value : goal.returns-clause-value
returns-clause-value c m =
    let top = in_register (core_of c.args.self.now) 14 in
    let first : Ok tt ≡ push_asked (rules_of c.args.rules.now) (length c.args.cells.now) top = search rules in
    let second : Ok tt ≡ push_asked (rules_of c.args.rules.now) (length c.args.cells.now) (lowered top) = search rules in
    rw (← first, push_after, ← second) (search rules)
