use Rattle.std.proofs.Common.{sym, subst, rules}
use Rattle.host.specs.Firsts.{StandsFirst}
use Rattle.host.specs.Tapes.{tape_code}
use Rattle.host.proofs.TapeFirsts.{are_bytes, stands_first}
use Rattle.host.proofs.tape.U8CodeUnit.first_of.Goals as goal

pub returns-clause-first : goal.returns-clause-first
returns-clause-first c =
    let bytes = are_bytes c.args.units.now (λ i. search (rules, c.type_inv.units i)) in
    subst (StandsFirst tape_code c.args.units.now) (sym c.read_first.ensures) (stands_first c.args.units.now bytes)

pub returns-clause-units : goal.returns-clause-units
returns-clause-units c = are_bytes c.args.units.now (λ i. search (rules, c.type_inv.units i))
