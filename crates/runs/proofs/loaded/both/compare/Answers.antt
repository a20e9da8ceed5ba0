use Rattle.runs.specs.Both.{lent}
use Rattle.runs.specs.Machines.{machine_of}
use Rattle.runs.specs.declared.comparison.Comparison.{Comparison}
use Rattle.runs.proofs.Loads.{now_filled, BothFilled, compared_from, agrees_from, leaves_from}
use Rattle.runs.proofs.loaded.both.compare.Goals as goal

pub returns-clause-compared : goal.returns-clause-compared
returns-clause-compared g c =
    let before = lent c.args.first_cells.now (g.H.Host.meaning c.args.first_host.now) c.args.second_cells.now (g.K.Host.meaning c.args.second_host.now) c.args.other.now in
    let now = lent c.fill_with-first.new.cells (g.H.Host.meaning c.args.first_host.now) c.fill_with-second.new.cells (g.K.Host.meaning c.args.second_host.now) c.args.other.now in
    let m = machine_of c.fill_with-first.result in
    let n = machine_of c.fill_with-second.result in
    let filled : BothFilled c.args.executable.now before now m n = record { first = c.fill_with-first.ensures.value; second = c.fill_with-second.ensures.value; filled = now_filled c.args.executable.now c.args.first_cells.now _ c.args.second_cells.now _ _ _ _ c.fill_with-first.ensures.cells c.fill_with-second.ensures.cells } in
    compared_from c.args.executable.now before now _ m n c.args.pairings.now _ filled c.ask_all-outcome.ensures.compared c.agreed.ensures

pub returns-clause-agree : goal.returns-clause-agree
returns-clause-agree g c alike wide others =
    let before = lent c.args.first_cells.now (g.H.Host.meaning c.args.first_host.now) c.args.second_cells.now (g.K.Host.meaning c.args.second_host.now) c.args.other.now in
    let now = lent c.fill_with-first.new.cells (g.H.Host.meaning c.args.first_host.now) c.fill_with-second.new.cells (g.K.Host.meaning c.args.second_host.now) c.args.other.now in
    let m = machine_of c.fill_with-first.result in
    let n = machine_of c.fill_with-second.result in
    let filled : BothFilled c.args.executable.now before now m n = record { first = c.fill_with-first.ensures.value; second = c.fill_with-second.ensures.value; filled = now_filled c.args.executable.now c.args.first_cells.now _ c.args.second_cells.now _ _ _ _ c.fill_with-first.ensures.cells c.fill_with-second.ensures.cells } in
    agrees_from c.args.executable.now before now _ m n c.args.pairings.now _ filled c.ask_all-outcome.ensures.compared c.agreed.ensures alike wide others

pub returns-clause-kept : goal.returns-clause-kept
returns-clause-kept g c first second =
    let before = lent c.args.first_cells.now (g.H.Host.meaning c.args.first_host.now) c.args.second_cells.now (g.K.Host.meaning c.args.second_host.now) c.args.other.now in
    let now = lent c.fill_with-first.new.cells (g.H.Host.meaning c.args.first_host.now) c.fill_with-second.new.cells (g.K.Host.meaning c.args.second_host.now) c.args.other.now in
    let m = machine_of c.fill_with-first.result in
    let n = machine_of c.fill_with-second.result in
    let filled : BothFilled c.args.executable.now before now m n = record { first = c.fill_with-first.ensures.value; second = c.fill_with-second.ensures.value; filled = now_filled c.args.executable.now c.args.first_cells.now _ c.args.second_cells.now _ _ _ _ c.fill_with-first.ensures.cells c.fill_with-second.ensures.cells } in
    let comparison : Comparison = record { outcome = c.ask_all-outcome.result; agreed = c.agreed.result; first = c.ask_all-outcome.new.first; second = c.ask_all-outcome.new.second } in
    leaves_from c.args.executable.now before now _ m n c.args.pairings.now comparison filled c.ask_all-outcome.ensures.compared first second
