use Rattle.std.proofs.Common.{rules, [], ◌≡◌, ◌*◌, ◌≤◌, length, refl, sym, ap, ◌∙◌}
use Rattle.host.specs.LentMeaning.{lent_meaning}
use Rattle.host.specs.Tapes.{tape_code}
use Rattle.play.specs.Whole.{first_held, orders_of, tape_meaning}
use Rattle.runs.specs.Both.{lent}
use Rattle.runs.specs.Machines.{machine_of}
use Rattle.play.proofs.Alike.{Readied, begins, never_refused, compared_alike, agrees_alike, all_open, all_own, lent_alike}
use Rattle.play.proofs.Faults.{met_told}
use Rattle.play.proofs.comparing.part.Goals as goal

pub returns-in_err-comparison : goal.returns-in_err-comparison
returns-in_err-comparison c =
    let o = orders_of c.args.orders.now in
    let m = machine_of c.args.one.now.machine in
    let wide : 9 * c.args.orders.now.writes ≤ length c.as_mut_slice.result.now = search rules in
    let roomy : 9 * c.args.orders.now.writes ≤ length c.as_mut_slice-2.result.now = search rules in
    let one : c.as_mut_slice-cells.result.now ≡ c.args.one.now.cells.items = search rules in
    let other : c.as_mut_slice-3.result.now ≡ c.args.other.now.cells.items = search rules in
    let before = lent c.as_mut_slice-cells.result.now (lent_meaning tape_code c.new-host.result) c.as_mut_slice-3.result.now (lent_meaning tape_code c.new-other_host.result) [] in
    let ready : Readied o m before = record {
      machine = c.requires.one.ready;
      first = one ∙ c.requires.one.cells;
      second = other ∙ c.requires.other.cells;
      first_host = c.new-host.ensures.meaning ∙ begins o.readings o.writes _ c.requires.one.few wide;
      second_host = c.new-other_host.ensures.meaning ∙ begins o.readings o.writes _ c.requires.one.few roomy;
      other = refl;
    } in
    absurd (never_refused o m before c.in_err-comparison.field-0.0 ready c.in_err-comparison.ensures.compared.0)

pub returns : goal.returns
returns c =
    let o = orders_of c.args.orders.now in
    let m = machine_of c.args.one.now.machine in
    let wide : 9 * c.args.orders.now.writes ≤ length c.as_mut_slice.result.now = search rules in
    let roomy : 9 * c.args.orders.now.writes ≤ length c.as_mut_slice-2.result.now = search rules in
    let one : c.as_mut_slice-cells.result.now ≡ c.args.one.now.cells.items = search rules in
    let other : c.as_mut_slice-3.result.now ≡ c.args.other.now.cells.items = search rules in
    let before = lent c.as_mut_slice-cells.result.now (lent_meaning tape_code c.new-host.result) c.as_mut_slice-3.result.now (lent_meaning tape_code c.new-other_host.result) [] in
    let ready : Readied o m before = record {
      machine = c.requires.one.ready;
      first = one ∙ c.requires.one.cells;
      second = other ∙ c.requires.other.cells;
      first_host = c.new-host.ensures.meaning ∙ begins o.readings o.writes _ c.requires.one.few wide;
      second_host = c.new-other_host.ensures.meaning ∙ begins o.readings o.writes _ c.requires.one.few roomy;
      other = refl;
    } in
    let begun = compared_alike o m before _ _ _ _ ready c.run_under-run.ensures c.in_ok-comparison.ensures.compared in (
      _,
      record {
        compared = begun;
        outcome = refl;
        as_open = c.is_as_open_as.ensures;
        fault = c.fault_at.ensures.fault;
        met = met_told (first_held o m) c.args.orders.now.budget c.args.orders.now.permit.now c.args.second.now _ _ begun (c.compare.auto.first_cells ∙ ap length ready.first) c.fault_at.ensures.fault;
        agree = λ more. agrees_alike o m before _ _ _ _ ready c.run_under-run.ensures
            (c.in_ok-comparison.ensures.agree (lent_alike o m before ready) (all_open _ _ _ _ c.run_under-run.ensures more) (all_own _ _ _ _ _ _ c.run_under-run.ensures));
      },
    )
