use Rattle.std.proofs.Common.{rules, refl, sym, ap, subst, ◌≡◌, ◌∙◌, ◌*◌, ◌≤◌, ◌<◌, ◌++◌, length, min, take, drop}
use Rattle.std.proofs.Math.Seq.{take-append_seam}
use Rattle.play.specs.Whole.{Ready, orders_of}
use Rattle.runs.specs.Machines.{machine_of}
use Rattle.play.proofs.Loaded.{not_loaded, no_room, too_many_steps, then_ready}
use Rattle.play.proofs.prepared.prepare.Goals as goal

pub returns-in_err-machine : goal.returns-in_err-machine
returns-in_err-machine c =
    let long : length c.as_mut_slice.result.now ≡ min c.args.orders.now.cells 1048577 = search rules in
    let is = not_loaded (orders_of c.args.orders.now) (length c.as_mut_slice.result.now) c.in_err-machine.field-0.0 long c.in_err-machine.ensures.value in
    search (rules, is)

pub returns-then-orders-gt-MOST_WRITES : goal.returns-then-orders-gt-MOST_WRITES
returns-then-orders-gt-MOST_WRITES c =
    let long : length c.as_mut_slice.result.now ≡ min c.args.orders.now.cells 1048577 = search rules in
    let many : 65536 < c.args.orders.now.writes = search rules in
    no_room (orders_of c.args.orders.now) (length c.as_mut_slice.result.now) (machine_of c.in_ok-machine.machine) long c.in_ok-machine.ensures.value many

pub returns-then-orders-gt-MOST_STEPS : goal.returns-then-orders-gt-MOST_STEPS
returns-then-orders-gt-MOST_STEPS c =
    let long : length c.as_mut_slice.result.now ≡ min c.args.orders.now.cells 1048577 = search rules in
    let few : c.args.orders.now.writes ≤ 65536 = search rules in
    let many : 100000000 < c.args.orders.now.budget = search rules in
    too_many_steps (orders_of c.args.orders.now) (length c.as_mut_slice.result.now) (machine_of c.in_ok-machine.machine) long c.in_ok-machine.ensures.value few many

pub returns : goal.returns
returns c =
    let long : length c.as_mut_slice.result.now ≡ min c.args.orders.now.cells 1048577 = search rules in
    let few : c.args.orders.now.writes ≤ 65536 = search rules in
    let low : c.args.orders.now.budget ≤ 100000000 = search rules in
    let wide : 9 * c.args.orders.now.writes ≤ length c.in_ok-output.output.items = search rules in
    let kept : length c.load.new.cells ≡ length c.as_mut_slice.result.now = search rules in
    let len : c.in_ok-cells.cells.len ≡ length c.load.new.cells = search rules in
    let same : take c.in_ok-cells.cells.len (c.load.new.cells ++ drop (length c.load.new.cells) c.in_ok-cells.cells.items) ≡ c.load.new.cells =
    ap (λ n. take n (c.load.new.cells ++ drop (length c.load.new.cells) c.in_ok-cells.cells.items)) len ∙ take-append_seam c.load.new.cells (drop (length c.load.new.cells) c.in_ok-cells.cells.items) in
    subst (λ x. Ready (orders_of c.args.orders.now) (machine_of c.in_ok-machine.machine) x (length c.in_ok-output.output.items)) (sym same)
    (then_ready (orders_of c.args.orders.now) (length c.as_mut_slice.result.now) (length c.in_ok-output.output.items) (machine_of c.in_ok-machine.machine) c.as_mut_slice.result.now c.load.new.cells long refl kept c.in_ok-machine.ensures.value c.load.ensures.cells few low wide)
