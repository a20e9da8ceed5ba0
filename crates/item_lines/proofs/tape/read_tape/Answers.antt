use Rattle.std.proofs.Common.{◌<◌, ◌^◌, ◌++◌, length, drop, vec_items, ap, ◌∙◌, rules, arith}
use Rattle.host.specs.Tapes.{items}
use Rattle.item_lines.proofs.Tapes.{moves, counted_first, fits_on}
use Rattle.item_lines.proofs.tape.read_tape.Goals as goal

pub overflow_add-place : goal.overflow_add-place
overflow_add-place c =
    let first = c.loop-found.invariant.0 ∙ ap (λ xs. vec_items c.loop-found.items ++ xs) c.in-Ok.ensures.first.1 in
    let fits = fits_on c.args.tape.now (vec_items c.loop-found.items) c.in-Ok.found.item (items (drop c.in-Ok.found.units c.loop-found.rest.now)) (λ i. search (rules, c.type_inv.tape i)) first in
    let bound : length c.args.tape.now < 2 ^ 64 = search rules in
    let counted = counted_first c.loop-found.rest.now c.in-Ok.found.item c.in-Ok.found.units c.in-Ok.ensures.first.0 c.in-Ok.ensures.first.3 in
    omega (arith, fits, bound, c.loop-found.invariant.2, counted)

pub loop-found-smaller : goal.loop-found-smaller
loop-found-smaller c =
    let more = moves c.loop-found.rest.now c.in-Ok.found.item c.in-Ok.found.units c.in-Ok.ensures.first.1 in
    let within = c.in-Ok.ensures.first.0 in
    search (rules, more, within)
