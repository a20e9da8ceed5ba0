use Rattle.std.proofs.Common.{◌≡◌, ◌≤◌, ◌*◌, ◌+◌, take, length, arith, sym, ◌∙◌}
use Rattle.std.proofs.lemmas.List.{length-take-le}
use Rattle.std.proofs.Math.Nat.{mul-le-mul_right}
use Rattle.cases.proofs.Repeats.{room_left, copied}
use Rattle.cases.proofs.bytes.spread.Goals as goal

fits : (c : goal.After-split_at_mut-first) → c.min-more.result * c.args.size ≤ length c.split_at_mut-first.result.1.now
fits c =
    let less : c.loop-done.done + c.min-more.result ≤ c.args.times = omega (arith, c.min-more.ensures, c.loop-done-test.true) in
    let whole : length c.loop-done.bytes ≡ c.args.times * c.args.size = c.loop-done.auto.bytes ∙ c.requires in
    room_left c.loop-done.done c.min-more.result c.args.times c.args.size _ _ less whole c.split_at_mut-first.ensures.back_len

stands : (c : goal.After-split_at_mut-first) → c.min-more.result * c.args.size ≤ length c.split_at_mut-first.result.0.now
stands c =
    let less : c.min-more.result ≤ c.loop-done.done = omega (arith, c.min-more.ensures) in
    let both : c.min-more.result * c.args.size ≤ c.loop-done.done * c.args.size = mul-le-mul_right c.args.size less in
    omega (arith, both, c.split_at_mut-first.ensures.front_len)

pub slice_bounds-copy_from_slice-end : goal.slice_bounds-copy_from_slice-end
slice_bounds-copy_from_slice-end c = fits c

pub slice_bounds-copy_from_slice-end-in-loop-done : goal.slice_bounds-copy_from_slice-end-in-loop-done
slice_bounds-copy_from_slice-end-in-loop-done c = sym (length-take-le _ _ (fits c.before))

pub copy_from_slice-requires : goal.copy_from_slice-requires
copy_from_slice-requires c = length-take-le _ _ (fits c.before) ∙ sym (length-take-le _ _ (stands c.before))

pub loop-done-preserved : goal.loop-done-preserved
loop-done-preserved c =
    let n = c.loop-done.done in
    let size = c.args.size in
    let before = c.args.bytes.now in
    let more : c.min-more.result ≤ n = omega (arith, c.min-more.ensures) in
    let two : 2 ≤ c.args.times = omega (arith, c.loop-done-test.true, c.loop-done.invariant.0) in
    let some : 2 * size ≤ c.args.times * size = mul-le-mul_right size two in
    let enough : size ≤ length before = omega (arith, some, c.requires) in (
      omega (arith, c.loop-done.invariant.0),
      λ _. omega (arith, c.min-more.ensures, c.loop-done-test.true),
      copied c.min-more.result n size (take size before) _ _ _ (length-take-le size before enough) more
          (c.split_at_mut-first.ensures.front ∙ c.loop-done.invariant.2) c.copy_from_slice.ensures.after,
    )
