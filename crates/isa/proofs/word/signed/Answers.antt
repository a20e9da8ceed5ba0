use Rattle.std.proofs.Common.{◌≡◌, ◌*◌, ◌^◌, ◌%◌, ◌<◌, arith}
use Rattle.std.proofs.Math.Pow.{pow-lt}
use Rattle.std.proofs.lemmas.Int.{ints}
use Rattle.isa.proofs.Words.{one_at}
use Rattle.isa.proofs.word.signed.Goals as goal

pub overflow_sub-result : goal.overflow_sub-result
overflow_sub-result g c =
    let k = g.row.BITS in
    let some : 2 ^ 0 < 2 ^ k = pow-lt c.requires.some in
    let few : 2 ^ k < 2 ^ 31 = pow-lt c.requires.few in
    let bit : 1 * 2 ^ k % 2 ^ 32 ≡ 2 ^ k = one_at k (omega arith) in
    let low : c.low_bits-low.result ≡ c.args.word % 2 ^ k = c.low_bits-low.ensures in
    omega (arith, ints)
