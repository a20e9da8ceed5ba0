use Rattle.std.proofs.Common.{◌∙◌, ap, ◌-◌}
use Rattle.std.specs.Prelude.{bit_and}
use Rattle.std.proofs.lemmas.Nat.{and_mask}
use Rattle.isa.proofs.Words.{one_at}
use Rattle.isa.proofs.word.low_bits.Goals as goal

pub returns : goal.returns
returns g c = ap (λ m. bit_and c.args.word (m - 1)) (one_at g.row.BITS c.requires) ∙ and_mask c.args.word g.row.BITS
