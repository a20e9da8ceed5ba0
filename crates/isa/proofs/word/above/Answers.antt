use Rattle.std.proofs.Common.{◌∙◌, ap, ◌*◌, ◌^◌, ◌%◌, mod-eq_of_lt}
use Rattle.std.specs.Prelude.{bit_or}
use Rattle.std.proofs.lemmas.Nat.{or_shifted}
use Rattle.isa.proofs.word.above.Goals as goal

pub returns : goal.returns
returns g c = ap (λ h. bit_or (h * 2 ^ g.row.AT % 2 ^ 32) c.args.low) c.from.ensures ∙ ap (λ h. bit_or h c.args.low) (mod-eq_of_lt c.requires.fits) ∙ or_shifted c.args.high g.row.AT c.args.low c.requires.low_fits
