use Rattle.std.proofs.Common.{◌<◌, length, sym, ap, ◌∙◌, arith, rules, false-eqb}
use Rattle.std.specs.Option.{option_map}
use Rattle.std.proofs.lemmas.Iterator.{YieldsList-from_slice}
use Rattle.numerals.specs.Natural.{capped}
use Rattle.numerals.proofs.Caps.{some_digits, push, pushes}
use Rattle.numerals.proofs.Folds.{folded}
use Rattle.numerals.proofs.natural.digits.Goals as goal

pub returns : goal.returns
returns c =
    let s = c.args.s.now in
    let r = c.args.radix in
    let some : 0 < length s = omega (arith, false-eqb _ 0 c.if-is_empty.ensures) in
    folded _ _ _ (push r) 0 c.try_fold.result c.try_fold.ensures.ran (YieldsList-from_slice s c.iter.ensures.rest) (λ n x v q k. search rules)
    ∙ pushes r 0 s (omega (arith, c.requires)) (omega arith) ∙ sym (ap (option_map capped) (some_digits r s some))
