use Rattle.std.proofs.Common.{get_or, ap, ◌∙◌, rules, arith}
use Rattle.std.specs.Prelude.{slice_set}
use Rattle.std.proofs.lemmas.List.Edits.{map_over_more}
use Rattle.texts.specs.Meant.{meant}
use Rattle.texts.proofs.bytes.turn_to_meant.Goals as goal

pub loop-byte-preserved : goal.loop-byte-preserved
loop-byte-preserved c =
    let text = c.loop-byte.text in
    let i = c.loop-byte.byte-index in
    ap (λ y. slice_set text i y) c.meaning.ensures
    ∙ map_over_more meant c.args.text.now text i (get_or text i 0) (omega (arith, c.loop-byte-test.true)) c.loop-byte.invariant (search rules)
