use Rattle.std.proofs.Common.{◌∙◌}
use Rattle.std.proofs.lemmas.Result.{IfOk-weaker}
use Rattle.report.proofs.Texts.{refusal_text}
use Rattle.report.proofs.refused.refusal_line.Goals as goal

pub returns : goal.returns
returns c =
    let text = refusal_text c.args.refusal c.number-number.result c.meaning-meaning.result.now c.number-number.ensures c.meaning-meaning.ensures in
    IfOk-weaker c.format.result _ _ (λ s e. e ∙ text) c.format.ensures.ok
