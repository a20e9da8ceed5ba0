use Rattle.std.proofs.Common.{codes, decimal, ◌∙◌}
use Rattle.std.proofs.lemmas.Result.{IfOk-weaker}
use Rattle.report.proofs.Texts.{four_lines}
use Rattle.report.proofs.success.number_lines.Goals as goal

pub returns : goal.returns
returns c =
    let s = c.args.summary in
    let text =
    four_lines (codes "words of code: ") (decimal s.code) (codes "words of constants: ") (decimal s.constants) (codes "first instruction: ") (decimal s.first) (codes "stack pointer: ") (decimal s.stack) in
    IfOk-weaker c.format.result _ _ (λ s is. is ∙ text) c.format.ensures.ok
