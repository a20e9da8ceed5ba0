use Rattle.std.proofs.Common.{sym, ap, ◌∙◌}
use Rattle.std.proofs.lemmas.Result.{IfOk-weaker}
use Rattle.command_line.specs.Texts.{misuse_text}
use Rattle.command_line.proofs.misuse.misuse_text.Goals as goal

pub returns-in-UnknownOption : goal.returns-in-UnknownOption
returns-in-UnknownOption c =
    let told = rw c.word-name-in-UnknownOption.ensures.value at c.format-in-UnknownOption.ensures.ok in
    IfOk-weaker c.format-in-UnknownOption.result _ _ (λ s e. e ∙ ap misuse_text (sym c.in-UnknownOption.is)) told

pub returns-in-NoValue : goal.returns-in-NoValue
returns-in-NoValue c = IfOk-weaker c.format-in-NoValue.result _ _ (λ s e. e ∙ ap misuse_text (sym c.in-NoValue.is)) c.format-in-NoValue.ensures.ok

pub returns-in-NoNumber : goal.returns-in-NoNumber
returns-in-NoNumber c = IfOk-weaker c.format-in-NoNumber.result _ _ (λ s e. e ∙ ap misuse_text (sym c.in-NoNumber.is)) c.format-in-NoNumber.ensures.ok

pub returns-in-Twice : goal.returns-in-Twice
returns-in-Twice c = IfOk-weaker c.format-in-Twice.result _ _ (λ s e. e ∙ ap misuse_text (sym c.in-Twice.is)) c.format-in-Twice.ensures.ok
