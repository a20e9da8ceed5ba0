use Rattle.std.proofs.Common.{◌≡◌, Ok, Err, sym, ap, ◌∙◌}
use Rattle.std.proofs.lemmas.Result.{err_from_is_err_and}
use Rattle.std.specs.Option.{option_map}
use Rattle.assembler.specs.Progress.{progress_of}
use Rattle.assembler.specs.Reading.{result_map}
use Rattle.assembler.specs.Statements.{meant, read_named}
use Rattle.assembler.proofs.Judges.{body_ok, body_err, stack_named}
use Rattle.assembler.proofs.judge.judge_rest.Goals as goal

pub returns-in_err-statement : goal.returns-in_err-statement
returns-in_err-statement c = λ l labelled is_named is_mnemonic is_operands.
    let pr = progress_of c.args.progress in
    let h = c.args.heading in
    let p = err_from_is_err_and c.from_residual.result c.from_residual.ensures.1 in
    let q = c.in_err-statement.field-0.0 in
    let read : Err q ≡ read_named h.mnemonic l.operands = c.in_err-statement.ensures ∙ ap (read_named h.mnemonic) is_operands in
    rw (p.1)
    (ap Err p.2
    ∙ body_err pr l h.labelled h.named h.mnemonic labelled is_named is_mnemonic (sym c.if-not-is_followed.ensures) (sym c.if-not-is_known.ensures) (sym c.if-not-is_in_order.ensures) q read)

pub advance-requires : goal.advance-requires
advance-requires c = stack_named _ _ _ c.in_ok-statement.ensures

pub returns : goal.returns
returns c = λ l labelled is_named is_mnemonic is_operands.
    let pr = progress_of c.args.progress in
    let h = c.args.heading in
    let st = option_map meant c.in_ok-statement.statement in
    let read : Ok st ≡ read_named h.mnemonic l.operands = c.in_ok-statement.ensures ∙ ap (read_named h.mnemonic) is_operands in
    body_ok pr l h.labelled h.named h.mnemonic labelled is_named is_mnemonic (sym c.if-not-is_followed.ensures) (sym c.if-not-is_known.ensures) (sym c.if-not-is_in_order.ensures) st (result_map progress_of c.advance.result) read c.advance.ensures
