use Rattle.std.proofs.Common.{◌≡◌, sym, ap, ◌∙◌, rules}
use Rattle.lexer.specs.Cursor.{numbered_in}
use Rattle.permit.specs.Rights.{rights_of}
use Rattle.permit_text.specs.Files.{permit_in, shown}
use Rattle.permit_text.proofs.Lines.{after_told, begins, line_named}
use Rattle.permit_text.proofs.read.read_permit.Goals as goal

pub loop-line-init : goal.loop-line-init
loop-line-init c =
    let rights = rights_of c.new-permit.result in
    begins c.args.text.now c.new-line-items.result rights c.new-line-items.ensures.begins c.new-permit.ensures
    ∙ sym (ap (λ lines. after_told (numbered_in lines) rights) c.into_iter-line-iterator.ensures.into_iter_gives)

pub returns-in_err-set_line-clause-line : goal.returns-in_err-set_line-clause-line
returns-in_err-set_line-clause-line c =
    let value : shown c.from_residual.result ≡ permit_in c.args.text.now = search rules in
    line_named c.args.text.now c.from_residual.result value
