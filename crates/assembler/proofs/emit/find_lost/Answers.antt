use Rattle.std.proofs.Common.{cond, Some, sym, ap, ◌∙◌}
use Rattle.std.proofs.lemmas.Bool.{cond-true, cond-false}
use Rattle.lexer.specs.Cursor.{numbered_in}
use Rattle.lexer.specs.Text.{lines_of}
use Rattle.assembler.specs.Labels.{name_in}
use Rattle.assembler.specs.Emit.{is_lost, uses}
use Rattle.assembler.proofs.Numbered.{lost_in_lines, lost_is}
use Rattle.assembler.proofs.emit.find_lost.Goals as goal

pub returns-then-lacks : goal.returns-then-lacks
returns-then-lacks c =
    let t = c.args.symbols.text.now in
    let ls = c.args.symbols.labels.now in
    let rest = lost_in_lines t ls (numbered_in c.next.new.self) in
    sym (ap (lost_in_lines t ls) c.in-Some.ensures.steps ∙ ap (λ x. cond (is_lost (name_in t) ls (uses x)) (Some c.in-Some.line.number) rest) (sym c.statement_of.ensures) ∙ cond-true _ _ _ (sym c.if-lacks.ensures))
    ∙ c.loop-line.invariant ∙ lost_is t ls 1 0 (lines_of t)

pub loop-line-preserved : goal.loop-line-preserved
loop-line-preserved c =
    let t = c.args.symbols.text.now in
    let ls = c.args.symbols.labels.now in
    let rest = lost_in_lines t ls (numbered_in c.next.new.self) in
    sym (ap (lost_in_lines t ls) c.in-Some.ensures.steps ∙ ap (λ x. cond (is_lost (name_in t) ls (uses x)) (Some c.in-Some.line.number) rest) (sym c.statement_of.ensures) ∙ cond-false _ _ _ (sym c.if-lacks.ensures))
    ∙ c.loop-line.invariant

pub returns : goal.returns
returns c =
    let t = c.args.symbols.text.now in
    let ls = c.args.symbols.labels.now in
    sym (ap (lost_in_lines t ls) c.in-None.ensures.steps.0) ∙ c.loop-line.invariant ∙ lost_is t ls 1 0 (lines_of t)
