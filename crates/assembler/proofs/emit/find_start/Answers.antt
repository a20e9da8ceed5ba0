use Rattle.std.proofs.Common.{sym, ap, ◌∙◌}
use Rattle.lexer.specs.Cursor.{numbered_in}
use Rattle.lexer.specs.Text.{lines_of}
use Rattle.assembler.specs.Labels.{name_in}
use Rattle.assembler.specs.Emit.{start_by}
use Rattle.assembler.proofs.Numbered.{start_in_lines, start_is}
use Rattle.assembler.proofs.emit.find_start.Goals as goal

pub returns-in-Some-start_in : goal.returns-in-Some-start_in
returns-in-Some-start_in c =
    let t = c.args.symbols.text.now in
    let ls = c.args.symbols.labels.now in
    let rest = start_in_lines t ls (numbered_in c.next.new.self) in
    c.in-Some-start_in.ensures rest ∙ ap (λ x. start_by (name_in t) ls x rest) c.statement_of.ensures ∙ sym (ap (start_in_lines t ls) c.in-Some.ensures.steps) ∙ c.loop-line.invariant ∙ start_is t ls 1 0 (lines_of t)

pub loop-line-preserved : goal.loop-line-preserved
loop-line-preserved c =
    let t = c.args.symbols.text.now in
    let ls = c.args.symbols.labels.now in
    let rest = start_in_lines t ls (numbered_in c.next.new.self) in
    c.in_default.ensures rest ∙ ap (λ x. start_by (name_in t) ls x rest) c.statement_of.ensures ∙ sym (ap (start_in_lines t ls) c.in-Some.ensures.steps) ∙ c.loop-line.invariant

pub returns : goal.returns
returns c =
    let t = c.args.symbols.text.now in
    let ls = c.args.symbols.labels.now in
    sym (ap (start_in_lines t ls) c.in-None.ensures.steps.0) ∙ c.loop-line.invariant ∙ start_is t ls 1 0 (lines_of t)
