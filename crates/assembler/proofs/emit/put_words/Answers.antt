use Rattle.std.proofs.Common.{◌++◌, sym, ap, ◌∙◌, subst}
use Rattle.std.specs.List.{flat_map}
use Rattle.std.specs.Option.{option_map}
use Rattle.lexer.specs.Cursor.{numbered_in}
use Rattle.lexer.specs.Text.{code_words, lines_of}
use Rattle.output.specs.Writes.{Put}
use Rattle.output.proofs.Puts.{put_none, put_then}
use Rattle.assembler.specs.Labels.{name_in}
use Rattle.assembler.specs.Addresses.{Clear}
use Rattle.assembler.specs.Emit.{four_bytes, put_by}
use Rattle.assembler.specs.Lines.{parts_of}
use Rattle.assembler.specs.Statements.{meant}
use Rattle.assembler.proofs.Aimed.{clear_said}
use Rattle.assembler.proofs.Emission.{joined_append}
use Rattle.assembler.proofs.Numbered.{words_in_lines, words_are}
use Rattle.assembler.proofs.emit.put_words.Goals as goal

pub put_statement-requires : goal.put_statement-requires
put_statement-requires c = record { low = c.requires; clear = subst Clear (sym c.statement_of.ensures) (clear_said (parts_of (code_words c.in-Some.line.code.now))) }

pub loop-line-preserved : goal.loop-line-preserved
loop-line-preserved c = λ w h.
    let t = c.args.symbols.text.now in
    let ls = c.args.symbols.labels.now in
    let rest = words_in_lines t ls (numbered_in c.next.new.self) in
    let said = option_map meant c.statement_of.result in
    let on = ap (λ x. flat_map four_bytes (words_in_lines t ls x)) c.in-Some.ensures.steps ∙ ap (λ x. flat_map four_bytes (put_by (name_in t) ls x ++ rest)) (sym c.statement_of.ensures) ∙ joined_append four_bytes (put_by (name_in t) ls said) rest in
    c.loop-line.invariant w (subst (λ x. Put c.loop-line.writer x w) (sym on) (put_then c.put_statement.ensures h))

pub returns : goal.returns
returns c =
    let t = c.args.symbols.text.now in
    let ls = c.args.symbols.labels.now in
    let none = ap (λ x. flat_map four_bytes (words_in_lines t ls x)) c.in-None.ensures.steps.0 in
    let all = ap (flat_map four_bytes) (words_are t ls 1 0 (lines_of t)) in
    subst (λ x. Put c.args.writer.now x c.loop-line.writer) all
    (c.loop-line.invariant c.loop-line.writer (subst (λ x. Put c.loop-line.writer x c.loop-line.writer) (sym none) (put_none c.loop-line.writer)))
