use Rattle.std.proofs.Common.{ℕ, ap, ◌∙◌, subst, rules}
use Rattle.lexer.specs.Text.{lines_of}
use Rattle.output.specs.Overlay.{Wrote}
use Rattle.output.proofs.Puts.{put_then}
use Rattle.assembler.specs.Labels.{name_in}
use Rattle.assembler.specs.Emit.{words_from, executable_of}
use Rattle.assembler.specs.Progress.{progress_of}
use Rattle.assembler.proofs.assemble.put_executable.Goals as goal

pub returns : goal.returns
returns c =
    let pr = progress_of c.args.progress in
    let words = words_from (name_in c.args.symbols.text.now) c.args.symbols.labels.now (lines_of c.args.symbols.text.now) in
    let all = put_then c.put_header.ensures c.put_words.ensures in
    let first = ap (λ (x : ℕ). executable_of pr.code pr.pool x pr.stack words) c.find_start-first.ensures in
    let stack = ap (λ (x : ℕ). executable_of pr.code pr.pool c.find_start-first.result x words) c.stack_pointer.ensures in
    subst (λ x. Wrote c.args.out.now 0 x c.len.result c.out-1.given.0) (stack ∙ first) (search (rules, all))
