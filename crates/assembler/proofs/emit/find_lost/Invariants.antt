use Rattle.std.proofs.Common.{◌≡◌}
use Rattle.lexer.specs.Cursor.{numbered_in}
use Rattle.lexer.specs.Text.{lines_of, numbered}
use Rattle.assembler.proofs.Numbered.{lost_in_lines}
use Rattle.assembler.proofs.emit.find_lost.Given as goal

abbrev pub invariant-loop-line : goal.invariant-loop-line
invariant-loop-line l =
    lost_in_lines l.symbols.text.now l.symbols.labels.now (numbered_in l.line-iterator)
    ≡ lost_in_lines l.symbols.text.now l.symbols.labels.now (numbered 1 0 (lines_of l.symbols.text.now))
