use Rattle.std.specs.List.{flat_map}
use Rattle.lexer.specs.Cursor.{numbered_in}
use Rattle.lexer.specs.Text.{lines_of, numbered}
use Rattle.output.specs.Writes.{Put}
use Rattle.output.specs.declared.writer.Writer.{Writer}
use Rattle.assembler.specs.Emit.{four_bytes}
use Rattle.assembler.proofs.Numbered.{words_in_lines}
use Rattle.assembler.proofs.emit.put_words.Given as goal

-- who writes the words of the lines that are left has written those of all lines
abbrev pub invariant-loop-line : goal.invariant-loop-line
invariant-loop-line l =
    (w : Writer) → Put l.writer (flat_map four_bytes (words_in_lines l.symbols.text.now l.symbols.labels.now (numbered_in l.line-iterator))) w
    → Put l.initial.writer (flat_map four_bytes (words_in_lines l.symbols.text.now l.symbols.labels.now (numbered 1 0 (lines_of l.symbols.text.now)))) w
