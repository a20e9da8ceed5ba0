use Rattle.std.proofs.Common.{◌≡◌, []}
use Rattle.bounded.specs.Held.{entries, room, KeepsRest}
use Rattle.lexer.specs.Cursor.{numbered_in}
use Rattle.lexer.specs.Text.{lines_of, numbered}
use Rattle.assembler.specs.Assembled.{fresh}
use Rattle.assembler.specs.Progress.{progress_of}
use Rattle.assembler.proofs.Numbered.{run_in_lines}
use Rattle.assembler.proofs.pass.first_pass.Given as goal

abbrev pub invariant-loop-line : goal.invariant-loop-line
invariant-loop-line l = record {
  told : run_in_lines l.text (room l.labels) (entries l.labels) (progress_of l.progress) (numbered_in l.line-iterator) ≡ run_in_lines l.text (room l.initial.labels) [] fresh (numbered 1 0 (lines_of l.text));
  room : room l.labels ≡ room l.initial.labels;
  rest : KeepsRest l.initial.labels l.labels;
}
