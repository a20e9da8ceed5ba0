use Rattle.std.proofs.Common.{◌≡◌}
use Rattle.lexer.specs.Cursor.{numbered_in}
use Rattle.permit.specs.Rights.{rights_of}
use Rattle.permit_text.specs.Files.{permit_in}
use Rattle.permit_text.proofs.Lines.{after_told}
use Rattle.permit_text.proofs.read.read_permit.Given as goal

abbrev pub invariant-loop-line : goal.invariant-loop-line
invariant-loop-line l = permit_in l.text ≡ after_told (numbered_in l.line-iterator) (rights_of l.permit)
