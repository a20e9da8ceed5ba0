use Rattle.lexer.proofs.Divides.{lined}
use Rattle.lexer.proofs.Stands.{lines_stand}
use Rattle.lexer.proofs.lines.Lines.new.Goals as goal

pub returns-clause-lined : goal.returns-clause-lined
returns-clause-lined c = lined c.args.text.now

pub returns-clause-stand : goal.returns-clause-stand
returns-clause-stand c = lines_stand c.args.text.now
