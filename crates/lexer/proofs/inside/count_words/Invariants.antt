use Rattle.std.proofs.Common.{◌≡◌, ◌+◌, length}
use Rattle.lexer.specs.declared.inside.Inside.TheVariants.{Gap}
use Rattle.lexer.specs.Text.{spelled}
use Rattle.lexer.proofs.inside.count_words.Given as goal

abbrev pub invariant-loop-after : goal.invariant-loop-after
invariant-loop-after l = l.count + length (spelled Gap l.left) ≡ length (spelled Gap l.code)

abbrev pub decreases-loop-after : goal.decreases-loop-after
decreases-loop-after l = length (spelled Gap l.left)
