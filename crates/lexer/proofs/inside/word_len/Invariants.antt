use Rattle.std.proofs.Common.{◌≡◌, ◌+◌, drop}
use Rattle.lexer.specs.declared.inside.Inside.TheVariants.{Gap}
use Rattle.lexer.specs.Text.{word_left}
use Rattle.lexer.proofs.inside.word_len.Given as goal

abbrev pub invariant-loop-i : goal.invariant-loop-i
invariant-loop-i l = l.i + word_left l.at (drop l.i l.s) ≡ word_left Gap l.s
