use Rattle.std.proofs.Common.{sym, ap, ◌∙◌}
use Rattle.std.proofs.lemmas.List.{drop-take}
use Rattle.executable.specs.Questions.{all_zero}
use Rattle.executable.proofs.header.Header.has_zero_filler.Goals as goal

pub returns : goal.returns
returns c = c.all_zero.ensures ∙ ap all_zero (sym (drop-take 36 476 c.args.self.now.bytes.now))
