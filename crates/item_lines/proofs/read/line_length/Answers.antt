use Rattle.std.proofs.Common.{◌==◌, sym, rules}
use Rattle.std.proofs.lemmas.List.Sums.{position_or_len_is}
use Rattle.item_lines.proofs.read.line_length.Goals as goal

pub returns-clause-value : goal.returns-clause-value
returns-clause-value c = sym (position_or_len_is (λ b. b == 10) c.args.text.now c.unwrap_or.result 0 (search rules) (search rules) (search rules))
