use Rattle.std.proofs.Common.{take, ◌==◌, sym, ap, rules}
use Rattle.std.proofs.lemmas.List.Sums.{position_or_len_is}
use Rattle.tasks.proofs.difference.first_line.Goals as goal

pub returns : goal.returns
returns c = ap (λ n. take n c.args.text.now) (sym (position_or_len_is (λ b. b == 10) c.args.text.now c.unwrap_or.result 0 (search rules) (search rules) (search rules)))
