use Rattle.std.proofs.Common.{eqb, take, sym, ap, ◌∙◌, rules}
use Rattle.std.proofs.lemmas.List.Sums.{position_or_len_is}
use Rattle.lexer.proofs.Split.{before_is}
use Rattle.lexer.proofs.inside.before.Goals as goal

pub returns-clause-value : goal.returns-clause-value
returns-clause-value c =
    let s = c.args.s.now in
    let b = c.args.b in
    let count = position_or_len_is (λ x. eqb x b) s c.unwrap_or-count.result 0 (search rules) (search rules) (search rules) in
    c.split_at.ensures.front ∙ ap (λ i. take i s) (sym count) ∙ sym (before_is b s)
