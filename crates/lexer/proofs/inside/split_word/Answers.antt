use Rattle.std.proofs.Common.{◌<◌, length, not, rules, sym, ◌∙◌, arith}
use Rattle.std.proofs.lemmas.List.Sums.{position_or_len_is}
use Rattle.lexer.specs.Text.{blank}
use Rattle.lexer.proofs.Split.{blanks_position, no_word, word_first}
use Rattle.lexer.proofs.inside.split_word.Goals as goal

pub returns-in_err-blanks : goal.returns-in_err-blanks
returns-in_err-blanks c =
    let code = c.args.code.now in
    let all = blanks_position code ∙ position_or_len_is (λ b. not (blank b)) code (length code) 0 (omega arith) (search rules) (λ h. absurd (omega arith)) in
    rw c.from_residual.ensures (no_word code (omega (arith, all)))

pub returns : goal.returns
returns c =
    let code = c.args.code.now in
    let k = c.in_ok-blanks.blanks in
    let some : k < length code = search rules in
    let first = blanks_position code ∙ position_or_len_is (λ b. not (blank b)) code k 0 (omega arith) (search rules) (search rules) in
    word_first code _ _ _ _ _ (sym first, some) c.split_at.ensures.back c.word_len.ensures.count c.word_len.ensures.within c.split_at-2.ensures.front c.split_at-2.ensures.back
