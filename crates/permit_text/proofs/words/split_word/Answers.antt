use Rattle.std.proofs.Common.{◌<◌, length, not, rules, arith}
use Rattle.std.proofs.lemmas.List.Sums.{position_or_len_is}
use Rattle.permit_text.specs.Words.{is_blank}
use Rattle.permit_text.proofs.Parts.{no_words, word_first}
use Rattle.permit_text.proofs.words.split_word.Goals as goal

pub returns-in_err-start : goal.returns-in_err-start
returns-in_err-start c =
    let line = c.args.line.now in
    let all = position_or_len_is (λ b. not (is_blank b)) line (length line) 0 (omega arith) (search rules) (λ h. absurd (omega arith)) in
    rw c.from_residual.ensures (no_words line (omega (arith, all)))

pub returns : goal.returns
returns c =
    let line = c.args.line.now in
    let k = c.in_ok-start.start in
    let some : k < length line = search rules in
    let first = position_or_len_is (λ b. not (is_blank b)) line k 0 (omega arith) (search rules) (search rules) in
    let from = c.split_at.result.1.now in
    let length = position_or_len_is is_blank from c.unwrap_or-length.result 0 (search rules) (search rules) (search rules) in
    word_first line _ _ _ _ _ first some c.split_at.ensures.back length c.split_at-2.ensures.front c.split_at-2.ensures.back
