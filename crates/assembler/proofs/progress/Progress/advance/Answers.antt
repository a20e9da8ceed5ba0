use Rattle.std.proofs.Common.{◌≡◌, ℕ, ◌+◌, Bool, cond, leb, is_some, Some, None, Ok, Option, unwrap_or, rules, sym, ap, ◌∙◌}
use Rattle.std.specs.Option.{option_map, option_or}
use Rattle.std.proofs.lemmas.Bool.{cond-true}
use Rattle.assembler.specs.Progress.{Progress, counted, progress_of}
use Rattle.assembler.specs.Questions.{after_by, code_words, data_words, stack_in}
use Rattle.assembler.specs.Statements.{Meant, meant}
use Rattle.assembler.proofs.Counted.{ok_some, counted_few, same_progress, still_stacked, stack_kept}
use Rattle.assembler.proofs.progress.Progress.advance.Goals as goal

pub returns : goal.returns
returns c =
    let pr : Progress = progress_of c.args.self in
    let st : Option Meant = option_map meant c.args.statement in
    let h = c.args.heading in
    let sizes = c.in_ok-sizes.sizes in
    let few_is : Bool = leb (pr.code + pr.pool + (code_words st + data_words st)) 65536 in
    let more : ℕ × ℕ = (pr.code + code_words st, pr.pool + data_words st) in
    let sized : ℕ → ℕ → Option (ℕ × ℕ) = λ a b. cond (leb (pr.code + pr.pool + (a + b)) 65536) (Some (pr.code + a, pr.pool + b)) None in
    let is : c.plus.result ≡ Some sizes = ok_some c.plus.result _ sizes c.in_ok-sizes.ensures.value in
    let plus : Some (counted sizes) ≡ cond few_is (Some more) None =
    sym (ap (option_map counted) is) ∙ c.plus.ensures ∙ ap (λ n. sized n c.data_words.result) c.code_words.ensures ∙ ap (sized (code_words st)) c.data_words.ensures in
    let stack : c.or.result ≡ option_or (stack_in st) c.args.self.stack = c.or.ensures ∙ ap (λ x. option_or x c.args.self.stack) c.stack_in.ensures in
    let few = counted_few few_is (counted sizes) more plus in
    let after : Progress = record {
      waiting = c.if-not-heading.result;
      begun = c.if-is_code.result;
      stacked = is_some c.or.result;
      constants = c.if-self-3.result;
      ended = c.if-self-4.result;
      code = sizes.code;
      pool = sizes.constants;
      stack = unwrap_or c.or.result 1048575;
    } in
    ap Ok (same_progress after (after_by pr h.labelled h.named h.mnemonic st) (search rules) (search rules) (ap is_some stack ∙ still_stacked st c.args.self.stack _ c.requires) (search rules) (search rules)
    (ap (λ (p : ℕ × ℕ). p.0) few.1) (ap (λ (p : ℕ × ℕ). p.1) few.1) (ap (λ x. unwrap_or x 1048575) stack ∙ stack_kept st c.args.self.stack 1048575)) ∙ sym (cond-true few_is _ _ few.0)
