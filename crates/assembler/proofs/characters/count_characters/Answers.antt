use Rattle.std.proofs.Common.{◌≡◌, ◌<◌, length, IfSome, sym, ap, ◌∙◌, subst, rules}
use Rattle.std.specs.Option.{option_map}
use Rattle.assembler.specs.Characters.{characters}
use Rattle.assembler.proofs.Strings.{past_opening, characters_short}
use Rattle.assembler.proofs.characters.count_characters.Goals as goal

pub returns-in-34 : goal.returns-in-34
returns-in-34 c =
    let w = c.args.word.now in
    let e : c.count_rest.result ≡ option_map length (characters w) = c.count_rest.ensures ∙ sym (ap (option_map length) (past_opening w (search rules) (search rules))) in
    record { value = e; within = subst (λ r. IfSome r (λ n. n < length w)) (sym e) (characters_short w) }
