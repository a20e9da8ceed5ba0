use Rattle.std.proofs.Common.{◌≡◌, sym, ap, ◌∙◌, rules}
use Rattle.std.specs.Option.{option_map}
use Rattle.numerals.specs.Integer.{negative, capped_integer}
use Rattle.numerals.proofs.Signs.{negative_capped, after_the_minus}
use Rattle.numerals.proofs.integer.read_integer.Goals as goal

pub returns-in-45 : goal.returns-in-45
returns-in-45 c =
    let negated : c.map.result ≡ option_map negative c.read_natural.result = search rules in
    negated ∙ ap (option_map negative) c.read_natural.ensures ∙ negative_capped _ ∙ sym (ap (option_map capped_integer) (after_the_minus c.args.word.now (search rules) (search rules)))
