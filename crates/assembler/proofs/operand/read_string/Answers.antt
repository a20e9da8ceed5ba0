use Rattle.std.proofs.Common.{[], Some, sym, ap, ◌∙◌}
use Rattle.std.specs.Option.{unwrap_or}
use Rattle.lexer.specs.Shown.{shown}
use Rattle.assembler.specs.Operands.{a_string, characters_in}
use Rattle.assembler.specs.Reading.{placed}
use Rattle.assembler.proofs.Strings.{string_counted, string_uncounted}
use Rattle.assembler.proofs.operand.read_string.Goals as goal

pub returns-in_default-count_characters : goal.returns-in_default-count_characters
returns-in_default-count_characters c =
    string_uncounted c.in-String.part.now c.in_default-count_characters.ensures.value
    ∙ ap (λ w. placed a_string (shown w) (Some (unwrap_or (characters_in (shown w)) []))) (sym c.in-String.is)

pub returns : goal.returns
returns c =
    string_counted c.in-String.part.now c.in-Some.field-0 c.in-Some.ensures.value
    ∙ ap (λ w. placed a_string (shown w) (Some (unwrap_or (characters_in (shown w)) []))) (sym c.in-String.is)
