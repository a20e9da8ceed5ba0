use Rattle.std.proofs.Common.{rules}
use Rattle.assembler.specs.Characters.{characters}
use Rattle.assembler.proofs.Counted.{string_mapped}
use Rattle.assembler.proofs.effect.string_words.Goals as goal

pub returns : goal.returns
returns c = string_mapped (characters c.args.part.now) c.count_characters.result c.map_or.result _ c.count_characters.ensures.value c.map_or.ensures (λ k h. search rules)
