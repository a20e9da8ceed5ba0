use Rattle.std.proofs.Common.{is_some, sym, ap, ◌∙◌, subst}
use Rattle.std.specs.List.{flat_map}
use Rattle.output.specs.Writes.{Put}
use Rattle.output.proofs.Puts.{put_none}
use Rattle.assembler.specs.Characters.{characters}
use Rattle.assembler.specs.Emit.{four_bytes, string_constants}
use Rattle.assembler.proofs.Emission.{past_quote, some_counted, none_counted, was_some}
use Rattle.assembler.proofs.emit.put_string.Goals as goal

pub put_characters-requires : goal.put_characters-requires
put_characters-requires c =
    let w = c.args.part.now in
    let n = was_some c.count_characters.result (sym c.is_some.ensures ∙ c.if-is_some.true) in
    let counted = sym n.1 ∙ c.count_characters.ensures.value in
    sym (ap is_some (past_quote w n.0 counted)) ∙ some_counted (characters w) n.0 counted

pub returns-then-is_some : goal.returns-then-is_some
returns-then-is_some c =
    let w = c.args.part.now in
    let n = was_some c.count_characters.result (sym c.is_some.ensures ∙ c.if-is_some.true) in
    let counted = sym n.1 ∙ c.count_characters.ensures.value in
    subst (λ u. Put c.args.writer.now (flat_map four_bytes (string_constants u)) c.put_characters.new.writer) (sym (past_quote w n.0 counted)) c.put_characters.ensures

pub returns-else-is_some : goal.returns-else-is_some
returns-else-is_some c =
    let none = none_counted (characters c.args.part.now) c.count_characters.result c.count_characters.ensures.value (sym c.is_some.ensures ∙ c.if-is_some.false) in
    subst (λ u. Put c.args.writer.now (flat_map four_bytes (string_constants u)) c.args.writer.now) (sym none) (put_none _)
