use Rattle.std.proofs.Common.{◌≡◌, Some, sym, ap, ◌∙◌, subst}
use Rattle.std.specs.List.{flat_map}
use Rattle.output.specs.Writes.{Put}
use Rattle.output.proofs.Puts.{put_then}
use Rattle.assembler.specs.Characters.{in_front, until_quote}
use Rattle.assembler.specs.Emit.{four_bytes, string_constants}
use Rattle.assembler.proofs.Emission.{more_left, constants_on}
use Rattle.assembler.proofs.Strings.{splits_some, is_closed}
use Rattle.assembler.proofs.emit.put_characters.Goals as goal

pub loop-character-smaller : goal.loop-character-smaller
loop-character-smaller c = (splits_some c.loop-character.left.now c.in-Some.after.now c.in-Some.character c.in-Some.ensures).1

pub loop-character-preserved : goal.loop-character-preserved
loop-character-preserved c =
    let left = c.loop-character.left.now in
    let x = c.from.result in
    let next = until_quote c.in-Some.after.now in
    let is : until_quote left ≡ in_front (Some x) next =
    (splits_some left c.in-Some.after.now c.in-Some.character c.in-Some.ensures).0 ∙ ap (λ v. in_front (Some v) next) (sym c.from.ensures) in
    let some = c.loop-character.invariant.1 in (
      λ w h.
          c.loop-character.invariant.0 w
          (subst (λ l. Put c.loop-character.writer l w) (sym (constants_on (until_quote left) next x is some)) (put_then c.put_word.ensures h)),
      more_left (until_quote left) next x is some,
    )

pub returns : goal.returns
returns c =
    let is = is_closed c.loop-character.left.now c.in_default.ensures c.loop-character.invariant.1 in
    c.loop-character.invariant.0 c.put_word-2.new.writer
    (subst (λ u. Put c.loop-character.writer (flat_map four_bytes (string_constants u)) c.put_word-2.new.writer) (sym is) c.put_word-2.ensures)
