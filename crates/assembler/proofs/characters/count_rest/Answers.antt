use Rattle.std.proofs.Common.{◌+◌, length, sym, ap, ◌∙◌, arith}
use Rattle.std.specs.Bool.{then_some}
use Rattle.std.specs.Option.{option_map}
use Rattle.std.specs.Str.{bytes_eq}
use Rattle.assembler.specs.Characters.{until_quote}
use Rattle.assembler.proofs.Strings.{count_start, count_more, splits_some, splits_none}
use Rattle.assembler.proofs.characters.count_rest.Goals as goal

pub loop-after-init : goal.loop-after-init
loop-after-init c = record { few = omega arith; value = count_start (until_quote c.args.rest.now) }

pub loop-after-smaller : goal.loop-after-smaller
loop-after-smaller c = (splits_some c.loop-after.left.now c.in-Some.after.now c.in-Some.field-0-0 c.in-Some.ensures).1

pub loop-after-preserved : goal.loop-after-preserved
loop-after-preserved c =
    let is = splits_some c.loop-after.left.now c.in-Some.after.now c.in-Some.field-0-0 c.in-Some.ensures in
    record {
      few = omega (arith, is.1);
      value =
          sym (count_more c.loop-after.count c.in-Some.field-0-0 (until_quote c.in-Some.after.now))
          ∙ sym (ap (option_map (λ cs. c.loop-after.count + length cs)) is.0) ∙ c.loop-after.invariant.value;
    }

pub returns : goal.returns
returns c =
    let left = c.loop-after.left.now in
    c.then_some.ensures ∙ ap (λ b. then_some b c.loop-after.count) (c.eq.ensures ∙ ap (bytes_eq left) c.as_slice.ensures)
    ∙ splits_none left c.loop-after.count c.in_default.ensures ∙ c.loop-after.invariant.value
