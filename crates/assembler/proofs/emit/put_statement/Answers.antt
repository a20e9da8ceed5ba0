use Rattle.std.proofs.Common.{◌≡◌, ◌+◌, ◌%◌, ◌^◌, ◌<◌, Some, unwrap_or, sym, ap, ◌∙◌, subst, rules, arith}
use Rattle.std.specs.List.{flat_map}
use Rattle.std.specs.Option.{option_map}
use Rattle.std.specs.Prelude.{bit_or}
use Rattle.output.specs.Writes.{Put}
use Rattle.output.proofs.Puts.{put_none}
use Rattle.assembler.specs.Addresses.{Clear}
use Rattle.assembler.specs.Emit.{address_of, four_bytes, put_by}
use Rattle.assembler.specs.Labels.{name_in}
use Rattle.assembler.specs.Statements.{labelled, meant}
use Rattle.assembler.proofs.Aimed.{address_low, or_is_sum}
use Rattle.assembler.proofs.emit.put_statement.Goals as goal

pub returns-in_default : goal.returns-in_default
returns-in_default c = search (rules, put_none c.args.writer.now)

pub returns-in-Stack : goal.returns-in-Stack
returns-in-Stack c = search (rules, put_none c.args.writer.now)

pub returns-in-Labelled : goal.returns-in-Labelled
returns-in-Labelled c =
    let names = name_in c.args.symbols.text.now in
    let ls = c.args.symbols.labels.now in
    let l = c.in-Labelled.label.now in
    let w = c.in-Labelled.word in
    let a = c.unwrap_or-address.result in
    let is : option_map meant c.args.statement ≡ Some (labelled w l) = ap (option_map meant) (c.in-Some.is ∙ ap Some c.in-Labelled.is) in
    let at : a ≡ address_of names ls l = c.unwrap_or-address.ensures ∙ ap (λ o. unwrap_or o 0) c.address_of.ensures in
    let zeros : w % 2 ^ 20 ≡ 0 = subst Clear is c.requires.clear in
    let low : a < 2 ^ 20 = (let h = address_low names l ls c.requires.low in omega arith) in
    let sum : bit_or w a ≡ w + address_of names ls l = or_is_sum w a zeros low ∙ ap (λ x. w + x) at in
    subst (λ x. Put c.args.writer.now x c.put_word.new.writer) (ap four_bytes sum ∙ sym (ap (λ o. flat_map four_bytes (put_by names ls o)) is)) c.put_word.ensures
