use Rattle.std.proofs.Common.{◌∷◌, [], ap, ◌∙◌, rules}
use Rattle.host.specs.declared.record.Record.{Record}
use Rattle.host.specs.Pushed.{items_pushed}
use Rattle.host.proofs.Pushes.{pushed_one}
use Rattle.host.proofs.sheet.RecordCodeUnit.push_item.Goals as goal

pub returns-clause-items : goal.returns-clause-items
returns-clause-items c =
    let pushed = pushed_one c.args.list.now c.from.result in
    let made = ap (λ (r : Record). items_pushed (r ∷ []) c.args.list.now) c.from.ensures in
    search (rules, c.push.ensures.items ∙ pushed ∙ made)
