use Rattle.std.proofs.Common.{◌≡◌, Ok, sym, ap}
use Rattle.permit.specs.Rights.{rights_of}
use Rattle.play.specs.Whole.{Orders, orders_of}
use Rattle.run_replies.specs.Permits.{shown_permit}
use Rattle.run_replies.specs.Wishes.{wishes_of}
use Rattle.run_replies.proofs.Told.{both_told, both_lawful}
use Rattle.run_replies.proofs.comparing.compare_from.Goals as goal

pub returns-in-Ok-clause-told : goal.returns-in-Ok-clause-told
returns-in-Ok-clause-told g c =
    let read : Ok (rights_of c.in-Ok.other) ≡ shown_permit c.args.second = sym (ap shown_permit c.in-Ok.is) in
    both_told (wishes_of c.args.wishes.now) c.args.extras (rights_of c.args.permit.now) (orders_of c.orders.result) c.orders.result.permit.now c.in-Ok.other (shown_permit c.args.second) c.compare_under.result c.orders.ensures (ap (λ (o : Orders). o.rights) c.orders.ensures) read c.compare_under.ensures.told

pub returns-in-Ok-clause-law : goal.returns-in-Ok-clause-law
returns-in-Ok-clause-law g c =
    let read : Ok (rights_of c.in-Ok.other) ≡ shown_permit c.args.second = sym (ap shown_permit c.in-Ok.is) in
    both_lawful (wishes_of c.args.wishes.now) (rights_of c.args.permit.now) (orders_of c.orders.result) c.orders.result.permit.now c.in-Ok.other (shown_permit c.args.second) c.compare_under.result c.orders.ensures (ap (λ (o : Orders). o.rights) c.orders.ensures) read c.compare_under.ensures.law
