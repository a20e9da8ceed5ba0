use Rattle.play.specs.Whole.{orders_of, shown}
use Rattle.run_replies.proofs.Told.{parts_told}
use Rattle.run_replies.proofs.comparing.part.Goals as goal

pub returns-in-Ok-clause-told : goal.returns-in-Ok-clause-told
returns-in-Ok-clause-told c =
    parts_told (orders_of c.args.orders.now) c.args.extras c.args.orders.now.permit.now c.args.second.now (shown c.args.played) c.in-Ok.parting c.parted.result c.in-Ok.ensures.parts c.parted.ensures
