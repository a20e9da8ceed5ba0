use Rattle.std.proofs.Common.{rules, ◌≡◌, Err}
use Rattle.play.specs.Whole.{orders_of, whole_run}
use Rattle.play.proofs.Telling.{heard_refused}
use Rattle.record.proofs.replay.run_again.Goals as goal

pub returns-in-Err-play-clause-heard : goal.returns-in-Err-play-clause-heard
returns-in-Err-play-clause-heard g c =
    let refused : whole_run (orders_of c.orders.result) ≡ Err c.in-Err-play.refusal = search rules in
    let heard = heard_refused g.W.Watch.hears (orders_of c.orders.result) c.in-Err-play.refusal c.args.watch.now c.play.new.watch refused c.in-Err-play.ensures.heard in
    search (rules, heard)
