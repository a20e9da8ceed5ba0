use Rattle.std.proofs.Common.{sym, ap, ◌∙◌}
use Rattle.play.proofs.Telling.{heard_refused}
use Rattle.play.specs.Whole.{orders_of, whole_run}
use Rattle.reply.specs.Replies.{shown}
use Rattle.run_replies.specs.Running.{not_run, run_by, run_under}
use Rattle.run_replies.proofs.Refused.{is_refused}
use Rattle.run_replies.proofs.running.run_under.Goals as goal

pub returns-in_ok-refuse_run-in-Err-clause-told : goal.returns-in_ok-refuse_run-in-Err-clause-told
unfolding run_under
returns-in_ok-refuse_run-in-Err-clause-told g c =
    let o = orders_of c.args.orders.now in
    let is = is_refused (whole_run o) c.in-Err.refusal (shown c.in_ok-refuse_run-in-Err.field-0) c.in-Err.ensures.value c.in_ok-refuse_run-in-Err.ensures in
    c.not_run.ensures ∙ ap not_run is.told ∙ sym (ap (run_by o c.args.extras) is.run)

pub returns-in_ok-refuse_run-in-Err-clause-heard : goal.returns-in_ok-refuse_run-in-Err-clause-heard
returns-in_ok-refuse_run-in-Err-clause-heard g c =
    let o = orders_of c.args.orders.now in
    let is = is_refused (whole_run o) c.in-Err.refusal (shown c.in_ok-refuse_run-in-Err.field-0) c.in-Err.ensures.value c.in_ok-refuse_run-in-Err.ensures in
    heard_refused g.W.Watch.hears o c.in-Err.refusal c.args.watch.now c.play.new.watch is.run c.in-Err.ensures.heard
