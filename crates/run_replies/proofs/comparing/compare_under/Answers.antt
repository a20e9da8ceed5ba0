use Rattle.std.proofs.Common.{◌≡◌, true, Result, IfOk, sym, ap, subst, ◌∙◌}
use Rattle.play.proofs.Telling.{heard_refused}
use Rattle.play.specs.Whole.{Outcome, orders_of, whole_run}
use Rattle.play.specs.declared.refusal.Refusal.{Refusal}
use Rattle.reply.specs.Replies.{shown}
use Rattle.run_replies.specs.Comparing.{IsDoneWhereRun, RunTold, TellsBy}
use Rattle.run_replies.specs.Running.{not_run, shown_running}
use Rattle.run_replies.proofs.Refused.{is_refused}
use Rattle.run_replies.proofs.comparing.compare_under.Goals as goal

pub returns-in_ok-refuse_run-in-Err-clause-told : goal.returns-in_ok-refuse_run-in-Err-clause-told
unfolding RunTold
returns-in_ok-refuse_run-in-Err-clause-told g c =
    let o = orders_of c.args.orders.now in
    let is = is_refused (whole_run o) c.in-Err.refusal (shown c.in_ok-refuse_run-in-Err.field-0) c.in-Err.ensures.value c.in_ok-refuse_run-in-Err.ensures in
    subst (λ (x : Result Outcome Refusal). TellsBy o c.args.extras c.args.orders.now.permit.now c.args.second.now x (shown_running c.not_run.result)) (sym is.run) (c.not_run.ensures ∙ ap not_run is.told)

pub returns-in_ok-refuse_run-in-Err-clause-law : goal.returns-in_ok-refuse_run-in-Err-clause-law
unfolding IsDoneWhereRun
returns-in_ok-refuse_run-in-Err-clause-law g c =
    let is = is_refused (whole_run (orders_of c.args.orders.now)) c.in-Err.refusal (shown c.in_ok-refuse_run-in-Err.field-0) c.in-Err.ensures.value c.in_ok-refuse_run-in-Err.ensures in
    λ _. subst (λ (x : Result Outcome Refusal). IfOk x (λ _. (shown_running c.not_run.result).reply.done ≡ true)) (sym is.run) tt

pub returns-in_ok-refuse_run-in-Err-clause-heard : goal.returns-in_ok-refuse_run-in-Err-clause-heard
returns-in_ok-refuse_run-in-Err-clause-heard g c =
    let o = orders_of c.args.orders.now in
    let is = is_refused (whole_run o) c.in-Err.refusal (shown c.in_ok-refuse_run-in-Err.field-0) c.in-Err.ensures.value c.in_ok-refuse_run-in-Err.ensures in
    heard_refused g.W.Watch.hears o c.in-Err.refusal c.args.watch.now c.play.new.watch is.run c.in-Err.ensures.heard
