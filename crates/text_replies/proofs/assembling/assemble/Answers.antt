use Rattle.std.proofs.Common.{None, Err, ap, ◌∙◌, subst, vec_items}
use Rattle.reply.specs.Replies.{Reply, refused_at}
use Rattle.tasks.specs.Assembling.{RefusesFirst, fact_lines}
use Rattle.tasks.specs.declared.assembling.AssembleError.TheVariants.{Refused}
use Rattle.text_replies.specs.Assembled.{Assembly}
use Rattle.text_replies.proofs.FirstTold.{facts_told, tells_refusal}
use Rattle.text_replies.proofs.assembling.assemble.Goals as goal

pub returns-in_ok-page-in-Ok-clause-told : goal.returns-in_ok-page-in-Ok-clause-told
returns-in_ok-page-in-Ok-clause-told c =
    let made = c.in-Ok.assembled in
    facts_told c.args.source.now (vec_items c.into_bytes.result) made.bytes.items made.summary made.labels.items c.in-Ok.ensures.answer
    (ap vec_items c.into_bytes.ensures.value ∙ c.in_ok-page-in-Ok.ensures ∙ ap (fact_lines made.summary) (c.len.ensures ∙ made.labels.ok.0))

pub returns-in_ok-refuse_at-in-Err-Refused-clause-first : goal.returns-in_ok-refuse_at-in-Err-Refused-clause-first
returns-in_ok-refuse_at-in-Err-Refused-clause-first c =
    let t = c.args.source.now in
    let refusal = c.in-Err-Refused.refusal in
    let without : Reply → Assembly = λ r. record { reply = r; executable = None } in
    let exact : RefusesFirst t (Err (Refused refusal)) = subst (λ e. RefusesFirst t (Err e)) c.in-Err-Refused.field-0-is c.in-Err-Refused.ensures.first in
    tells_refusal t refusal _ (ap without (c.in_ok-refuse_at-in-Err-Refused.ensures ∙ ap (λ k. refused_at k refusal.origin.line) c.number.ensures)) exact
