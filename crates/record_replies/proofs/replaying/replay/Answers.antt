use Rattle.std.proofs.Common.{List, Ok, Err, Result, inl, subst}
use Rattle.play.specs.Watched.{Told, HearsAll, Hears}
use Rattle.record.specs.Opened.{contents_of, told_of_opening, Replays}
use Rattle.record.specs.declared.replay.ReplayError.{ReplayError}
use Rattle.record.proofs.Hearing.{heard_unopened}
use Rattle.record_replies.proofs.replaying.replay.Goals as goal

-- all is heard, whatever is answered
all_heard : {W A E : Type 0} (hears : W → Told → W → Type 0) (ts : List Told) (r : Result A E) (a b : W) → HearsAll hears ts a b → Hears hears ts r a b
all_heard hears ts (Ok x) a b all = all
all_heard hears ts (Err e) a b all = inl all

pub returns-in-Err-Executable-clause-heard : goal.returns-in-Err-Executable-clause-heard
returns-in-Err-Executable-clause-heard g c =
    let contents = contents_of c.args.contents.now in
    let found = subst (λ (e : ReplayError). Replays contents (Err e)) c.in-Err-Executable.field-0-is c.in-Err-Executable.ensures.found in
    let all = heard_unopened g.W.Watch.hears contents c.in-Err-Executable.refusal c.args.watch.now c.replay.new.watch found c.in-Err-Executable.ensures.heard in
    all_heard g.W.Watch.hears (told_of_opening contents) c.refuse_program.result c.args.watch.now c.replay.new.watch all
