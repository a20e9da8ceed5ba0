use Rattle.std.proofs.Common.{◌≡◌, Err, subst}
use Rattle.record.specs.Filing.{inputs_of, Files}
use Rattle.record.specs.declared.file.FileError.{FileError}
use Rattle.record.specs.declared.file.FileError.TheVariants.{Source, Permit, Run, Memory}
use Rattle.record.proofs.Hearing.{heard_unmade}
use Rattle.record_replies.proofs.filing.file.Goals as goal

pub returns-in_ok-refuse_source-in-Err-Source-clause-heard : goal.returns-in_ok-refuse_source-in-Err-Source-clause-heard
returns-in_ok-refuse_source-in-Err-Source-clause-heard g c =
    let other : ◌≡◌ {A = FileError} (Source c.in-Err-Source.refusal) Memory → ⊥ = λ e. cc in
    let filed = subst (λ (e : FileError). Files (inputs_of c.args.inputs.now) (Err e)) c.in-Err-Source.field-0-is c.in-Err-Source.ensures.filed in
    heard_unmade g.W.Watch.hears (inputs_of c.args.inputs.now) (Source c.in-Err-Source.refusal) c.args.watch.now c.file.new.watch filed other c.in-Err-Source.ensures.heard

pub returns-in_ok-refuse_permit-in-Err-Permit-clause-heard : goal.returns-in_ok-refuse_permit-in-Err-Permit-clause-heard
returns-in_ok-refuse_permit-in-Err-Permit-clause-heard g c =
    let other : ◌≡◌ {A = FileError} (Permit c.in-Err-Permit.error) Memory → ⊥ = λ e. cc in
    let filed = subst (λ (e : FileError). Files (inputs_of c.args.inputs.now) (Err e)) c.in-Err-Permit.field-0-is c.in-Err-Permit.ensures.filed in
    heard_unmade g.W.Watch.hears (inputs_of c.args.inputs.now) (Permit c.in-Err-Permit.error) c.args.watch.now c.file.new.watch filed other c.in-Err-Permit.ensures.heard

pub returns-in_ok-refuse_run-in-Err-Run-clause-heard : goal.returns-in_ok-refuse_run-in-Err-Run-clause-heard
returns-in_ok-refuse_run-in-Err-Run-clause-heard g c =
    let other : ◌≡◌ {A = FileError} (Run c.in-Err-Run.refusal) Memory → ⊥ = λ e. cc in
    let filed = subst (λ (e : FileError). Files (inputs_of c.args.inputs.now) (Err e)) c.in-Err-Run.field-0-is c.in-Err-Run.ensures.filed in
    heard_unmade g.W.Watch.hears (inputs_of c.args.inputs.now) (Run c.in-Err-Run.refusal) c.args.watch.now c.file.new.watch filed other c.in-Err-Run.ensures.heard
