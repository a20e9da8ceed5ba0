use Rattle.record.specs.Filing.{inputs_of}
use Rattle.record.proofs.Agreeing.{made_agrees}
use Rattle.record.proofs.file.file.Goals as goal

pub returns-clause-replays : goal.returns-clause-replays
returns-clause-replays g c = made_agrees (inputs_of c.args.inputs.now) c.make.result c.make.ensures.filed
