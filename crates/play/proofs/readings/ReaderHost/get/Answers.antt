use Rattle.std.proofs.Common.{ap}
use Rattle.play.proofs.Reading.{left_after}
use Rattle.play.proofs.readings.ReaderHost.get.Goals as goal

pub invariant_of-self : goal.invariant_of-self
invariant_of-self g c =
    let waiting = ap (λ m. m.waiting) c.get.ensures.after in
    record {
      left = left_after g.R.Readings.readings c.args.self.now.tape.input.now c.get.new.self.input.now c.args.kind c.get.result c.args.self.now.left c.get.ensures.value waiting c.get.ensures.input;
    }
