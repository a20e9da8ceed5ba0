use Rattle.std.proofs.Common.{ap}
use Rattle.permit.specs.Rights.{rights_of}
use Rattle.runs.specs.Machines.{machine_of}
use Rattle.runs.specs.Requests.{Answered}
use Rattle.runs.specs.Runs.{held}
use Rattle.runs.proofs.Requested.{answered_there}
use Rattle.runs.proofs.loaded.Machine.answer.Goals as goal

pub returns-in-Other-clause-answer : goal.returns-in-Other-clause-answer
returns-in-Other-clause-answer g c =
    let h = held (machine_of c.args.self.now) c.args.cells.now (g.H.Host.meaning c.args.host.now) in
    let after = held (machine_of c.make-in-Other.new.self) c.make-in-Other.new.cells (g.H.Host.meaning c.make-in-Other.new.host) in
    ap (λ (a : Answered). a.answer) (answered_there (rights_of c.args.permit.now) c.args.request c.in-Other.part h after c.args.other.now c.bounds-start.result.0 c.bounds-start.result.1 c.make-in-Other.result c.in-Other.is
    (record { begins = c.bounds-start.ensures.start; ends = c.bounds-start.ensures.end }) (record { answer = c.make-in-Other.ensures.answer; left = c.make-in-Other.ensures.after }))

pub returns-in-Other-clause-after : goal.returns-in-Other-clause-after
returns-in-Other-clause-after g c =
    let h = held (machine_of c.args.self.now) c.args.cells.now (g.H.Host.meaning c.args.host.now) in
    let after = held (machine_of c.make-in-Other.new.self) c.make-in-Other.new.cells (g.H.Host.meaning c.make-in-Other.new.host) in
    ap (λ (a : Answered). a.held) (answered_there (rights_of c.args.permit.now) c.args.request c.in-Other.part h after c.args.other.now c.bounds-start.result.0 c.bounds-start.result.1 c.make-in-Other.result c.in-Other.is
    (record { begins = c.bounds-start.ensures.start; ends = c.bounds-start.ensures.end }) (record { answer = c.make-in-Other.ensures.answer; left = c.make-in-Other.ensures.after }))

pub returns-in-Other-clause-other : goal.returns-in-Other-clause-other
returns-in-Other-clause-other g c =
    let h = held (machine_of c.args.self.now) c.args.cells.now (g.H.Host.meaning c.args.host.now) in
    let after = held (machine_of c.make-in-Other.new.self) c.make-in-Other.new.cells (g.H.Host.meaning c.make-in-Other.new.host) in
    ap (λ (a : Answered). a.other) (answered_there (rights_of c.args.permit.now) c.args.request c.in-Other.part h after c.args.other.now c.bounds-start.result.0 c.bounds-start.result.1 c.make-in-Other.result c.in-Other.is
    (record { begins = c.bounds-start.ensures.start; ends = c.bounds-start.ensures.end }) (record { answer = c.make-in-Other.ensures.answer; left = c.make-in-Other.ensures.after }))
