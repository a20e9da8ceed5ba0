use Rattle.std.proofs.Common.{◌≡◌, None, ap, ◌∙◌, rules}
use Rattle.permit.specs.Rights.{rights_of}
use Rattle.runs.specs.Machines.{machine_of}
use Rattle.runs.specs.Runs.{held}
use Rattle.play.specs.Traced.{taken}
use Rattle.play.proofs.Steps.{step_goes_on, step_ends, no_step, all_steps}
use Rattle.play.proofs.trace.first_steps.Goals as goal
use Rattle.play.proofs.trace.first_steps.Goals.{else-loop-done-test, then-loop-done-test+in_default, then-loop-done-test+in-Some+in_ok-map_err+then-not-taken}

pub loop-done-preserved : goal.loop-done-preserved
loop-done-preserved g c =
    let here = held (machine_of c.loop-done.machine) c.loop-done.cells (g.H.Host.meaning c.loop-done.host) in
    step_goes_on (rights_of c.args.permit.now) c.args.count c.loop-done.done here _ c.loop-done.steps.items _ _ c.in-Some.taken c.loop-done-test.true c.loop-done.invariant c.in-Some.ensures.value c.in-Some.ensures.after (search rules) (search rules)

pub returns : goal.returns
returns g c =
    let here = held (machine_of c.loop-done.machine) c.loop-done.cells (g.H.Host.meaning c.loop-done.host) in
    elim c.loop-done-test.branch [
      | else-loop-done-test w ↦ ap (λ v. v.items) w.steps-is ∙ all_steps (rights_of c.args.permit.now) c.args.count c.loop-done.done here c.loop-done.steps.items _ w.loop-done-test.false c.loop-done.invariant
      | then-loop-done-test+in_default w ↦
          let none : None ≡ taken (rights_of c.args.permit.now) c.loop-done.done here = search rules in
          ap (λ v. v.items) w.steps-is ∙ no_step (rights_of c.args.permit.now) c.args.count c.loop-done.done here c.loop-done.steps.items _ w.loop-done-test.true c.loop-done.invariant none
      | then-loop-done-test+in-Some+in_ok-map_err+then-not-taken w ↦
          ap (λ v. v.items) w.steps-is ∙ step_ends (rights_of c.args.permit.now) c.args.count c.loop-done.done here c.loop-done.steps.items w.push.new.self.items _ w.in-Some.taken w.loop-done-test.true c.loop-done.invariant w.in-Some.ensures.value (search rules) (search rules)
    ]
