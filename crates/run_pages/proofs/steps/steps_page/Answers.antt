use Rattle.std.proofs.Common.{[], vec_items}
use Rattle.run_pages.specs.declared.step.Step.{Step}
use Rattle.run_pages.proofs.Turns.{step_more}
use Rattle.run_pages.proofs.steps.steps_page.Goals as goal

pub loop-step-preserved : goal.loop-step-preserved
loop-step-preserved c =
    let none : Step = record { number = 0; address = 0; word = 0; before = []; after = []; flags_before = 0; flags_after = 0 } in
    step_more (vec_items c.loop-step.page) (vec_items c.push_line.new.page) c.args.steps.now c.loop-step.step-index none c.loop-step-test.true c.loop-step.invariant c.in_ok-push_line.ensures
