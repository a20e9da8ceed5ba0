use Rattle.std.proofs.Common.{◌≡◌, take, vec_items}
use Rattle.run_pages.specs.Steps.{steps_page}
use Rattle.run_pages.proofs.steps.steps_page.Given as goal

abbrev pub invariant-loop-step : goal.invariant-loop-step
invariant-loop-step l = vec_items l.page ≡ steps_page (take l.step-index l.steps)
