-- The turns of the loop over steps.
use Rattle.std.proofs.Common.{◌≡◌, ℕ, ◌+◌, ◌<◌, List, [], ◌++◌, length, get_or, take, sym, ap, ◌∙◌}
use Rattle.std.specs.List.{flat_map}
use Rattle.std.proofs.lemmas.List.{take_more, flat_map_more}
use Rattle.run_pages.specs.Steps.{step_line, steps_page}
use Rattle.run_pages.specs.declared.step.Step.{Step}

-- one more step's line
pub step_more : (page after : List ℕ) (ss : List Step) (i : ℕ) (d : Step) → i < length ss → page ≡ steps_page (take i ss) → after ≡ page ++ step_line (get_or ss i d) → after ≡ steps_page (take (i + 1) ss)
step_more page after ss i d h inv e =
    e ∙ ap (λ x. x ++ step_line (get_or ss i d)) inv ∙ flat_map_more step_line [] (take i ss) (get_or ss i d) ∙ ap (flat_map step_line) (sym (take_more ss i d h))
