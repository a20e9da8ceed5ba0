use Rattle.std.proofs.Common.{sym, ap, ◌∙◌}
use Rattle.std.specs.List.{flat_map}
use Rattle.std.proofs.lemmas.List.{take_all}
use Rattle.std.proofs.lemmas.List.Folds.{flat_map-map}
use Rattle.sentences.specs.Pages.{question_line}
use Rattle.sentences.proofs.Found.{numbers_in}
use Rattle.sentences.proofs.help.all_questions.Goals as goal

pub returns : goal.returns
returns c =
    let rows = c.rows-number-items.result.now in
    c.loop-number.invariant ∙ ap (flat_map (λ r. question_line r.0)) (take_all c.loop-number.number-index rows c.loop-number-test.false)
    ∙ sym (flat_map-map question_line (λ r. r.0) rows) ∙ ap (flat_map question_line) (numbers_in rows c.rows-number-items.ensures)
