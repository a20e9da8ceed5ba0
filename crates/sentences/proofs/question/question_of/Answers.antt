use Rattle.std.proofs.Common.{◌≡◌, ◌==◌, sym, ap, ◌∙◌, rules, tests}
use Rattle.std.specs.List.{find}
use Rattle.std.specs.Option.{option_map}
use Rattle.std.proofs.lemmas.Iterator.{YieldsList-from_slice}
use Rattle.std.proofs.lemmas.Iterator.Search.{find_from_yields_List}
use Rattle.sentences.specs.Questions.{question_text}
use Rattle.sentences.proofs.Found.{sentence_in, found}
use Rattle.sentences.proofs.question.question_of.Goals as goal
use Rattle.sentences.proofs.question.question_of.Goals.{After-find}

-- what the search found has the question's sentence
search_finds : (c : After-find) → sentence_in c.find.result ≡ question_text c.args.number
search_finds c =
    let row : option_map (λ r. r.now) c.find.result ≡ find (λ r. r.0 == c.args.number) c.rows.result.now =
    find_from_yields_List (λ r. r.0 == c.args.number) _ _ c.find.result c.find.ensures.ran (YieldsList-from_slice c.rows.result.now cc) (λ x b q k. search (rules, tests)) in
    found c.args.number c.rows.result.now c.find.result c.rows.ensures row

pub returns-in-Some : goal.returns-in-Some
returns-in-Some c = ap sentence_in (sym c.in-Some.is) ∙ search_finds (goal.at.returns-in-Some c).After-find

pub returns-in-None : goal.returns-in-None
returns-in-None c = ap sentence_in (sym c.in-None.is) ∙ search_finds (goal.at.returns-in-None c).After-find
