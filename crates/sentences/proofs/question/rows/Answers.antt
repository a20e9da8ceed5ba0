use Rattle.std.proofs.Common.{refl}
use Rattle.sentences.specs.Questions.{questions}
use Rattle.sentences.proofs.question.rows.Goals as goal

pub returns : goal.returns
unfolding questions
returns c = refl
