-- The rows of the code's table.
use Rattle.sentences.specs.Questions.{Question, asks}
use Rattle.sentences.specs.declared.question.Row.{Row}

-- the question in a row
abbrev pub question_in : Row → Question
question_in r = asks r.0 r.1.now
