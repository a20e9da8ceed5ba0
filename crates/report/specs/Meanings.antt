-- What each question finds wrong, in words.
use Rattle.std.specs.Prelude.{ℕ, List, codes}
use Rattle.assembler.specs.declared.question.Question.{Question}
use Rattle.assembler.specs.declared.question.Question.TheVariants as question

-- what is wrong with a text that gets a no
abbrev pub meaning_of : Question → List ℕ
meaning_of question.Text = codes "the text is too long or has a byte that is not allowed"
meaning_of question.Label = codes "the label is not a valid name, is reserved or is already defined"
meaning_of question.LabelRoom = codes "there are too many labels"
meaning_of question.Waiting = codes "a label is followed by another label or by a directive"
meaning_of question.Name = codes "no command, constant or directive has this name"
meaning_of question.Order = codes "this command, constant or directive may not stand here"
meaning_of question.Count = codes "the number of operands is wrong"
meaning_of question.Form = codes "an operand is not well formed"
meaning_of question.Range = codes "a number is out of range"
meaning_of question.Words = codes "there are more than 65536 words"
meaning_of question.End = codes "there is no end directive"
meaning_of question.Defined = codes "a label is used and not defined"
meaning_of question.Output = codes "the output is too short for the executable"
