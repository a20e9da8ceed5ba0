use Rattle.std.proofs.Common.{◌≡◌, take, string_bytes}
use Rattle.std.specs.List.{flat_map}
use Rattle.sentences.specs.Pages.{question_line}
use Rattle.sentences.proofs.help.all_questions.Given as goal

abbrev pub invariant-loop-number : goal.invariant-loop-number
invariant-loop-number l = string_bytes l.page ≡ flat_map (λ r. question_line r.0) (take l.number-index l.number-items)
