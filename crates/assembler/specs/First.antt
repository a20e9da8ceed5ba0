-- The law of a refusal: a question and a line are answered exactly where that question is the first with a no.
use Rattle.std.specs.Prelude.{◌≡◌, ℕ, ◌-◌, ◌<◌, ◌≤◌, true, false, List, [], take, Some, None, Err, Result}
use Rattle.std.specs.List.{slice_get}
use Rattle.lexer.specs.Text.{lines_of, words_of}
use Rattle.assembler.specs.Labels.{name_in}
use Rattle.assembler.specs.Assembled.{passed, fresh, run_from, right_text, room_for}
use Rattle.assembler.specs.Emit.{lost_from}
use Rattle.assembler.specs.Lines.{parts_of}
use Rattle.assembler.specs.Questions.{asked, rank_of, refusal_at}
use Rattle.assembler.specs.declared.label.Label.{Label}
use Rattle.assembler.specs.Progress.{Progress}
use Rattle.assembler.specs.declared.question.Question.{Question}
use Rattle.assembler.specs.declared.question.Question.TheVariants as question
use Rattle.assembler.specs.declared.question.Refusal.{Refusal}

-- the lines before line n all pass, and leave these labels and this progress
abbrev pub Before : List ℕ → ℕ → ℕ → List Label → Progress → Type 0
Before t cap n ls pr = run_from (name_in t) cap [] fresh 1 0 (take (n - 1) (lines_of t)) ≡ passed ls pr

-- a line answers no to a question, and yes to each that is asked before it
abbrev pub SaysNo : List ℕ → ℕ → List Label → Progress → List ℕ → Question → Type 0
SaysNo t cap ls pr l q = (asked (name_in t) cap ls pr (parts_of (words_of l)) q ≡ false) × ((p : Question) → rank_of p < rank_of q → asked (name_in t) cap ls pr (parts_of (words_of l)) p ≡ true)

-- a question of line n is the first with a no: all lines before it pass, and its earlier questions get a yes
abbrev pub NoOnLine : List ℕ → ℕ → Question → ℕ → Type 0
NoOnLine t cap q n = (l : List ℕ) × (ls : List Label) × (pr : Progress) × (1 ≤ n) × (slice_get (lines_of t) (n - 1) ≡ Some l) × Before t cap n ls pr × SaysNo t cap ls pr l q

-- the text is right and all its lines pass, and leave these labels and this progress
abbrev pub AllPass : List ℕ → ℕ → List Label → Progress → Type 0
AllPass t cap ls pr = (right_text t ≡ true) × (run_from (name_in t) cap [] fresh 1 0 (lines_of t) ≡ passed ls pr)

-- a question is the first with a no, and n is its line, or 0 where no line is the cause
abbrev pub FirstNo : List ℕ → ℕ → ℕ → Question → ℕ → Type 0
FirstNo t cap room question.Text n = (right_text t ≡ false) × (n ≡ 0)
FirstNo t cap room question.Label n = (right_text t ≡ true) × NoOnLine t cap question.Label n
FirstNo t cap room question.LabelRoom n = (right_text t ≡ true) × NoOnLine t cap question.LabelRoom n
FirstNo t cap room question.Waiting n = (right_text t ≡ true) × NoOnLine t cap question.Waiting n
FirstNo t cap room question.Name n = (right_text t ≡ true) × NoOnLine t cap question.Name n
FirstNo t cap room question.Order n = (right_text t ≡ true) × NoOnLine t cap question.Order n
FirstNo t cap room question.Count n = (right_text t ≡ true) × NoOnLine t cap question.Count n
FirstNo t cap room question.Form n = (right_text t ≡ true) × NoOnLine t cap question.Form n
FirstNo t cap room question.Range n = (right_text t ≡ true) × NoOnLine t cap question.Range n
FirstNo t cap room question.Words n = (right_text t ≡ true) × NoOnLine t cap question.Words n
FirstNo t cap room question.End n = (ls : List Label) × (pr : Progress) × AllPass t cap ls pr × (pr.ended ≡ false) × (n ≡ 0)
FirstNo t cap room question.Defined n = (ls : List Label) × (pr : Progress) × AllPass t cap ls pr × (pr.ended ≡ true) × (lost_from (name_in t) ls 1 (lines_of t) ≡ Some n)
FirstNo t cap room question.Output n = (ls : List Label) × (pr : Progress) × AllPass t cap ls pr × (pr.ended ≡ true) × (lost_from (name_in t) ls 1 (lines_of t) ≡ None) × (room_for pr room ≡ false) × (n ≡ 0)

-- an answer is a refusal by a question and a line exactly where that question is the first with a no, on that line
abbrev pub ExactlyFirstNo : List ℕ → ℕ → ℕ → Result ℕ Refusal → Type 0
ExactlyFirstNo t cap room r = (q : Question) (n : ℕ) → (r ≡ Err (refusal_at q n) → FirstNo t cap room q n) × (FirstNo t cap room q n → r ≡ Err (refusal_at q n))
