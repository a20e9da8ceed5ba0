-- The turns of the first pass.
use Rattle.std.proofs.Common.{◌≡◌, ℕ, ◌+◌, ◌-◌, ◌<◌, ◌≤◌, Bool, true, false, cond, List, [], ◌∷◌, ◌++◌, length, drop, is_some, Some, None, Ok, Err, Option, Result, sym, refl, ap, ◌∙◌, arith}
use Rattle.std.proofs.lemmas.List.{drop-drop}
use Rattle.std.proofs.lemmas.Bool.{ltb-true, false≢true}
use Rattle.lexer.specs.Text.{CodeLine, code_words, blanks}
use Rattle.bounded.specs.Held.{KeepsRest}
use Rattle.bounded.specs.declared.list.BoundedList.{BoundedList}
use Rattle.assembler.specs.Labels.{name_in}
use Rattle.assembler.proofs.Numbered.{run_in_lines}
use Rattle.assembler.specs.declared.label.Label.{Label}
use Rattle.assembler.specs.Progress.{Progress, Judged}
use Rattle.assembler.specs.declared.question.Question.{Question}
use Rattle.assembler.specs.Lines.{Parts, parts_of}
use Rattle.assembler.specs.Questions.{first_no, refusal_in, label_room, after, entries_of, judged_of, judge_of, labels_after}
use Rattle.assembler.specs.Assembled.{refused, entered, on_line}
use Rattle.assembler.proofs.Judges.{or_ok, or_err}

-- a question that got a yes, and those after it
pub passes : (a : Bool) (rest : Option Question) (q : Question) → cond a rest (Some q) ≡ None → (a ≡ true) × (rest ≡ None)
passes true rest q e = (refl, e)
passes false rest q e = let z : ◌≡◌ {A = ℕ} 0 1 = cc in absurd (omega arith)

pub through : (f : Question → Bool) (qs rs : List Question) → first_no f (qs ++ rs) ≡ None → first_no f rs ≡ None
through f [] rs e = e
through f (q ∷ qs) rs e = through f qs rs (passes (f q) (first_no f (qs ++ rs)) q e).1

-- what a line with code adds
abbrev pub of_code : List ℕ → ℕ → List Label → Progress → ℕ → List ℕ → Result Judged Question
of_code t cap ls pr s code = judge_of (name_in t) cap ls pr (s + blanks code) (parts_of (code_words code))

module _ (t : List ℕ) (cap : ℕ) (ls : List Label) (pr : Progress) (l : Parts) (ok : refusal_in (name_in t) cap ls pr l ≡ None) where
  roomy : label_room cap ls l.label ≡ true
  roomy = (passes _ _ _ (passes _ _ _ ok).1).0

short : (cap : ℕ) (ls : List Label) (p : ℕ) (pr : Progress) (w : Option (List ℕ)) → label_room cap ls w ≡ true → is_some (entries_of p pr w) ≡ true → length ls < cap
short cap ls p pr None r e = absurd (false≢true e)
short cap ls p pr (Some w) r e = ltb-true (length ls) cap r

pub finds_room : (t : List ℕ) (cap : ℕ) (ls : List Label) (pr : Progress) (s : ℕ) (code : List ℕ) (j : Judged) → Ok j ≡ of_code t cap ls pr s code → is_some j.label ≡ true → length ls < cap
finds_room t cap ls pr s code j e some =
    let l = parts_of (code_words code) in
    let both = or_ok (judged_of (s + blanks code) pr l) j (refusal_in (name_in t) cap ls pr l) e in
    short cap ls (s + blanks code) pr l.label (roomy t cap ls pr l both.0) (sym (ap (λ x. is_some x.label) both.1) ∙ some)

entered_is : (p : ℕ) (ls : List Label) (pr : Progress) (w : Option (List ℕ)) → labels_after p ls pr w ≡ entered ls (entries_of p pr w)
entered_is p ls pr None = refl
entered_is p ls pr (Some w) = refl

-- a line that passes, and one that is refused
module _ (t : List ℕ) (cap : ℕ) (ls : List Label) (pr : Progress) (l : CodeLine) (rest : List CodeLine) where
  pub run_ok : (j : Judged) → Ok j ≡ of_code t cap ls pr l.place l.code → run_in_lines t cap ls pr (l ∷ rest) ≡ run_in_lines t cap (entered ls j.label) j.progress rest
  run_ok j ok =
      let line = parts_of (code_words l.code) in
      let both = or_ok (judged_of (l.place + blanks l.code) pr line) j (refusal_in (name_in t) cap ls pr line) ok in
      ap (λ o. on_line l.number ls o (run_in_lines t cap (labels_after (l.place + blanks l.code) ls pr line.label) (after pr line) rest)) both.0
      ∙ ap (λ x. run_in_lines t cap x (after pr line) rest) (entered_is (l.place + blanks l.code) ls pr line.label)
      ∙ sym (ap (λ x. run_in_lines t cap (entered ls x.label) x.progress rest) both.1)

  pub run_err : (q : Question) → Err q ≡ of_code t cap ls pr l.place l.code → run_in_lines t cap ls pr (l ∷ rest) ≡ refused q l.number ls
  run_err q bad =
      let line = parts_of (code_words l.code) in
      ap (λ o. on_line l.number ls o (run_in_lines t cap (labels_after (l.place + blanks l.code) ls pr line.label) (after pr line) rest)) (or_err (judged_of (l.place + blanks l.code) pr line) (refusal_in (name_in t) cap ls pr line) q bad)

-- lists that agree from one place on agree from a later one on
pub beyond : {X : Type 0} (m n : ℕ) (xs ys : List X) → m ≤ n → drop m xs ≡ drop m ys → drop n xs ≡ drop n ys
beyond m n xs ys h e =
    let on : m + (n - m) ≡ n = omega arith in
    sym (ap (λ i. drop i xs) on) ∙ sym (drop-drop (n - m) m xs) ∙ ap (drop (n - m)) e ∙ drop-drop (n - m) m ys ∙ ap (λ i. drop i ys) on

-- what two changes in turn keep
pub keeps_on : {X : Type 0} (a b c : BoundedList X) → KeepsRest a b → KeepsRest b c → b.len ≤ c.len → KeepsRest a c
keeps_on a b c f g h = record { past = g.past ∙ beyond b.len c.len b.items.now a.items.now h f.past; lender = g.lender ∙ f.lender }
