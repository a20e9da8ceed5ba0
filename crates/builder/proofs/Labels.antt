-- The labels that the lines leave.
use Rattle.std.proofs.Common.{◌≡◌, ℕ, suc, ◌+◌, ◌-◌, ◌≤◌, Bool, true, false, cond, List, [], ◌∷◌, ◌++◌, length, take, Some, None, Option, sym, refl, ap, ◌∙◌, subst, arith}
use Rattle.std.proofs.lemmas.List.{append-nil, append_assoc}
use Rattle.lexer.specs.Text.{lines_of, code_of, blanks}
use Rattle.assembler.specs.Labels.{name_in}
use Rattle.assembler.specs.Assembled.{Outcome, passed, refused, on_line, run_from, fresh}
use Rattle.assembler.specs.Questions.{asked, first_no, line_questions, refusal_in, labels_after, after}
use Rattle.assembler.specs.declared.label.Label.{Label}
use Rattle.assembler.specs.Progress.{Progress}
use Rattle.assembler.specs.declared.question.Question.{Question}
use Rattle.assembler.specs.declared.question.Question.TheVariants as question
use Rattle.builder.specs.Built.{text_labels, labels_before, labels_refused}
use Rattle.builder.specs.Source.{line_parts, count_on, entry_at, labels_in}
use Rattle.builder.proofs.Passing.{passing}

-- the questions that lines are asked
abbrev OfLine : Question → Type 0
OfLine question.Text = ⊥
OfLine question.Label = Unit {0}
OfLine question.LabelRoom = Unit {0}
OfLine question.Waiting = Unit {0}
OfLine question.Name = Unit {0}
OfLine question.Order = Unit {0}
OfLine question.Count = Unit {0}
OfLine question.Form = Unit {0}
OfLine question.Range = Unit {0}
OfLine question.Words = Unit {0}
OfLine question.End = ⊥
OfLine question.Defined = ⊥
OfLine question.Output = ⊥

abbrev AllOfLine : List Question → Type 0
AllOfLine [] = Unit {0}
AllOfLine (q ∷ qs) = OfLine q × AllOfLine qs

no_one : (b : Bool) (x q : Question) (rest : Option Question) → OfLine x → cond b rest (Some x) ≡ Some q → (rest ≡ Some q → OfLine q) → OfLine q
no_one true x q rest of e more = more e
no_one false x q rest of e more = let same : x ≡ q = cc in subst OfLine same of

refuses_line : (f : Question → Bool) (qs : List Question) (q : Question) → AllOfLine qs → first_no f qs ≡ Some q → OfLine q
refuses_line f [] q of e = let z : ◌≡◌ {A = ℕ} 0 1 = cc in absurd (omega arith)
refuses_line f (x ∷ qs) q of e = no_one (f x) x q (first_no f qs) of.0 e (λ e'. refuses_line f qs q of.1 e')

line_asked : AllOfLine line_questions
line_asked = (tt, (tt, (tt, (tt, (tt, (tt, (tt, (tt, (tt, tt)))))))))

entered_at : (p : ℕ) (ls : List Label) (pr : Progress) (w : Option (List ℕ)) → labels_after p ls pr w ≡ ls ++ entry_at p (pr.code + pr.pool) w
entered_at p ls pr None = sym (append-nil ls)
entered_at p ls pr (Some w) = refl

-- the labels of the lines that passed follow those that were there
abbrev Leaves : List Label → ℕ → (List (List ℕ) → List Label) → List (List ℕ) → Outcome → Type 0
Leaves ls n made lines (passed ls' pr) = ls' ≡ ls ++ made lines
Leaves ls n made lines (refused q m ls') = OfLine q × (n ≤ m) × (ls' ≡ ls ++ made (take (m - n) lines))

-- one more line in front
one_more : (ls e : List Label) (n : ℕ) (made all : List (List ℕ) → List Label) (l : List ℕ) (rest : List (List ℕ)) (o : Outcome) → ((xs : List (List ℕ)) → all (l ∷ xs) ≡ e ++ made xs) → Leaves (ls ++ e) (n + 1) made rest o → Leaves ls n all (l ∷ rest) o
one_more ls e n made all l rest (passed ls' pr) is h = h ∙ append_assoc ls e (made rest) ∙ sym (ap (λ x. ls ++ x) (is rest))
one_more ls e n made all l rest (refused q m ls') is h =
    let at = h.1 in
    let on : suc (m - (n + 1)) ≡ m - n = omega arith in
    (h.0, omega arith, h.2 ∙ append_assoc ls e (made (take (m - (n + 1)) rest)) ∙ sym (ap (λ x. ls ++ x) (is (take (m - (n + 1)) rest))) ∙ ap (λ k. ls ++ all (take k (l ∷ rest))) on)

module _ (t : List ℕ) (cap : ℕ) where
  line_step : (ls : List Label) (pr : Progress) (n p : ℕ) (l : List ℕ) (rest : List (List ℕ)) (next : Outcome) (o : Option Question) → refusal_in (name_in t) cap ls pr (line_parts l) ≡ o
      → Leaves (labels_after (p + blanks (code_of l)) ls pr (line_parts l).label) (n + 1) (labels_in (p + length l + 1) ((after pr (line_parts l)).code + (after pr (line_parts l)).pool)) rest next
      → Leaves ls n (labels_in p (pr.code + pr.pool)) (l ∷ rest) (on_line n ls o next)
  line_step ls pr n p l rest next (Some q) is more =
      let none : 0 ≡ n - n = omega arith in
      (refuses_line (asked (name_in t) cap ls pr (line_parts l)) line_questions q line_asked is, omega arith, sym (append-nil ls) ∙ ap (λ k. ls ++ labels_in p (pr.code + pr.pool) (take k (l ∷ rest))) none)
  line_step ls pr n p l rest next None is more =
      let k = pr.code + pr.pool in
      let e = entry_at (p + blanks (code_of l)) k (line_parts l).label in
      let more' = subst (λ x. Leaves x (n + 1) (labels_in (p + length l + 1) ((after pr (line_parts l)).code + (after pr (line_parts l)).pool)) rest next) (entered_at (p + blanks (code_of l)) ls pr (line_parts l).label) more in
      let more'' = subst (λ c. Leaves (ls ++ e) (n + 1) (labels_in (p + length l + 1) c) rest next) (passing t cap ls pr (line_parts l) is).counts more' in
      one_more ls e n (labels_in (p + length l + 1) (k + count_on l)) (labels_in p k) l rest next (λ xs. refl) more''

  leaves : (lines : List (List ℕ)) (ls : List Label) (pr : Progress) (n p : ℕ) → Leaves ls n (labels_in p (pr.code + pr.pool)) lines (run_from (name_in t) cap ls pr n p lines)
  leaves [] ls pr n p = sym (append-nil ls)
  leaves (l ∷ rest) ls pr n p =
      line_step ls pr n p l rest _ (refusal_in (name_in t) cap ls pr (line_parts l)) refl
      (leaves rest (labels_after (p + blanks (code_of l)) ls pr (line_parts l).label) (after pr (line_parts l)) (n + 1) (p + length l + 1))

  -- the labels that lines leave where they pass
  pub passed_labels : (lines : List (List ℕ)) (ls : List Label) (pr : Progress) → run_from (name_in t) cap [] fresh 1 0 lines ≡ passed ls pr → ls ≡ labels_in 0 0 lines
  passed_labels lines ls pr e = subst (Leaves [] 1 (labels_in 0 0) lines) e (leaves lines [] fresh 1 0)

  pub all_labels : (ls : List Label) (pr : Progress) → run_from (name_in t) cap [] fresh 1 0 (lines_of t) ≡ passed ls pr → ls ≡ text_labels t
  all_labels = passed_labels (lines_of t)

  before_line : (q : Question) (n : ℕ) → OfLine q → labels_before t n ≡ labels_refused t q n
  before_line question.Text n of = absurd of
  before_line question.Label n of = refl
  before_line question.LabelRoom n of = refl
  before_line question.Waiting n of = refl
  before_line question.Name n of = refl
  before_line question.Order n of = refl
  before_line question.Count n of = refl
  before_line question.Form n of = refl
  before_line question.Range n of = refl
  before_line question.Words n of = refl
  before_line question.End n of = absurd of
  before_line question.Defined n of = absurd of
  before_line question.Output n of = absurd of

  pub refused_labels : (q : Question) (n : ℕ) (ls : List Label) → run_from (name_in t) cap [] fresh 1 0 (lines_of t) ≡ refused q n ls → ls ≡ labels_refused t q n
  refused_labels q n ls e =
      let h = subst (Leaves [] 1 (labels_in 0 0) (lines_of t)) e (leaves (lines_of t) [] fresh 1 0) in
      h.2 ∙ before_line q n h.0
