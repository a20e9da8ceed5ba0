-- What is refused is refused by the first question with a no.
use Rattle.std.proofs.Common.{◌≡◌, ℕ, zero, suc, ◌+◌, ◌-◌, ◌<◌, ◌≤◌, Bool, true, false, cond, List, [], ◌∷◌, length, get_or, take, Some, None, Err, Option, sym, refl, ap, ◌∙◌, subst, ⊎_elim, arith}
use Rattle.std.specs.List.{slice_get}
use Rattle.std.proofs.lemmas.Bool.{cond-true, cond-false, cases_eq}
use Rattle.lexer.specs.Text.{lines_of, words_of, code_of, blanks}
use Rattle.assembler.specs.Labels.{name_in}
use Rattle.assembler.specs.Assembled.{Outcome, passed, refused, on_line, run_from, fresh, Assembled, good, bad, right_text, room_for, executable_in, lastly, after_lines, assembled, answer_of}
use Rattle.assembler.specs.Emit.{lost_from}
use Rattle.assembler.specs.First.{NoOnLine, SaysNo, AllPass, FirstNo, ExactlyFirstNo}
use Rattle.assembler.specs.Lines.{parts_of}
use Rattle.assembler.specs.Questions.{asked, first_no, line_questions, rank_of, refusal_in, labels_after, after, refusal_at}
use Rattle.assembler.specs.declared.label.Label.{Label}
use Rattle.assembler.specs.Progress.{Progress}
use Rattle.assembler.specs.declared.question.Question.{Question}
use Rattle.assembler.specs.declared.question.Question.TheVariants as question
use Rattle.assembler.specs.declared.question.Refusal.{Refusal}

-- a question is known by its rank
abbrev ordered : List Question
ordered = question.Text ∷ question.Label ∷ question.LabelRoom ∷ question.Waiting ∷ question.Name ∷ question.Order ∷ question.Count ∷ question.Form ∷ question.Range ∷ question.Words ∷ question.End ∷ question.Defined ∷ question.Output ∷ []

ranked : (q : Question) → get_or ordered (rank_of q) question.Text ≡ q
ranked question.Text = refl
ranked question.Label = refl
ranked question.LabelRoom = refl
ranked question.Waiting = refl
ranked question.Name = refl
ranked question.Order = refl
ranked question.Count = refl
ranked question.Form = refl
ranked question.Range = refl
ranked question.Words = refl
ranked question.End = refl
ranked question.Defined = refl
ranked question.Output = refl

pub by_rank : (p q : Question) → rank_of p ≡ rank_of q → p ≡ q
by_rank p q e = sym (ranked p) ∙ ap (λ n. get_or ordered n question.Text) e ∙ ranked q

-- the ranks of these questions are m, m + 1 and so on
abbrev Onward : ℕ → List Question → Type 0
Onward m [] = Unit {0}
Onward m (q ∷ qs) = (rank_of q ≡ m) × Onward (m + 1) qs

module _ (f : Question → Bool) where
  -- the questions with a rank below m get a yes
  abbrev YesBelow : ℕ → Type 0
  YesBelow m = (p : Question) → rank_of p < m → f p ≡ true

  one_more : (m : ℕ) (q : Question) → rank_of q ≡ m → f q ≡ true → YesBelow m → YesBelow (m + 1)
  one_more m q e right below p lt = ⊎_elim (λ (same : rank_of p ≡ m). ap f (by_rank p q (same ∙ sym e)) ∙ right) (λ (apart : rank_of p ≡ m → ⊥). below p (omega arith)) (cases_eq (rank_of p) m)

  -- the question q is the first with a no, and its rank is from m up to below n
  abbrev FirstIn : ℕ → ℕ → Question → Type 0
  FirstIn m n q = (f q ≡ false) × YesBelow (rank_of q) × (m ≤ rank_of q) × (rank_of q < n)

  first_step : (x : Question) (m n : ℕ) (q : Question) (rest : Option Question) (b : Bool) → f x ≡ b → rank_of x ≡ m → m < n → YesBelow m → cond b rest (Some x) ≡ Some q → (YesBelow (m + 1) → rest ≡ Some q → FirstIn (m + 1) n q) → FirstIn m n q
  first_step x m n q rest true right num small below e more = let late = more (one_more m x num right below) e in (late.0, late.1, omega (arith, late.2), late.3)
  first_step x m n q rest false wrong num small below e more =
      let is : x ≡ q = cc in
      let at : rank_of q ≡ m = sym (ap rank_of is) ∙ num in
      (sym (ap f is) ∙ wrong, subst YesBelow (sym at) below, omega arith, omega arith)

  first_says : (qs : List Question) (m n : ℕ) (q : Question) → Onward m qs → m + length qs ≡ n → YesBelow m → first_no f qs ≡ Some q → FirstIn m n q
  first_says [] m n q on long below e = let z : ◌≡◌ {A = ℕ} 0 1 = cc in absurd (omega arith)
  first_says (x ∷ qs) m n q on long below e = first_step x m n q (first_no f qs) (f x) refl on.0 (omega arith) below e (λ below' e'. first_says qs (m + 1) n q on.1 (omega arith) below' e')

  says_first : (qs : List Question) (m : ℕ) (q : Question) → Onward m qs → FirstIn m (m + length qs) q → first_no f qs ≡ Some q
  says_first [] m q on first = absurd (omega (arith, first.2, first.3))
  says_first (x ∷ qs) m q on first = ⊎_elim
      (λ (same : rank_of q ≡ m). let is : x ≡ q = by_rank x q (on.0 ∙ sym same) in cond-false (f x) (first_no f qs) (Some x) (ap f is ∙ first.0) ∙ ap Some is)
      (λ (apart : rank_of q ≡ m → ⊥). cond-true (f x) (first_no f qs) (Some x) (first.1 x (omega (arith, on.0, first.2, apart))) ∙ says_first qs (m + 1) q on.1 (first.0, first.1, omega (arith, first.2, apart), omega (arith, first.3)))
      (cases_eq (rank_of q) m)

  only_text : f question.Text ≡ true → YesBelow 1
  only_text right question.Text lt = right
  only_text right question.Label lt = absurd (omega arith)
  only_text right question.LabelRoom lt = absurd (omega arith)
  only_text right question.Waiting lt = absurd (omega arith)
  only_text right question.Name lt = absurd (omega arith)
  only_text right question.Order lt = absurd (omega arith)
  only_text right question.Count lt = absurd (omega arith)
  only_text right question.Form lt = absurd (omega arith)
  only_text right question.Range lt = absurd (omega arith)
  only_text right question.Words lt = absurd (omega arith)
  only_text right question.End lt = absurd (omega arith)
  only_text right question.Defined lt = absurd (omega arith)
  only_text right question.Output lt = absurd (omega arith)

in_order : Onward 1 line_questions
in_order = (refl, (refl, (refl, (refl, (refl, (refl, (refl, (refl, (refl, tt)))))))))

-- the lines of a text, with so many label entries
module _ (t : List ℕ) (cap : ℕ) where
  -- what line l makes of the labels and the progress, where it stands at p, and how the lines after it come out
  abbrev next_run : List Label → Progress → ℕ → ℕ → List ℕ → List (List ℕ) → Outcome
  next_run ls pr n p l rest = run_from (name_in t) cap (labels_after (p + blanks (code_of l)) ls pr (parts_of (words_of l)).label) (after pr (parts_of (words_of l))) (n + 1) (p + length l + 1) rest

  -- the line at place k of these refuses q; those before it pass
  abbrev RefusedAt : List Label → Progress → ℕ → ℕ → List (List ℕ) → ℕ → Question → Type 0
  RefusedAt ls pr n p lines k q = (l : List ℕ) × (ls' : List Label) × (pr' : Progress) × (slice_get lines k ≡ Some l) × (run_from (name_in t) cap ls pr n p (take k lines) ≡ passed ls' pr') × (refusal_in (name_in t) cap ls' pr' (parts_of (words_of l)) ≡ Some q)

  -- refused lines are refused at such a line
  found_step : (ls : List Label) (pr : Progress) (n p : ℕ) (l : List ℕ) (rest : List (List ℕ)) (q : Question) (m : ℕ) (ls' : List Label) (o : Option Question) → refusal_in (name_in t) cap ls pr (parts_of (words_of l)) ≡ o
      → on_line n ls o (next_run ls pr n p l rest) ≡ refused q m ls'
      → (next_run ls pr n p l rest ≡ refused q m ls' → (k : ℕ) × (m ≡ n + 1 + k) × RefusedAt (labels_after (p + blanks (code_of l)) ls pr (parts_of (words_of l)).label) (after pr (parts_of (words_of l))) (n + 1) (p + length l + 1) rest k q)
      → (k : ℕ) × (m ≡ n + k) × RefusedAt ls pr n p (l ∷ rest) k q
  found_step ls pr n p l rest q m ls' (Some x) is e more =
      let same : x ≡ q = cc in
      let at : n ≡ m = cc in
      (0, omega arith, (l, ls, pr, refl, refl, is ∙ ap Some same))
  found_step ls pr n p l rest q m ls' None is e more =
      let late = more e in
      let r = late.2 in
      (suc late.0, omega (arith, late.1), (r.0, r.1, r.2, r.3, ap (λ o. on_line n ls o (next_run ls pr n p l (take late.0 rest))) is ∙ r.4, r.5))

  found : (lines : List (List ℕ)) (ls : List Label) (pr : Progress) (n p : ℕ) (q : Question) (m : ℕ) (ls' : List Label) → run_from (name_in t) cap ls pr n p lines ≡ refused q m ls' → (k : ℕ) × (m ≡ n + k) × RefusedAt ls pr n p lines k q
  found [] ls pr n p q m ls' e = let z : ◌≡◌ {A = ℕ} 0 1 = cc in absurd (omega arith)
  found (l ∷ rest) ls pr n p q m ls' e = found_step ls pr n p l rest q m ls' (refusal_in (name_in t) cap ls pr (parts_of (words_of l))) refl e (λ e'. found rest _ _ (n + 1) (p + length l + 1) q m ls' e')

  -- and lines with such a line are refused at it
  met_here : (ls : List Label) (pr : Progress) (n p : ℕ) (x : List ℕ) (rest : List (List ℕ)) (q : Question) (l : List ℕ) (ls' : List Label) (pr' : Progress) → x ≡ l → ls ≡ ls' → pr ≡ pr' → refusal_in (name_in t) cap ls' pr' (parts_of (words_of l)) ≡ Some q
      → on_line n ls (refusal_in (name_in t) cap ls pr (parts_of (words_of x))) (next_run ls pr n p x rest) ≡ refused q n ls
  met_here ls pr n p x rest q l ls' pr' x_is ls_is pr_is e =
      ap (λ o. on_line n ls o (next_run ls pr n p x rest)) (ap (λ y. refusal_in (name_in t) cap ls pr (parts_of (words_of y))) x_is ∙ ap (λ y. refusal_in (name_in t) cap y pr (parts_of (words_of l))) ls_is ∙ ap (λ y. refusal_in (name_in t) cap ls' y (parts_of (words_of l))) pr_is ∙ e)

  met_step : (ls : List Label) (n : ℕ) (q : Question) (m : ℕ) (o : Option Question) (front all : Outcome) (ls' : List Label) (pr' : Progress) → on_line n ls o front ≡ passed ls' pr'
      → (front ≡ passed ls' pr' → (ls'' : List Label) × (all ≡ refused q m ls'')) → (ls'' : List Label) × (on_line n ls o all ≡ refused q m ls'')
  met_step ls n q m (Some x) front all ls' pr' e more = let z : ◌≡◌ {A = ℕ} 0 1 = cc in absurd (omega arith)
  met_step ls n q m None front all ls' pr' e more = more e

  met : (k : ℕ) (lines : List (List ℕ)) (ls : List Label) (pr : Progress) (n p : ℕ) (q : Question) (m : ℕ) → m ≡ n + k → RefusedAt ls pr n p lines k q → (ls'' : List Label) × (run_from (name_in t) cap ls pr n p lines ≡ refused q m ls'')
  met k [] ls pr n p q m at r = let none : None ≡ Some r.0 = r.3 in let z : ◌≡◌ {A = ℕ} 0 1 = cc in absurd (omega arith)
  met zero (x ∷ rest) ls pr n p q m at r =
      let some : Some x ≡ Some r.0 = r.3 in
      let run : passed ls pr ≡ passed r.1 r.2 = r.4 in
      let here : n ≡ m = omega arith in
      (ls, met_here ls pr n p x rest q r.0 r.1 r.2 (cc) (cc) (cc) r.5 ∙ ap (λ i. refused q i ls) here)
  met (suc k) (x ∷ rest) ls pr n p q m at r =
      met_step ls n q m (refusal_in (name_in t) cap ls pr (parts_of (words_of x))) (next_run ls pr n p x (take k rest)) (next_run ls pr n p x rest) r.1 r.2 r.4
      (λ e. met k rest _ _ (n + 1) (p + length x + 1) q m (omega arith) (r.0, r.1, r.2, r.3, e, r.5))

  -- the first question of a line with a no, in the words of the law
  says_no : (ls : List Label) (pr : Progress) (l : List ℕ) (q : Question) → refusal_in (name_in t) cap ls pr (parts_of (words_of l)) ≡ Some q → SaysNo t cap ls pr l q × (1 ≤ rank_of q) × (rank_of q < 10)
  says_no ls pr l q e =
      let f = asked (name_in t) cap ls pr (parts_of (words_of l)) in
      let first = first_says f line_questions 1 10 q in_order refl (only_text f refl) e in
      ((first.0, first.1), first.2, first.3)

  no_said : (ls : List Label) (pr : Progress) (l : List ℕ) (q : Question) → 1 ≤ rank_of q → rank_of q < 10 → SaysNo t cap ls pr l q → refusal_in (name_in t) cap ls pr (parts_of (words_of l)) ≡ Some q
  no_said ls pr l q low high no' = says_first (asked (name_in t) cap ls pr (parts_of (words_of l))) line_questions 1 q in_order (no'.0, no'.1, low, high)

  pub no_on_line : (q : Question) (n : ℕ) (ls : List Label) → run_from (name_in t) cap [] fresh 1 0 (lines_of t) ≡ refused q n ls → NoOnLine t cap q n × (1 ≤ rank_of q) × (rank_of q < 10)
  no_on_line q n ls e =
      let x = found (lines_of t) [] fresh 1 0 q n ls e in
      let r = x.2 in
      let k : x.0 ≡ n - 1 = omega (arith, x.1) in
      let said = says_no r.1 r.2 r.0 q r.5 in
      ((r.0, r.1, r.2, omega (arith, x.1), sym (ap (slice_get (lines_of t)) k) ∙ r.3, sym (ap (λ i. run_from (name_in t) cap [] fresh 1 0 (take i (lines_of t))) k) ∙ r.4, said.0), said.1, said.2)

  on_line_no : (q : Question) (n : ℕ) → 1 ≤ rank_of q → rank_of q < 10 → NoOnLine t cap q n → (ls : List Label) × (run_from (name_in t) cap [] fresh 1 0 (lines_of t) ≡ refused q n ls)
  on_line_no q n low high x = met (n - 1) (lines_of t) [] fresh 1 0 q n (omega (arith, x.3)) (x.0, x.1, x.2, x.4, x.5, no_said x.1 x.2 x.0 q low high x.6)

-- and so much output
module _ (t : List ℕ) (cap room : ℕ) where
  lined : (q : Question) (n : ℕ) → right_text t ≡ true → NoOnLine t cap q n × (1 ≤ rank_of q) × (rank_of q < 10) → FirstNo t cap room q n
  lined question.Text n right x = absurd (omega (arith, x.1))
  lined question.Label n right x = (right, x.0)
  lined question.LabelRoom n right x = (right, x.0)
  lined question.Waiting n right x = (right, x.0)
  lined question.Name n right x = (right, x.0)
  lined question.Order n right x = (right, x.0)
  lined question.Count n right x = (right, x.0)
  lined question.Form n right x = (right, x.0)
  lined question.Range n right x = (right, x.0)
  lined question.Words n right x = (right, x.0)
  lined question.End n right x = absurd (omega (arith, x.2))
  lined question.Defined n right x = absurd (omega (arith, x.2))
  lined question.Output n right x = absurd (omega (arith, x.2))

  -- what is refused
  module _ (q : Question) (n : ℕ) (ls : List Label) where
    by_output : (ls' : List Label) (pr : Progress) → AllPass t cap ls' pr → pr.ended ≡ true → lost_from (name_in t) ls' 1 (lines_of t) ≡ None → (b : Bool) → room_for pr room ≡ b → cond b (good (executable_in t ls' pr) ls') (bad question.Output 0 ls') ≡ bad q n ls → FirstNo t cap room q n
    by_output ls' pr all ended lost true is e = let z : ◌≡◌ {A = ℕ} 0 1 = cc in absurd (omega arith)
    by_output ls' pr all ended lost false is e =
        let same : question.Output ≡ q = cc in
        let at : n ≡ 0 = cc in
        subst (λ x. FirstNo t cap room x n) same (ls', pr, all, ended, lost, is, at)

    by_lost : (ls' : List Label) (pr : Progress) → AllPass t cap ls' pr → pr.ended ≡ true → (o : Option ℕ) → lost_from (name_in t) ls' 1 (lines_of t) ≡ o → lastly t room ls' pr o ≡ bad q n ls → FirstNo t cap room q n
    by_lost ls' pr all ended (Some m) is e =
        let same : question.Defined ≡ q = cc in
        let at : m ≡ n = cc in
        subst (λ x. FirstNo t cap room x n) same (ls', pr, all, ended, is ∙ ap Some at)
    by_lost ls' pr all ended None is e = by_output ls' pr all ended is (room_for pr room) refl e

    by_end : (ls' : List Label) (pr : Progress) → AllPass t cap ls' pr → (b : Bool) → pr.ended ≡ b → cond b (lastly t room ls' pr (lost_from (name_in t) ls' 1 (lines_of t))) (bad question.End 0 ls') ≡ bad q n ls → FirstNo t cap room q n
    by_end ls' pr all true is e = by_lost ls' pr all is (lost_from (name_in t) ls' 1 (lines_of t)) refl e
    by_end ls' pr all false is e =
        let same : question.End ≡ q = cc in
        let at : n ≡ 0 = cc in
        subst (λ x. FirstNo t cap room x n) same (ls', pr, all, is, at)

    by_lines : right_text t ≡ true → (o : Outcome) → run_from (name_in t) cap [] fresh 1 0 (lines_of t) ≡ o → after_lines t room o ≡ bad q n ls → FirstNo t cap room q n
    by_lines right (passed ls' pr) is e = by_end ls' pr (right, is) pr.ended refl e
    by_lines right (refused p m ls') is e =
        let same : p ≡ q = cc in
        let at : m ≡ n = cc in
        lined q n right (no_on_line t cap q n ls' (is ∙ ap (λ x. refused x m ls') same ∙ ap (λ i. refused q i ls') at))

    by_text : (b : Bool) → right_text t ≡ b → cond b (after_lines t room (run_from (name_in t) cap [] fresh 1 0 (lines_of t))) (bad question.Text 0 []) ≡ bad q n ls → FirstNo t cap room q n
    by_text true is e = by_lines is (run_from (name_in t) cap [] fresh 1 0 (lines_of t)) refl e
    by_text false is e =
        let same : question.Text ≡ q = cc in
        let at : n ≡ 0 = cc in
        subst (λ x. FirstNo t cap room x n) same (is, at)

  is_bad : (a : Assembled) (q : Question) (n : ℕ) → answer_of a ≡ Err (refusal_at q n) → (ls : List Label) × (a ≡ bad q n ls)
  is_bad (good bytes ls) q n e = let z : ◌≡◌ {A = ℕ} 0 1 = cc in absurd (omega arith)
  is_bad (bad p m ls) q n e =
      let same : ◌≡◌ {A = Refusal} (refusal_at p m) (refusal_at q n) = cc in
      (ls, ap (λ x. bad x.question x.origin.line ls) same)

  -- what gets a no is refused
  passing : (ls : List Label) (pr : Progress) → AllPass t cap ls pr → assembled t cap room ≡ cond pr.ended (lastly t room ls pr (lost_from (name_in t) ls 1 (lines_of t))) (bad question.End 0 ls)
  passing ls pr all = cond-true _ _ _ all.0 ∙ ap (after_lines t room) all.1

  line_refused : (q : Question) (n : ℕ) → 1 ≤ rank_of q → rank_of q < 10 → (right_text t ≡ true) × NoOnLine t cap q n → (ls : List Label) × (assembled t cap room ≡ bad q n ls)
  line_refused q n low high x = let r = on_line_no t cap q n low high x.1 in (r.0, cond-true _ _ _ x.0 ∙ ap (after_lines t room) r.1)

  refuses : (q : Question) (n : ℕ) → FirstNo t cap room q n → (ls : List Label) × (assembled t cap room ≡ bad q n ls)
  refuses question.Text n x = ([], cond-false _ _ _ x.0 ∙ ap (λ i. bad question.Text i []) (sym x.1))
  refuses question.Label n x = line_refused question.Label n (omega arith) (omega arith) x
  refuses question.LabelRoom n x = line_refused question.LabelRoom n (omega arith) (omega arith) x
  refuses question.Waiting n x = line_refused question.Waiting n (omega arith) (omega arith) x
  refuses question.Name n x = line_refused question.Name n (omega arith) (omega arith) x
  refuses question.Order n x = line_refused question.Order n (omega arith) (omega arith) x
  refuses question.Count n x = line_refused question.Count n (omega arith) (omega arith) x
  refuses question.Form n x = line_refused question.Form n (omega arith) (omega arith) x
  refuses question.Range n x = line_refused question.Range n (omega arith) (omega arith) x
  refuses question.Words n x = line_refused question.Words n (omega arith) (omega arith) x
  refuses question.End n x = (x.0, passing x.0 x.1 x.2 ∙ cond-false _ _ _ x.3 ∙ ap (λ i. bad question.End i x.0) (sym x.4))
  refuses question.Defined n x = (x.0, passing x.0 x.1 x.2 ∙ cond-true _ _ _ x.3 ∙ ap (lastly t room x.0 x.1) x.4)
  refuses question.Output n x = (x.0, passing x.0 x.1 x.2 ∙ cond-true _ _ _ x.3 ∙ ap (lastly t room x.0 x.1) x.4 ∙ cond-false _ _ _ x.5 ∙ ap (λ i. bad question.Output i x.0) (sym x.6))

  pub exactly : ExactlyFirstNo t cap room (answer_of (assembled t cap room))
  exactly q n = (λ e. let x = is_bad (assembled t cap room) q n e in by_text q n x.0 (right_text t) refl x.1, λ x. ap answer_of (refuses q n x).1)
