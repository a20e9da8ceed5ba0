-- What is refused is refused by the first question of all with a no.
use Rattle.std.proofs.Common.{◌≡◌, ℕ, zero, suc, ◌+◌, ◌-◌, ◌<◌, ◌≤◌, true, List, [], ◌∷◌, length, get_or, take, Some, None, Ok, Err, Result, sym, refl, ap, ◌∙◌, subst, arith}
use Rattle.std.specs.List.{slice_get}
use Rattle.std.proofs.lemmas.Bool.{true≢false}
use Rattle.std.proofs.lemmas.List.{take-take, get_or-take, length-take, take_all}
use Rattle.std.proofs.lemmas.Option.{slice_get_within, get_or_from_slice_get}
use Rattle.lexer.specs.Text.{lines_of, code_of, blanks}
use Rattle.assembler.specs.Labels.{name_in}
use Rattle.assembler.specs.Assembled.{Outcome, passed, refused, on_line, run_from, fresh, right_text, room_for, assembled, answer_of}
use Rattle.assembler.specs.Emit.{lost_from}
use Rattle.assembler.specs.First.{NoOnLine, AllPass, FirstNo}
use Rattle.assembler.specs.Lines.{Parts}
use Rattle.assembler.specs.Progress.{Progress}
use Rattle.assembler.specs.Questions.{asked, rank_of, refusal_in, labels_after, after}
use Rattle.assembler.specs.declared.label.Label.{Label}
use Rattle.assembler.specs.declared.question.Question.{Question}
use Rattle.assembler.specs.declared.question.Question.TheVariants as question
use Rattle.assembler.specs.declared.question.Refusal.{Refusal}
use Rattle.assembler.proofs.Firsthand.{by_rank, no_on_line, exactly}
use Rattle.builder.specs.Built.{text_labels, labels_before, summary_of}
use Rattle.builder.specs.Source.{line_parts}
use Rattle.builder.specs.Standing.{line_at, standing_on, standing_before, line_asked, AllYes, NoAt, FirstOfAll, ExactlyFirstOfAll}
use Rattle.builder.proofs.Labels.{passed_labels}
use Rattle.builder.proofs.Passing.{asks}
use Rattle.builder.proofs.Ran.{goes_on}
use Rattle.builder.proofs.Stood.{stands_on}

-- a line that is not refused answers yes to every question
says_yes : (t : List ℕ) (cap : ℕ) (ls : List Label) (pr : Progress) (l : Parts) → refusal_in (name_in t) cap ls pr l ≡ None → (p : Question) → asked (name_in t) cap ls pr l p ≡ true
says_yes t cap ls pr l ok question.Text = refl
says_yes t cap ls pr l ok question.Label = asks (asked (name_in t) cap ls pr l) [] question.Label (question.LabelRoom ∷ question.Waiting ∷ question.Name ∷ question.Order ∷ question.Count ∷ question.Form ∷ question.Range ∷ question.Words ∷ []) ok
says_yes t cap ls pr l ok question.LabelRoom = asks (asked (name_in t) cap ls pr l) (question.Label ∷ []) question.LabelRoom (question.Waiting ∷ question.Name ∷ question.Order ∷ question.Count ∷ question.Form ∷ question.Range ∷ question.Words ∷ []) ok
says_yes t cap ls pr l ok question.Waiting = asks (asked (name_in t) cap ls pr l) (question.Label ∷ question.LabelRoom ∷ []) question.Waiting (question.Name ∷ question.Order ∷ question.Count ∷ question.Form ∷ question.Range ∷ question.Words ∷ []) ok
says_yes t cap ls pr l ok question.Name = asks (asked (name_in t) cap ls pr l) (question.Label ∷ question.LabelRoom ∷ question.Waiting ∷ []) question.Name (question.Order ∷ question.Count ∷ question.Form ∷ question.Range ∷ question.Words ∷ []) ok
says_yes t cap ls pr l ok question.Order = asks (asked (name_in t) cap ls pr l) (question.Label ∷ question.LabelRoom ∷ question.Waiting ∷ question.Name ∷ []) question.Order (question.Count ∷ question.Form ∷ question.Range ∷ question.Words ∷ []) ok
says_yes t cap ls pr l ok question.Count = asks (asked (name_in t) cap ls pr l) (question.Label ∷ question.LabelRoom ∷ question.Waiting ∷ question.Name ∷ question.Order ∷ []) question.Count (question.Form ∷ question.Range ∷ question.Words ∷ []) ok
says_yes t cap ls pr l ok question.Form = asks (asked (name_in t) cap ls pr l) (question.Label ∷ question.LabelRoom ∷ question.Waiting ∷ question.Name ∷ question.Order ∷ question.Count ∷ []) question.Form (question.Range ∷ question.Words ∷ []) ok
says_yes t cap ls pr l ok question.Range = asks (asked (name_in t) cap ls pr l) (question.Label ∷ question.LabelRoom ∷ question.Waiting ∷ question.Name ∷ question.Order ∷ question.Count ∷ question.Form ∷ []) question.Range (question.Words ∷ []) ok
says_yes t cap ls pr l ok question.Words = asks (asked (name_in t) cap ls pr l) (question.Label ∷ question.LabelRoom ∷ question.Waiting ∷ question.Name ∷ question.Order ∷ question.Count ∷ question.Form ∷ question.Range ∷ []) question.Words [] ok
says_yes t cap ls pr l ok question.End = refl
says_yes t cap ls pr l ok question.Defined = refl
says_yes t cap ls pr l ok question.Output = refl

-- the lines of a text, with so many label entries
module _ (t : List ℕ) (cap : ℕ) where
  -- how the lines after line l come out, where it stands at p
  abbrev next_run : List Label → Progress → ℕ → ℕ → List ℕ → List (List ℕ) → Outcome
  next_run ls pr n p l rest = run_from (name_in t) cap (labels_after (p + blanks (code_of l)) ls pr (line_parts l).label) (after pr (line_parts l)) (n + 1) (p + length l + 1) rest

  -- the lines before place i pass, and by what they leave the line at i is not refused
  abbrev PassesAt : List Label → Progress → ℕ → ℕ → List (List ℕ) → ℕ → Type 0
  PassesAt ls pr n p lines i = (ls' : List Label) × (pr' : Progress) × (run_from (name_in t) cap ls pr n p (take i lines) ≡ passed ls' pr') × (refusal_in (name_in t) cap ls' pr' (line_parts (get_or lines i [])) ≡ None)

  -- where lines pass, this holds of each of them
  passes_at : (i : ℕ) (lines : List (List ℕ)) (ls : List Label) (pr : Progress) (n p : ℕ) (ls' : List Label) (pr' : Progress) → i < length lines → run_from (name_in t) cap ls pr n p lines ≡ passed ls' pr' → PassesAt ls pr n p lines i
  passes_at i [] ls pr n p ls' pr' lt e = absurd (omega arith)
  passes_at zero (l ∷ rest) ls pr n p ls' pr' lt e = (ls, pr, refl, (goes_on t ls n ls ls' (refusal_in (name_in t) cap ls pr (line_parts l)) (next_run ls pr n p l rest) pr' e).0)
  passes_at (suc i) (l ∷ rest) ls pr n p ls' pr' lt e =
      let both = goes_on t ls n ls ls' (refusal_in (name_in t) cap ls pr (line_parts l)) (next_run ls pr n p l rest) pr' e in
      let late = passes_at i rest _ (after pr (line_parts l)) (n + 1) (p + length l + 1) ls' pr' (omega arith) both.1 in
      (late.0, late.1, ap (λ o. on_line n ls o (next_run ls pr n p l (take i rest))) both.0 ∙ late.2, late.3)

  -- what a line answers by what the lines before it leave, it answers by what stands on them
  same_answer : (k : ℕ) (ls : List Label) (pr : Progress) → run_from (name_in t) cap [] fresh 1 0 (take (k - 1) (lines_of t)) ≡ passed ls pr → (l : Parts) (p : Question) → asked (name_in t) cap ls pr l p ≡ asked (name_in t) cap (labels_before t k) (standing_before t k) l p
  same_answer k ls pr e l p = ap (λ x. asked (name_in t) cap x pr l p) (passed_labels t cap (take (k - 1) (lines_of t)) ls pr e) ∙ ap (λ x. asked (name_in t) cap (labels_before t k) x l p) (stands_on t cap (take (k - 1) (lines_of t)) ls pr e)

  -- a line that is not refused by what the lines before it leave answers yes to every question
  yes_at : (k : ℕ) (p : Question) (ls : List Label) (pr : Progress) → run_from (name_in t) cap [] fresh 1 0 (take (k - 1) (lines_of t)) ≡ passed ls pr → refusal_in (name_in t) cap ls pr (line_parts (line_at t k)) ≡ None → line_asked t cap k p ≡ true
  yes_at k p ls pr e ok = sym (same_answer k ls pr e (line_parts (line_at t k)) p) ∙ says_yes t cap ls pr (line_parts (line_at t k)) ok p

  -- so does a line among the first m that is not refused there
  yes_within : (m k : ℕ) (p : Question) → k - 1 < m → PassesAt [] fresh 1 0 (take m (lines_of t)) (k - 1) → line_asked t cap k p ≡ true
  yes_within m k p lt x =
      yes_at k p x.0 x.1
      (subst (λ y. run_from (name_in t) cap [] fresh 1 0 y ≡ passed x.0 x.1) (take-take (k - 1) m (lines_of t) (omega arith)) x.2)
      (subst (λ y. refusal_in (name_in t) cap x.0 x.1 (line_parts y) ≡ None) (get_or-take m (lines_of t) (k - 1) [] lt) x.3)

  -- where the first m lines pass, each of them answers yes to every question
  answered : (m : ℕ) (ls : List Label) (pr : Progress) → run_from (name_in t) cap [] fresh 1 0 (take m (lines_of t)) ≡ passed ls pr → (k : ℕ) (p : Question) → 1 ≤ k → k ≤ m → k ≤ length (lines_of t) → line_asked t cap k p ≡ true
  answered m ls pr e k p low high within =
      yes_within m k p (omega arith) (passes_at (k - 1) (take m (lines_of t)) [] fresh 1 0 ls pr (simp length-take (omega arith)) e)

  -- line n answers by what stands on the lines before it as by what they leave
  line_same : (n : ℕ) (l : List ℕ) (ls : List Label) (pr : Progress) → slice_get (lines_of t) (n - 1) ≡ Some l → run_from (name_in t) cap [] fresh 1 0 (take (n - 1) (lines_of t)) ≡ passed ls pr → (p : Question) → line_asked t cap n p ≡ asked (name_in t) cap ls pr (line_parts l) p
  line_same n l ls pr there e p = ap (λ y. asked (name_in t) cap (labels_before t n) (standing_before t n) (line_parts y) p) (get_or_from_slice_get (lines_of t) (n - 1) l [] there) ∙ sym (same_answer n ls pr e (line_parts l) p)

  -- the first question with a no by what the lines leave is the first by what stands on them
  no_at : (q : Question) (n : ℕ) → right_text t ≡ true → NoOnLine t cap q n → NoAt t cap q n
  no_at q n right x =
      let within = slice_get_within (lines_of t) (n - 1) x.0 x.4 in
      (right, x.3, omega (arith, x.3), line_same n x.0 x.1 x.2 x.4 x.5 q ∙ x.6.0, λ p lt. line_same n x.0 x.1 x.2 x.4 x.5 p ∙ x.6.1 p lt, λ k p low lt. answered (n - 1) x.1 x.2 x.5 k p low (omega arith) (omega arith))

  -- where all lines pass, each of them answers yes to every question
  all_yes : (ls : List Label) (pr : Progress) → AllPass t cap ls pr → AllYes t cap
  all_yes ls pr all = (all.0, λ k p low high. answered (length (lines_of t)) ls pr (ap (run_from (name_in t) cap [] fresh 1 0) (take_all (length (lines_of t)) (lines_of t) (omega arith)) ∙ all.1) k p low high high)

  -- of two first questions with a no neither is on an earlier line, and on one line neither is asked before the other
  not_earlier : (q r : Question) (n m : ℕ) → NoAt t cap q n → NoAt t cap r m → n < m → ⊥
  not_earlier q r n m x y lt = true≢false (sym (y.5 n q x.1 lt) ∙ x.3)

  not_before : (q r : Question) (n m : ℕ) → NoAt t cap q n → NoAt t cap r m → n ≡ m → rank_of q < rank_of r → ⊥
  not_before q r n m x y same lt = true≢false (sym (y.4 q lt) ∙ sym (ap (λ k. line_asked t cap k q) same) ∙ x.3)

  -- there is one first question with a no, on one line
  one_alone : (q r : Question) (n m : ℕ) → NoAt t cap q n → NoAt t cap r m → (q ≡ r) × (n ≡ m)
  one_alone q r n m x y =
      let no_less : n < m → ⊥ = not_earlier q r n m x y in
      let no_more : m < n → ⊥ = not_earlier r q m n y x in
      let at : n ≡ m = omega arith in
      let no_below : rank_of q < rank_of r → ⊥ = not_before q r n m x y at in
      let no_above : rank_of r < rank_of q → ⊥ = not_before r q m n y x (sym at) in
      (by_rank q r (omega arith), at)

  -- where every line answers yes, the lines pass
  passes_by : AllYes t cap → (o : Outcome) → run_from (name_in t) cap [] fresh 1 0 (lines_of t) ≡ o → (ls : List Label) × (pr : Progress) × AllPass t cap ls pr
  passes_by yes' (passed ls pr) e = (ls, pr, (yes'.0, e))
  passes_by yes' (refused q m ls) e =
      let x = no_at q m yes'.0 (no_on_line t cap q m ls e).0 in
      absurd (true≢false (sym (yes'.1 m q x.1 x.2) ∙ x.3))

  passes : AllYes t cap → (ls : List Label) × (pr : Progress) × AllPass t cap ls pr
  passes yes' = passes_by yes' (run_from (name_in t) cap [] fresh 1 0 (lines_of t)) refl

  -- where a question is the first of all with a no, the lines are refused by it
  line_by : (q : Question) (n : ℕ) → NoAt t cap q n → (o : Outcome) → run_from (name_in t) cap [] fresh 1 0 (lines_of t) ≡ o → NoOnLine t cap q n
  line_by q n x (passed ls pr) e = absurd (true≢false (sym ((all_yes ls pr (x.0, e)).1 n q x.1 x.2) ∙ x.3))
  line_by q n x (refused r m ls) e =
      let y = (no_on_line t cap r m ls e).0 in
      let same = one_alone r q m n (no_at r m x.0 y) x in
      subst (λ i. NoOnLine t cap q i) same.1 (subst (λ p. NoOnLine t cap p m) same.0 y)

  line_refused : (q : Question) (n : ℕ) → NoAt t cap q n → (right_text t ≡ true) × NoOnLine t cap q n
  line_refused q n x = (x.0, line_by q n x (run_from (name_in t) cap [] fresh 1 0 (lines_of t)) refl)

  -- what all lines leave
  labels_are : (ls : List Label) (pr : Progress) → AllPass t cap ls pr → ls ≡ text_labels t
  labels_are ls pr all = passed_labels t cap (lines_of t) ls pr all.1

  stands : (ls : List Label) (pr : Progress) → AllPass t cap ls pr → pr ≡ standing_on (lines_of t)
  stands ls pr all = stands_on t cap (lines_of t) ls pr all.1

-- and so much output
module _ (t : List ℕ) (cap room : ℕ) where
  -- the first question with a no by the passes is the first of all over the lines
  first_of_all : (q : Question) (n : ℕ) → FirstNo t cap room q n → FirstOfAll t cap room q n
  first_of_all question.Text n x = x
  first_of_all question.Label n x = no_at t cap question.Label n x.0 x.1
  first_of_all question.LabelRoom n x = no_at t cap question.LabelRoom n x.0 x.1
  first_of_all question.Waiting n x = no_at t cap question.Waiting n x.0 x.1
  first_of_all question.Name n x = no_at t cap question.Name n x.0 x.1
  first_of_all question.Order n x = no_at t cap question.Order n x.0 x.1
  first_of_all question.Count n x = no_at t cap question.Count n x.0 x.1
  first_of_all question.Form n x = no_at t cap question.Form n x.0 x.1
  first_of_all question.Range n x = no_at t cap question.Range n x.0 x.1
  first_of_all question.Words n x = no_at t cap question.Words n x.0 x.1
  first_of_all question.End n x = (all_yes t cap x.0 x.1 x.2, sym (ap (λ pr. pr.ended) (stands t cap x.0 x.1 x.2)) ∙ x.3, x.4)
  first_of_all question.Defined n x = (all_yes t cap x.0 x.1 x.2, sym (ap (λ pr. pr.ended) (stands t cap x.0 x.1 x.2)) ∙ x.3, sym (ap (λ ls. lost_from (name_in t) ls 1 (lines_of t)) (labels_are t cap x.0 x.1 x.2)) ∙ x.4)
  first_of_all question.Output n x = (all_yes t cap x.0 x.1 x.2, sym (ap (λ pr. pr.ended) (stands t cap x.0 x.1 x.2)) ∙ x.3, sym (ap (λ ls. lost_from (name_in t) ls 1 (lines_of t)) (labels_are t cap x.0 x.1 x.2)) ∙ x.4, sym (ap (λ pr. room_for pr room) (stands t cap x.0 x.1 x.2)) ∙ x.5, x.6)

  -- and the other way round
  first_no : (q : Question) (n : ℕ) → FirstOfAll t cap room q n → FirstNo t cap room q n
  first_no question.Text n x = x
  first_no question.Label n x = line_refused t cap question.Label n x
  first_no question.LabelRoom n x = line_refused t cap question.LabelRoom n x
  first_no question.Waiting n x = line_refused t cap question.Waiting n x
  first_no question.Name n x = line_refused t cap question.Name n x
  first_no question.Order n x = line_refused t cap question.Order n x
  first_no question.Count n x = line_refused t cap question.Count n x
  first_no question.Form n x = line_refused t cap question.Form n x
  first_no question.Range n x = line_refused t cap question.Range n x
  first_no question.Words n x = line_refused t cap question.Words n x
  first_no question.End n x =
      let y = passes t cap x.0 in
      (y.0, y.1, y.2, ap (λ pr. pr.ended) (stands t cap y.0 y.1 y.2) ∙ x.1, x.2)
  first_no question.Defined n x =
      let y = passes t cap x.0 in
      (y.0, y.1, y.2, ap (λ pr. pr.ended) (stands t cap y.0 y.1 y.2) ∙ x.1, ap (λ ls. lost_from (name_in t) ls 1 (lines_of t)) (labels_are t cap y.0 y.1 y.2) ∙ x.2)
  first_no question.Output n x =
      let y = passes t cap x.0 in
      (y.0, y.1, y.2, ap (λ pr. pr.ended) (stands t cap y.0 y.1 y.2) ∙ x.1, ap (λ ls. lost_from (name_in t) ls 1 (lines_of t)) (labels_are t cap y.0 y.1 y.2) ∙ x.2, ap (λ pr. room_for pr room) (stands t cap y.0 y.1 y.2) ∙ x.3, x.4)

  -- building refuses only what assembling does, and by the same question and line
  refused_alike : (r : Result ℕ Refusal) (e : Refusal) → summary_of t r ≡ Err e → r ≡ Err e
  refused_alike (Ok n) e h = let z : ◌≡◌ {A = ℕ} 0 1 = cc in absurd (omega arith)
  refused_alike (Err x) e h = let same : x ≡ e = cc in ap Err same

  -- what is answered is a refusal exactly by the first question of all with a no
  pub exactly_of_all : ExactlyFirstOfAll t cap room (summary_of t (answer_of (assembled t cap room)))
  exactly_of_all q n =
      let says = exactly t cap room q n in
      (λ e. first_of_all q n (says.0 (refused_alike (answer_of (assembled t cap room)) _ e)), λ x. ap (summary_of t) (says.1 (first_no q n x)))
