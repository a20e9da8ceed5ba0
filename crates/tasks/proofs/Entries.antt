-- With the label entries and the output that are lent, questions 3 and 13 always get a yes.
use Rattle.std.proofs.Common.{◌≡◌, ℕ, ◌+◌, ◌*◌, ◌<◌, ◌≤◌, Bool, true, false, cond, not, ◌&&◌, ◌||◌, List, [], ◌∷◌, length, is_some, Some, None, Ok, Err, Option, Result, IfErr, refl, sym, ap, ◌∙◌, subst, arith, length-append}
use Rattle.std.proofs.lemmas.Bool.{cond_both, le-leb, lt-ltb, both_ways, true≢false}
use Rattle.lexer.specs.Shown.{Shown}
use Rattle.lexer.specs.Text.{lines_of, code_of, blanks}
use Rattle.assembler.specs.Assembled.{Outcome, passed, refused, on_line, run_from, fresh, Assembled, good, bad, right_text, room_for, executable_in, lastly, after_lines, assembled, answer_of}
use Rattle.assembler.specs.Emit.{lost_from}
use Rattle.assembler.specs.Labels.{Names, name_in}
use Rattle.assembler.specs.Lines.{Parts, named}
use Rattle.assembler.specs.Mnemonics.{is_directive}
use Rattle.assembler.specs.Progress.{Progress}
use Rattle.assembler.specs.Questions.{asked, is, first_no, line_questions, label_room, refusal_in, refusal_at, labels_after, after}
use Rattle.assembler.specs.declared.label.Label.{Label}
use Rattle.assembler.specs.declared.mnemonic.Mnemonic.{Mnemonic}
use Rattle.assembler.specs.declared.mnemonic.Mnemonic.TheVariants.{Command, Word, Uint32, Text, Stack, End}
use Rattle.assembler.specs.declared.question.Question.{Question}
use Rattle.assembler.specs.declared.question.Question.TheVariants as question
use Rattle.assembler.specs.declared.question.Refusal.{Refusal}
use Rattle.builder.specs.Built.{summary_of}
use Rattle.builder.specs.Source.{line_parts, count_by}
use Rattle.builder.specs.declared.summary.Summary.{Summary}
use Rattle.builder.proofs.Passing.{passing, asks}
use Rattle.builder.proofs.Ran.{ran}
use Rattle.tasks.specs.Assembling.{NotByRoom}
use Rattle.tasks.specs.declared.assembling.TheConstants.{LABEL_ENTRIES, LONGEST_EXECUTABLE}

-- 1 for yes
abbrev one : Bool → ℕ
one b = cond b 1 0

one_at_most : (b : Bool) → one b ≤ 1
one_at_most true = omega arith
one_at_most false = omega arith

-- a name that is no directive gives a word at least
some_words : (m : Mnemonic) (ws : List Shown) → is_directive m ≡ false → 1 ≤ count_by (Some m) ws
some_words (Command o) ws e = omega arith
some_words Word ws e = omega arith
some_words Uint32 ws e = omega arith
some_words Text ws e = omega arith
some_words Stack ws e = let z : ◌≡◌ {A = ℕ} 0 1 = cc in absurd (omega arith)
some_words End ws e = let z : ◌≡◌ {A = ℕ} 0 1 = cc in absurd (omega arith)

-- a label that waits or stands on a line in front of a name gets a word, and there is one such label at most
named_words : (w l d : Bool) (c : ℕ) → (not (w && l) && not ((w || l) && d)) ≡ true → (d ≡ false → 1 ≤ c) → one w + one l ≤ c
named_words true true d c e h = let z : ◌≡◌ {A = ℕ} 0 1 = cc in absurd (omega arith)
named_words true false true c e h = let z : ◌≡◌ {A = ℕ} 0 1 = cc in absurd (omega arith)
named_words true false false c e h = omega (arith, h refl)
named_words false true true c e h = let z : ◌≡◌ {A = ℕ} 0 1 = cc in absurd (omega arith)
named_words false true false c e h = omega (arith, h refl)
named_words false false d c e h = omega arith

-- and where no name follows it waits on
none_named : (w l : Bool) → (not (w && l) && not ((w || l) && false)) ≡ true → one w + one l ≤ one (w || l)
none_named true true e = let z : ◌≡◌ {A = ℕ} 0 1 = cc in absurd (omega arith)
none_named true false e = omega arith
none_named false true e = omega arith
none_named false false e = omega arith

by_name : (w l : Bool) (m : Option Mnemonic) (ws : List Shown) → is_some m ≡ true → (not (w && l) && not ((w || l) && is is_directive m)) ≡ true → one w + one l ≤ count_by m ws
by_name w l None ws e h = let z : ◌≡◌ {A = ℕ} 0 1 = cc in absurd (omega arith)
by_name w l (Some m) ws e h = named_words w l (is_directive m) (count_by (Some m) ws) h (some_words m ws)

-- a label without its word in front of a line, or on it, gets one there or waits behind it
words_after : (w l : Bool) (o : Option Shown) (ws : List Shown) → (not (is_some o) || is_some (named o)) ≡ true → (not (w && l) && not ((w || l) && is is_directive (named o))) ≡ true
    → one w + one l ≤ count_by (named o) ws + one (not (is_some o) && (w || l))
words_after w l None ws e h = let f = none_named w l h in omega arith
words_after w l (Some s) ws e h = let f = by_name w l (named (Some s)) ws e h in omega arith

-- each label in front of a line has its word, but for one that waits, and there are 65,536 words at most
record Few (ls : List Label) (pr : Progress) : Type 0 where
  labels : length ls ≤ pr.code + pr.pool + one pr.waiting
  words : pr.code + pr.pool ≤ 65536

one_entered : (p : ℕ) (ls : List Label) (pr : Progress) (o : Option (List ℕ)) → length (labels_after p ls pr o) ≡ length ls + one (is_some o)
one_entered p ls pr None = omega arith
one_entered p ls pr (Some w) = length-append ls _

few_after : (t : List ℕ) (cap p : ℕ) (ls : List Label) (pr : Progress) (l : Parts) → refusal_in (name_in t) cap ls pr l ≡ None → Few ls pr → Few (labels_after p ls pr l.label) (after pr l)
few_after t cap p ls pr l ok few =
    let f = asked (name_in t) cap ls pr l in
    let late = question.Order ∷ question.Count ∷ question.Form ∷ question.Range ∷ question.Words ∷ [] in
    let followed = asks f (question.Label ∷ question.LabelRoom ∷ []) question.Waiting (question.Name ∷ late) ok in
    let known = asks f (question.Label ∷ question.LabelRoom ∷ question.Waiting ∷ []) question.Name late ok in
    let right = passing t cap ls pr l ok in
    let counts = right.counts in
    let more = words_after pr.waiting (is_some l.label) l.next l.operands known followed in
    let entered = one_entered p ls pr l.label in
    let before = few.labels in
    record { labels = omega arith; words = right.few }

-- the first question with a no gets a no
says_no : (f : Question → Bool) (b : Bool) (x q : Question) (rest : Option Question) → f x ≡ b → cond b rest (Some x) ≡ Some q → (rest ≡ Some q → f q ≡ false) → f q ≡ false
says_no f true x q rest is e more = more e
says_no f false x q rest is e more = let same : x ≡ q = cc in ap f (sym same) ∙ is

first_says_no : (f : Question → Bool) (qs : List Question) (q : Question) → first_no f qs ≡ Some q → f q ≡ false
first_says_no f [] q e = let z : ◌≡◌ {A = ℕ} 0 1 = cc in absurd (omega arith)
first_says_no f (x ∷ qs) q e = says_no f (f x) x q (first_no f qs) refl e (λ later. first_says_no f qs q later)

yes_to_room : (cap : ℕ) (ls : List Label) (o : Option (List ℕ)) → length ls < cap → label_room cap ls o ≡ true
yes_to_room cap ls None h = refl
yes_to_room cap ls (Some w) h = lt-ltb (length ls) cap h

not_by_room : (t : Names) (ls : List Label) (pr : Progress) (l : Parts) → Few ls pr → refusal_in t LABEL_ENTRIES ls pr l ≡ Some question.LabelRoom → ⊥
not_by_room t ls pr l few e =
    let waits = one_at_most pr.waiting in
    let labels = few.labels in
    let words = few.words in
    both_ways (label_room LABEL_ENTRIES ls l.label) (first_says_no (asked t LABEL_ENTRIES ls pr l) line_questions question.LabelRoom e) (yes_to_room LABEL_ENTRIES ls l.label (omega arith))

module _ (t : List ℕ) where
  step : (ls : List Label) (pr : Progress) (n : ℕ) (l : Parts) (next : Outcome) (k : ℕ) (held : List Label) (o : Option Question) → Few ls pr → refusal_in (name_in t) LABEL_ENTRIES ls pr l ≡ o
      → on_line n ls o next ≡ refused question.LabelRoom k held → (refusal_in (name_in t) LABEL_ENTRIES ls pr l ≡ None → next ≡ refused question.LabelRoom k held → ⊥) → ⊥
  step ls pr n l next k held None few is e more = more is e
  step ls pr n l next k held (Some q) few is e more = let same : q ≡ question.LabelRoom = cc in not_by_room (name_in t) ls pr l few (is ∙ ap Some same)

  -- a line is not asked 13
  by_output : (n : ℕ) (ls : List Label) (l : Parts) (pr : Progress) (next : Outcome) (k : ℕ) (held : List Label) (o : Option Question) → refusal_in (name_in t) LABEL_ENTRIES ls pr l ≡ o
      → on_line n ls o next ≡ refused question.Output k held → (next ≡ refused question.Output k held → ⊥) → ⊥
  by_output n ls l pr next k held None is e more = more e
  by_output n ls l pr next k held (Some q) is e more =
      let same : q ≡ question.Output = cc in
      true≢false (first_says_no (asked (name_in t) LABEL_ENTRIES ls pr l) line_questions question.Output (is ∙ ap Some same))

  -- no line is refused by 3
  lines_pass : (lines : List (List ℕ)) (ls : List Label) (pr : Progress) (n p k : ℕ) (held : List Label) → Few ls pr → run_from (name_in t) LABEL_ENTRIES ls pr n p lines ≡ refused question.LabelRoom k held → ⊥
  lines_pass [] ls pr n p k held few e = let z : ◌≡◌ {A = ℕ} 0 1 = cc in omega arith
  lines_pass (l ∷ rest) ls pr n p k held few e =
      step ls pr n (line_parts l) _ k held (refusal_in (name_in t) LABEL_ENTRIES ls pr (line_parts l)) few refl e
      (λ ok later. lines_pass rest _ (after pr (line_parts l)) (n + 1) (p + length l + 1) k held (few_after t LABEL_ENTRIES (p + blanks (code_of l)) ls pr (line_parts l) ok few) later)

  few_fresh : Few [] fresh
  few_fresh = record { labels = omega arith; words = omega arith }

  -- lines are refused by those questions alone that are asked of them
  line_question : (lines : List (List ℕ)) (ls : List Label) (pr : Progress) (n p k : ℕ) (held : List Label) → run_from (name_in t) LABEL_ENTRIES ls pr n p lines ≡ refused question.Output k held → ⊥
  line_question [] ls pr n p k held e = let z : ◌≡◌ {A = ℕ} 0 1 = cc in omega arith
  line_question (l ∷ rest) ls pr n p k held e =
      by_output n ls (line_parts l) pr _ k held (refusal_in (name_in t) LABEL_ENTRIES ls pr (line_parts l)) refl e (λ later. line_question rest _ (after pr (line_parts l)) (n + 1) (p + length l + 1) k held later)

  -- an end that is no refusal by 3 or 13
  abbrev Other : Assembled → Type 0
  Other (good bytes ls) = Unit {0}
  Other (bad q n ls) = NotByRoom q

  -- the words of lines that pass have room in the output
  has_output : (ls : List Label) (pr : Progress) → run_from (name_in t) LABEL_ENTRIES [] fresh 1 0 (lines_of t) ≡ passed ls pr → room_for pr LONGEST_EXECUTABLE ≡ true
  has_output ls pr e =
      let lines = ran t [] LABEL_ENTRIES (lines_of t) [] ls fresh pr 1 0 e in
      let few = lines.few (omega arith) in
      le-leb (512 + 4 * (pr.code + pr.pool)) LONGEST_EXECUTABLE (omega arith)

  other_last : (ls : List Label) (pr : Progress) (o : Option ℕ) → room_for pr LONGEST_EXECUTABLE ≡ true → Other (lastly t LONGEST_EXECUTABLE ls pr o)
  other_last ls pr (Some n) fits = record { entries = λ e. let z : ◌≡◌ {A = ℕ} 0 1 = cc in omega arith; output = λ e. let z : ◌≡◌ {A = ℕ} 0 1 = cc in omega arith }
  other_last ls pr None fits = cond_both (room_for pr LONGEST_EXECUTABLE) (good (executable_in t ls pr) ls) (bad question.Output 0 ls) Other (λ _. tt) (λ short. absurd (both_ways (room_for pr LONGEST_EXECUTABLE) short fits))

  other_lines : (o : Outcome) → run_from (name_in t) LABEL_ENTRIES [] fresh 1 0 (lines_of t) ≡ o → Other (after_lines t LONGEST_EXECUTABLE o)
  other_lines (refused q n ls) e = record {
    entries = λ same. lines_pass (lines_of t) [] fresh 1 0 n ls few_fresh (e ∙ ap (λ x. refused x n ls) same);
    output = λ same. line_question (lines_of t) [] fresh 1 0 n ls (e ∙ ap (λ x. refused x n ls) same);
  }
  other_lines (passed ls pr) e =
      cond_both pr.ended (lastly t LONGEST_EXECUTABLE ls pr (lost_from (name_in t) ls 1 (lines_of t))) (bad question.End 0 ls) Other (λ _. other_last ls pr (lost_from (name_in t) ls 1 (lines_of t)) (has_output ls pr e))
      (λ _. record { entries = λ same. let z : ◌≡◌ {A = ℕ} 0 1 = cc in omega arith; output = λ same. let z : ◌≡◌ {A = ℕ} 0 1 = cc in omega arith })

  other : Other (assembled t LABEL_ENTRIES LONGEST_EXECUTABLE)
  other =
      cond_both (right_text t) (after_lines t LONGEST_EXECUTABLE (run_from (name_in t) LABEL_ENTRIES [] fresh 1 0 (lines_of t))) (bad question.Text 0 []) Other (λ _. other_lines (run_from (name_in t) LABEL_ENTRIES [] fresh 1 0 (lines_of t)) refl)
      (λ _. record { entries = λ same. let z : ◌≡◌ {A = ℕ} 0 1 = cc in omega arith; output = λ same. let z : ◌≡◌ {A = ℕ} 0 1 = cc in omega arith })

  told_by : (x : Assembled) (q : Refusal) → Other x → Err q ≡ summary_of t (answer_of x) → NotByRoom q.question
  told_by (good bytes ls) q apart told = let z : ◌≡◌ {A = ℕ} 0 1 = cc in absurd (omega arith)
  told_by (bad p n ls) q apart told =
      let is : Refusal = refusal_at p n in
      let same : is ≡ q = cc in
      subst (λ r. NotByRoom r.question) same apart

  -- no text is refused by 3 or 13
  pub has_room : (cap room : ℕ) (r : Result Summary Refusal) → cap ≡ LABEL_ENTRIES → room ≡ LONGEST_EXECUTABLE → r ≡ summary_of t (answer_of (assembled t cap room)) → IfErr r (λ q. NotByRoom q.question)
  has_room cap room (Ok s) entries longest told = tt
  has_room cap room (Err q) entries longest told =
      told_by (assembled t LABEL_ENTRIES LONGEST_EXECUTABLE) q other
      (told ∙ ap (λ n. summary_of t (answer_of (assembled t n room))) entries ∙ ap (λ n. summary_of t (answer_of (assembled t LABEL_ENTRIES n))) longest)
