-- The questions of a line, one after another.
use Rattle.std.proofs.Common.{◌≡◌, ℕ, Bool, true, false, cond, not, ◌&&◌, ◌||◌, List, is_some, Some, None, Ok, Err, Option, Result, sym, refl, ap, ◌∙◌, arith}
use Rattle.std.specs.Option.{option_map}
use Rattle.std.proofs.lemmas.Bool.{cond-true, cond-false, cond_both}
use Rattle.executable.specs.Check.{ask}
use Rattle.lexer.specs.Shown.{Shown}
use Rattle.assembler.specs.Labels.{name_in}
use Rattle.assembler.specs.Lines.{Parts, named, said_by, statement_in}
use Rattle.assembler.specs.Operands.{right_count, right_form, right_range}
use Rattle.assembler.specs.Questions.{followed_by, is, orderly, stack_in, few_with, after_by, after, or_refused, body_refusal, body_of, right_label, label_room, label_refusal, refusal_in, entries_of, judge_of}
use Rattle.assembler.specs.declared.label.Label.{Label}
use Rattle.assembler.specs.Mnemonics.{is_stack}
use Rattle.assembler.specs.Statements.{Meant, code_with, end_with, statement_by, read_by, justly, read_named}
use Rattle.assembler.specs.declared.mnemonic.Mnemonic.TheVariants as mnemonic
use Rattle.assembler.specs.declared.mnemonic.Mnemonic.{Mnemonic}
use Rattle.assembler.specs.Progress.{Progress}
use Rattle.assembler.specs.declared.question.Question.{Question}
use Rattle.assembler.specs.declared.question.Question.TheVariants as question

pub some_kept : {X Y : Type 0} (f : X → Y) (o : Option X) → is_some (option_map f o) ≡ is_some o
some_kept f None = refl
some_kept f (Some x) = refl

-- three questions about operands that all get a yes
all_yes : (a b c : Bool) (x y : Meant) → ask a question.Count (ask b question.Form (ask c question.Range (Ok x))) ≡ Ok y → (a ≡ true) × (b ≡ true) × (c ≡ true) × (x ≡ y)
all_yes true true true x y e = (refl, refl, refl, cc)
all_yes true true false x y e = let z : ◌≡◌ {A = ℕ} 0 1 = cc in absurd (omega arith)
all_yes true false c x y e = let z : ◌≡◌ {A = ℕ} 0 1 = cc in absurd (omega arith)
all_yes false b c x y e = let z : ◌≡◌ {A = ℕ} 0 1 = cc in absurd (omega arith)

-- the first of them that gets a no
first_no : (a b c : Bool) (x : Meant) (q : Question) (rest : Option Question) → ask a question.Count (ask b question.Form (ask c question.Range (Ok x))) ≡ Err q
    → cond a (cond b (cond c rest (Some question.Range)) (Some question.Form)) (Some question.Count) ≡ Some q
first_no true true true x q rest e = let z : ◌≡◌ {A = ℕ} 0 1 = cc in absurd (omega arith)
first_no true true false x q rest e = let s : question.Range ≡ q = cc in ap Some s
first_no true false c x q rest e = let s : question.Form ≡ q = cc in ap Some s
first_no false b c x q rest e = let s : question.Count ≡ q = cc in ap Some s

justly_ok : (r : Result Meant Question) (st : Option Meant) → Ok st ≡ justly r → (x : Meant) × (r ≡ Ok x) × (st ≡ Some x)
justly_ok (Ok x) st e = (x, refl, cc)
justly_ok (Err q) st e = let z : ◌≡◌ {A = ℕ} 0 1 = cc in absurd (omega arith)

justly_err : (r : Result Meant Question) (q : Question) → Err q ≡ justly r → r ≡ Err q
justly_err (Ok x) q e = let z : ◌≡◌ {A = ℕ} 0 1 = cc in absurd (omega arith)
justly_err (Err p) q e = let s : p ≡ q = cc in ap Err s

-- the questions about operands, and then another
abbrev pub operands_then : Option Mnemonic → List Shown → Option Question → Option Question
operands_then None ws rest = rest
operands_then (Some m) ws rest = cond (right_count m ws) (cond (right_form m ws) (cond (right_range m ws) rest (Some question.Range)) (Some question.Form)) (Some question.Count)

pub named_ok : (mn : Option Mnemonic) (ws : List Shown) (st : Option Meant) (rest : Option Question) → Ok st ≡ read_named mn ws → (operands_then mn ws rest ≡ rest) × (said_by mn ws ≡ st)
named_ok None ws st rest e = (refl, let s : st ≡ None = cc in sym s)
named_ok (Some m) ws st rest e =
    let x = justly_ok (read_by m ws) st e in
    let y = all_yes (right_count m ws) (right_form m ws) (right_range m ws) (statement_by m ws) x.0 x.1 in (
      cond-true _ _ _ y.0 ∙ cond-true _ _ _ y.1 ∙ cond-true _ _ _ y.2,
      cond-true (right_count m ws && (right_form m ws && right_range m ws)) (Some (statement_by m ws)) None (ap (λ b. b && (right_form m ws && right_range m ws)) y.0 ∙ ap (λ b. b && right_range m ws) y.1 ∙ y.2) ∙ ap Some y.3 ∙ sym x.2,
    )

-- a label that stands for an address sets no stack pointer
none_with_code : (w : ℕ) (l : Option (List ℕ)) → stack_in (Some (code_with w l)) ≡ None
none_with_code w None = refl
none_with_code w (Some l) = refl

none_with_end : (n : ℕ) (l : Option (List ℕ)) → stack_in (Some (end_with n l)) ≡ None
none_with_end n None = refl
none_with_end n (Some l) = refl

stacked_by : (m : Mnemonic) (ws : List Shown) → is_stack m ≡ is_some (stack_in (Some (statement_by m ws)))
stacked_by (mnemonic.Command o) ws = sym (ap is_some (none_with_code _ _))
stacked_by mnemonic.Word ws = refl
stacked_by mnemonic.Uint32 ws = refl
stacked_by mnemonic.Text ws = refl
stacked_by mnemonic.Stack ws = refl
stacked_by mnemonic.End ws = sym (ap is_some (none_with_end _ _))

-- a statement that was read sets the stack pointer exactly where its mnemonic is `stack`
pub stack_named : (mn : Option Mnemonic) (ws : List Shown) (st : Option Meant) → Ok st ≡ read_named mn ws → is is_stack mn ≡ is_some (stack_in st)
stack_named None ws st e = let s : st ≡ None = cc in sym (ap (λ x. is_some (stack_in x)) s)
stack_named (Some m) ws st e =
    let x = justly_ok (read_by m ws) st e in
    let y = all_yes (right_count m ws) (right_form m ws) (right_range m ws) (statement_by m ws) x.0 x.1 in
    stacked_by m ws ∙ ap (λ s. is_some (stack_in (Some s))) y.3 ∙ sym (ap (λ s. is_some (stack_in s)) x.2)

pub named_err : (mn : Option Mnemonic) (ws : List Shown) (q : Question) (rest : Option Question) → Err q ≡ read_named mn ws → operands_then mn ws rest ≡ Some q
named_err None ws q rest e = let z : ◌≡◌ {A = ℕ} 0 1 = cc in absurd (omega arith)
named_err (Some m) ws q rest e = first_no (right_count m ws) (right_form m ws) (right_range m ws) (statement_by m ws) q rest (justly_err (read_by m ws) q e)

-- the questions of a line past its label, in this order
body_is : (pr : Progress) (l : Parts) → body_refusal pr l
    ≡ cond (followed_by pr (is_some l.label) (named l.next)) (cond (not (is_some l.next) || is_some (named l.next)) (cond (orderly pr (is_some l.label || is_some l.next) (named l.next))
    (operands_then (named l.next) l.operands (cond (few_with pr (statement_in l)) None (Some question.Words))) (Some question.Order)) (Some question.Name)) (Some question.Waiting)
body_is pr l = go (named l.next) refl where
  go : (mn : Option Mnemonic) → named l.next ≡ mn → body_refusal pr l
      ≡ cond (followed_by pr (is_some l.label) (named l.next)) (cond (not (is_some l.next) || is_some (named l.next)) (cond (orderly pr (is_some l.label || is_some l.next) (named l.next))
      (operands_then (named l.next) l.operands (cond (few_with pr (statement_in l)) None (Some question.Words))) (Some question.Order)) (Some question.Name)) (Some question.Waiting)
  go None e = simp e
  go (Some m) e = simp e

-- the first three questions get a yes
module _ (pr : Progress) (l : Parts) (lab nm : Bool) (mn : Option Mnemonic) (lab_is : lab ≡ is_some l.label) (nm_is : nm ≡ is_some l.next) (mn_is : mn ≡ named l.next)
    (q4 : followed_by pr lab mn ≡ true) (q5 : (not nm || is_some mn) ≡ true) (q6 : orderly pr (lab || nm) mn ≡ true) where
  placed : body_refusal pr l ≡ operands_then (named l.next) l.operands (cond (few_with pr (statement_in l)) None (Some question.Words))
  placed =
      body_is pr l
      ∙ cond-true _ _ _ (ap (λ b. followed_by pr b (named l.next)) (sym lab_is) ∙ ap (followed_by pr lab) (sym mn_is) ∙ q4)
      ∙ cond-true _ _ _ (ap (λ b. not b || is_some (named l.next)) (sym nm_is) ∙ ap (λ x. not nm || is_some x) (sym mn_is) ∙ q5)
      ∙ cond-true _ _ _ (ap (λ b. orderly pr (b || is_some l.next) (named l.next)) (sym lab_is) ∙ ap (λ b. orderly pr (lab || b) (named l.next)) (sym nm_is) ∙ ap (orderly pr (lab || nm)) (sym mn_is) ∙ q6)

  pub body_ok : (st : Option Meant) (r : Result Progress Question) → Ok st ≡ read_named mn l.operands → r ≡ cond (few_with pr st) (Ok (after_by pr lab nm mn st)) (Err question.Words) → r ≡ body_of pr l
  body_ok st r e is =
      let both = named_ok (named l.next) l.operands st (cond (few_with pr (statement_in l)) None (Some question.Words)) (e ∙ ap (λ x. read_named x l.operands) mn_is) in
      let refusal : body_refusal pr l ≡ cond (few_with pr st) None (Some question.Words) = placed ∙ both.0 ∙ ap (λ x. cond (few_with pr x) None (Some question.Words)) both.1 in
      let on : after pr l ≡ after_by pr lab nm mn st =
      ap (λ b. after_by pr b (is_some l.next) (named l.next) (statement_in l)) (sym lab_is) ∙ ap (λ b. after_by pr lab b (named l.next) (statement_in l)) (sym nm_is) ∙ ap (λ x. after_by pr lab nm x (statement_in l)) (sym mn_is) ∙ ap (after_by pr lab nm mn) both.1 in
      is
      ∙ cond_both (few_with pr st) None (Some question.Words) (λ o. cond (few_with pr st) (Ok (after_by pr lab nm mn st)) (Err question.Words) ≡ or_refused (after_by pr lab nm mn st) o) (λ t. cond-true _ _ _ t) (λ t. cond-false _ _ _ t)
      ∙ ap (λ o. or_refused (after_by pr lab nm mn st) o) (sym refusal) ∙ ap (λ x. or_refused x (body_refusal pr l)) (sym on)

  pub body_err : (q : Question) → Err q ≡ read_named mn l.operands → Err q ≡ body_of pr l
  body_err q e =
      let refusal : body_refusal pr l ≡ Some q = placed ∙ named_err (named l.next) l.operands q (cond (few_with pr (statement_in l)) None (Some question.Words)) (e ∙ ap (λ x. read_named x l.operands) mn_is) in
      sym (ap (or_refused (after pr l)) refusal)

pub or_ok : {X : Type 0} (x y : X) (o : Option Question) → Ok y ≡ or_refused x o → (o ≡ None) × (y ≡ x)
or_ok x y None e = (refl, cc)
or_ok x y (Some q) e = let z : ◌≡◌ {A = ℕ} 0 1 = cc in absurd (omega arith)

pub or_err : {X : Type 0} (x : X) (o : Option Question) (q : Question) → Err q ≡ or_refused x o → o ≡ Some q
or_err x None q e = let z : ◌≡◌ {A = ℕ} 0 1 = cc in absurd (omega arith)
or_err x (Some p) q e = let s : p ≡ q = cc in ap Some s

-- questions 2 and 3, and then others
two_yes : (a b : Bool) (rest : Option Question) → cond a (cond b None (Some question.LabelRoom)) (Some question.Label) ≡ None → cond a (cond b rest (Some question.LabelRoom)) (Some question.Label) ≡ rest
two_yes true true rest e = refl
two_yes true false rest e = let z : ◌≡◌ {A = ℕ} 0 1 = cc in absurd (omega arith)
two_yes false b rest e = let z : ◌≡◌ {A = ℕ} 0 1 = cc in absurd (omega arith)

two_no : (a b : Bool) (rest : Option Question) (q : Question) → cond a (cond b None (Some question.LabelRoom)) (Some question.Label) ≡ Some q → cond a (cond b rest (Some question.LabelRoom)) (Some question.Label) ≡ Some q
two_no true true rest q e = let z : ◌≡◌ {A = ℕ} 0 1 = cc in absurd (omega arith)
two_no true false rest q e = e
two_no false b rest q e = e

-- what a line adds
module _ (t : List ℕ) (cap : ℕ) (ls : List Label) (pr : Progress) (p : ℕ) where
  -- a line whose questions about its label get a yes
  by_body_ok : (l : Parts) (pr' : Progress) → refusal_in (name_in t) cap ls pr l ≡ body_refusal pr l → Ok pr' ≡ body_of pr l → Ok (record { label = entries_of p pr l.label; progress = pr' }) ≡ judge_of (name_in t) cap ls pr p l
  by_body_ok l pr' same e =
      let both = or_ok (after pr l) pr' (body_refusal pr l) e in
      ap (λ x. Ok (record { label = entries_of p pr l.label; progress = x })) both.1 ∙ sym (ap (or_refused _) (same ∙ both.0))

  by_body_err : (l : Parts) (q : Question) → refusal_in (name_in t) cap ls pr l ≡ body_refusal pr l → Err q ≡ body_of pr l → Err q ≡ judge_of (name_in t) cap ls pr p l
  by_body_err l q same e = sym (ap (or_refused _) (same ∙ or_err (after pr l) (body_refusal pr l) q e))

  pub plain_ok : (next : Option Shown) (ops : List Shown) (pr' : Progress) → Ok pr' ≡ body_of pr (record { label = None; next = next; operands = ops }) → Ok (record { label = None; progress = pr' }) ≡ judge_of (name_in t) cap ls pr p (record { label = None; next = next; operands = ops })
  plain_ok next ops pr' e = by_body_ok (record { label = None; next = next; operands = ops }) pr' refl e

  pub plain_err : (next : Option Shown) (ops : List Shown) (q : Question) → Err q ≡ body_of pr (record { label = None; next = next; operands = ops }) → Err q ≡ judge_of (name_in t) cap ls pr p (record { label = None; next = next; operands = ops })
  plain_err next ops q e = by_body_err (record { label = None; next = next; operands = ops }) q refl e

  module _ (w : List ℕ) (next : Option Shown) (ops : List Shown) where
    abbrev line : Parts
    line = record { label = Some w; next = next; operands = ops }

    past_label : (u : Unit {0}) → Ok u ≡ or_refused tt (label_refusal (name_in t) cap ls w) → refusal_in (name_in t) cap ls pr line ≡ body_refusal pr line
    past_label u e = two_yes (right_label (name_in t) ls (Some w)) (label_room cap ls (Some w)) (body_refusal pr line) (or_ok tt u (label_refusal (name_in t) cap ls w) e).0

    pub labelled_no : (q : Question) → Err q ≡ or_refused {X = Unit {0}} tt (label_refusal (name_in t) cap ls w) → Err q ≡ judge_of (name_in t) cap ls pr p line
    labelled_no q e = sym (ap (or_refused _) (two_no (right_label (name_in t) ls (Some w)) (label_room cap ls (Some w)) (body_refusal pr line) q (or_err {X = Unit {0}} tt (label_refusal (name_in t) cap ls w) q e)))

    pub labelled_ok : (u : Unit {0}) (pr' : Progress) → Ok u ≡ or_refused tt (label_refusal (name_in t) cap ls w) → Ok pr' ≡ body_of pr line → Ok (record { label = entries_of p pr (Some w); progress = pr' }) ≡ judge_of (name_in t) cap ls pr p line
    labelled_ok u pr' e f = by_body_ok line pr' (past_label u e) f

    pub labelled_err : (u : Unit {0}) (q : Question) → Ok u ≡ or_refused tt (label_refusal (name_in t) cap ls w) → Err q ≡ body_of pr line → Err q ≡ judge_of (name_in t) cap ls pr p line
    labelled_err u q e f = by_body_err line q (past_label u e) f
