-- What lines that pass give: their words, the counts of them, the stack pointer and the first instruction.
use Rattle.std.proofs.Common.{◌≡◌, ℕ, ◌+◌, ◌<◌, ◌≤◌, Bool, true, false, not, ◌&&◌, ◌||◌, List, [], ◌∷◌, ◌++◌, length, Some, None, Option, sym, refl, ap, ◌∙◌, subst, ⊎_elim, arith, length-append}
use Rattle.std.proofs.lemmas.Bool.{and_parts, or_left, or_right, or_from, not-true, both_ways, true≢false, false≢true, cases_Bool}
use Rattle.lexer.specs.Shown.{Shown}
use Rattle.lexer.specs.Text.{code_of, blanks}
use Rattle.assembler.specs.Labels.{name_in}
use Rattle.assembler.specs.Assembled.{Outcome, passed, on_line, run_from}
use Rattle.assembler.specs.Emit.{put_by, words_from, start_from, start_by as start_said}
use Rattle.assembler.specs.Lines.{named, statement_in}
use Rattle.assembler.specs.Mnemonics.{is_code, is_constant, is_stack}
use Rattle.assembler.specs.Questions.{is, orderly, has_words, refusal_in, code_words, data_words, stack_after, after}
use Rattle.assembler.specs.declared.label.Label.{Label}
use Rattle.assembler.specs.declared.mnemonic.Mnemonic.{Mnemonic}
use Rattle.assembler.specs.declared.mnemonic.Mnemonic.TheVariants.{Command, Word, Uint32, Text, Stack, End}
use Rattle.assembler.specs.Progress.{Progress}
use Rattle.assembler.specs.declared.question.Question.{Question}
use Rattle.builder.specs.Source.{line_parts, code_by, constants_by, stack_by, start_by, count_on, line_code, line_constants, code_in, constants_in, stack_in, start_in, labels_in}
use Rattle.builder.proofs.Passing.{Passing, passing}
use Rattle.builder.proofs.Said.{puts, code_count, constant_count, starts, stacks}
use Rattle.builder.proofs.Small.{Low, low_entry, start_low, stack_low}

-- what a name says of the words, where it is none of code
no_code : (t : List ℕ) (ls : List Label) (o : Option Mnemonic) (ws : List Shown) → is is_code o ≡ false → code_by (name_in t) ls o ws ≡ []
no_code t ls None ws e = refl
no_code t ls (Some (Command o)) ws e = absurd (true≢false e)
no_code t ls (Some Word) ws e = absurd (true≢false e)
no_code t ls (Some Uint32) ws e = refl
no_code t ls (Some Text) ws e = refl
no_code t ls (Some Stack) ws e = refl
no_code t ls (Some End) ws e = refl

no_stack : (o : Option Mnemonic) (ws : List Shown) (n : ℕ) → is is_stack o ≡ false → stack_by o ws n ≡ n
no_stack None ws n e = refl
no_stack (Some (Command o)) ws n e = refl
no_stack (Some Word) ws n e = refl
no_stack (Some Uint32) ws n e = refl
no_stack (Some Text) ws n e = refl
no_stack (Some Stack) ws n e = absurd (true≢false e)
no_stack (Some End) ws n e = refl

-- `stack` says the same whatever stands after it
is_stack_any : (o : Option Mnemonic) (ws : List Shown) (m n : ℕ) → is is_stack o ≡ true → stack_by o ws m ≡ stack_by o ws n
is_stack_any None ws m n e = absurd (false≢true e)
is_stack_any (Some (Command o)) ws m n e = absurd (false≢true e)
is_stack_any (Some Word) ws m n e = absurd (false≢true e)
is_stack_any (Some Uint32) ws m n e = absurd (false≢true e)
is_stack_any (Some Text) ws m n e = absurd (false≢true e)
is_stack_any (Some Stack) ws m n e = refl
is_stack_any (Some End) ws m n e = absurd (false≢true e)

-- behind a constant there is no code
sorts : (t : List ℕ) (ls : List Label) (o : Option Mnemonic) (ws : List Shown) (c k : List ℕ) → (is is_constant o ≡ true → c ≡ []) → (code_by (name_in t) ls o ws ++ constants_by o ws) ++ (c ++ k) ≡ (code_by (name_in t) ls o ws ++ c) ++ (constants_by o ws ++ k)
sorts t ls None ws c k none = refl
sorts t ls (Some (Command o)) ws c k none = refl
sorts t ls (Some Word) ws c k none = refl
sorts t ls (Some Uint32) ws c k none = let e = none refl in ap (λ x. constants_by (Some Uint32) ws ++ (x ++ k)) e ∙ sym (ap (λ x. x ++ (constants_by (Some Uint32) ws ++ k)) e)
sorts t ls (Some Text) ws c k none = let e = none refl in ap (λ x. constants_by (Some Text) ws ++ (x ++ k)) e ∙ sym (ap (λ x. x ++ (constants_by (Some Text) ws ++ k)) e)
sorts t ls (Some Stack) ws c k none = refl
sorts t ls (Some End) ws c k none = refl

-- question 6: no code where there were constants, and no second `stack`
in_order : (pr : Progress) (words : Bool) (o : Option Mnemonic) → orderly pr words o ≡ true → ((is is_stack o && (pr.begun || pr.stacked)) ≡ false) × ((is is_code o && pr.constants) ≡ false)
in_order pr words o e =
    let a = is is_stack o && (pr.begun || pr.stacked) in
    let b = is is_code o && pr.constants in
    let both = and_parts (not a) (not b) (and_parts (not (pr.ended && words)) (not a && not b) e).1 in
    (not-true a both.0, not-true b both.1)

other : (a b : Bool) → (a && b) ≡ false → b ≡ true → a ≡ false
other true b e h = absurd (both_ways b e h)
other false b e h = refl

module _ (t : List ℕ) (ls : List Label) where
  -- lines that lead from one progress to another
  pub record Ran (pr pr' : Progress) (lines : List (List ℕ)) : Type 0 where
    pub words : words_from (name_in t) ls lines ≡ code_in (name_in t) ls lines ++ constants_in lines
    pub late : pr.constants ≡ true → code_in (name_in t) ls lines ≡ []
    pub code : pr'.code ≡ pr.code + length (code_in (name_in t) ls lines)
    pub pool : pr'.pool ≡ pr.pool + length (constants_in lines)
    pub few : pr.code + pr.pool ≤ 65536 → pr'.code + pr'.pool ≤ 65536
    pub start : start_from (name_in t) ls lines ≡ start_in (name_in t) ls lines
    pub first : Low ls → start_in (name_in t) ls lines < 1048576
    pub kept : pr.stacked ≡ true → pr'.stack ≡ pr.stack
    pub stack : pr.stacked ≡ false → pr.stack ≡ 1048575 → pr'.stack ≡ stack_in lines
    pub pointer : stack_in lines < 1048576
    pub low : (p : ℕ) → pr.code + pr.pool ≤ 65536 → Low (labels_in p (pr.code + pr.pool) lines)

  nothing : (pr : Progress) → Ran pr pr []
  nothing pr = record {
    words = refl;
    late = λ e. refl;
    code = omega arith;
    pool = omega arith;
    few = λ h. h;
    start = refl;
    first = λ h. omega arith;
    kept = λ e. refl;
    stack = λ e h. h;
    pointer = omega arith;
    low = λ p h. tt;
  }

  module _ (pr pr' : Progress) (l : List ℕ) (rest : List (List ℕ)) (yes : Passing pr (line_parts l)) (more : Ran (after pr (line_parts l)) pr' rest) where
    abbrev o : Option Mnemonic
    o = named (line_parts l).next

    abbrev ws : List Shown
    ws = (line_parts l).operands

    ordered : ((is is_stack o && (pr.begun || pr.stacked)) ≡ false) × ((is is_code o && pr.constants) ≡ false)
    ordered = in_order pr (has_words (line_parts l)) o yes.order

    more_words : words_from (name_in t) ls (l ∷ rest) ≡ code_in (name_in t) ls (l ∷ rest) ++ constants_in (l ∷ rest)
    more_words =
        ap (λ x. put_by (name_in t) ls x ++ words_from (name_in t) ls rest) yes.says
        ∙ ap (λ x. x ++ words_from (name_in t) ls rest) (puts t ls o ws)
        ∙ ap (λ x. (code_by (name_in t) ls o ws ++ constants_by o ws) ++ x) more.words
        ∙ sorts t ls o ws (code_in (name_in t) ls rest) (constants_in rest) (λ e. more.late (or_right pr.constants (is is_constant o) e))

    more_late : pr.constants ≡ true → code_in (name_in t) ls (l ∷ rest) ≡ []
    more_late e = ap (λ x. x ++ code_in (name_in t) ls rest) (no_code t ls o ws (other (is is_code o) pr.constants ordered.1 e)) ∙ more.late (or_left pr.constants (is is_constant o) e)

    more_code : pr'.code ≡ pr.code + length (code_in (name_in t) ls (l ∷ rest))
    more_code =
        let n : code_words (statement_in (line_parts l)) ≡ length (line_code (name_in t) ls l) = ap code_words yes.says ∙ code_count t ls o ws in
        let all = length-append (line_code (name_in t) ls l) (code_in (name_in t) ls rest) in
        let next = more.code in
        omega arith

    more_pool : pr'.pool ≡ pr.pool + length (constants_in (l ∷ rest))
    more_pool =
        let n : data_words (statement_in (line_parts l)) ≡ length (line_constants l) = ap data_words yes.says ∙ constant_count o ws in
        let all = length-append (line_constants l) (constants_in rest) in
        let next = more.pool in
        omega arith

    stack_after_is : (after pr (line_parts l)).stack ≡ stack_by o ws pr.stack
    stack_after_is = ap (stack_after pr.stack) yes.says ∙ stacks o ws pr.stack

    more_kept : pr.stacked ≡ true → pr'.stack ≡ pr.stack
    more_kept e =
        more.kept (or_left pr.stacked (is is_stack o) e) ∙ stack_after_is
        ∙ no_stack o ws pr.stack (other (is is_stack o) (pr.begun || pr.stacked) ordered.0 (or_right pr.begun pr.stacked e))

    more_stack : pr.stacked ≡ false → pr.stack ≡ 1048575 → pr'.stack ≡ stack_in (l ∷ rest)
    more_stack e h = ⊎_elim
        (λ (is_one : is is_stack o ≡ true). more.kept (or_right pr.stacked (is is_stack o) is_one) ∙ stack_after_is ∙ is_stack_any o ws pr.stack (stack_in rest) is_one)
        (λ (is_none : is is_stack o ≡ false). more.stack (or_from pr.stacked (is is_stack o) e is_none) (stack_after_is ∙ no_stack o ws pr.stack is_none ∙ h) ∙ sym (no_stack o ws (stack_in rest) is_none))
        (cases_Bool (is is_stack o))

    more_low : (p : ℕ) → pr.code + pr.pool ≤ 65536 → Low (labels_in p (pr.code + pr.pool) (l ∷ rest))
    more_low p h =
        low_entry (p + blanks (code_of l)) (pr.code + pr.pool) (line_parts l).label (labels_in (p + length l + 1) (pr.code + pr.pool + count_on l) rest) h
        (subst (λ k. Low (labels_in (p + length l + 1) k rest)) yes.counts (more.low (p + length l + 1) yes.few))

    one_more : Ran pr pr' (l ∷ rest)
    one_more = record {
      words = more_words;
      late = more_late;
      code = more_code;
      pool = more_pool;
      few = λ h. more.few yes.few;
      start = ap (λ x. start_said (name_in t) ls x (start_from (name_in t) ls rest)) yes.says ∙ starts t ls o ws (start_from (name_in t) ls rest) ∙ ap (start_by (name_in t) ls o ws) more.start;
      first = λ h. start_low t ls o ws (start_in (name_in t) ls rest) yes.right h (more.first h);
      kept = more_kept;
      stack = more_stack;
      pointer = stack_low o ws (stack_in rest) yes.right more.pointer;
      low = more_low;
    }

  -- a line that is not refused, and what follows it
  pub goes_on : (n : ℕ) (held held' : List Label) (o : Option Question) (next : Outcome) (pr' : Progress) → on_line n held o next ≡ passed held' pr' → (o ≡ None) × (next ≡ passed held' pr')
  goes_on n held held' (Some q) next pr' e = let z : ◌≡◌ {A = ℕ} 0 1 = cc in absurd (omega arith)
  goes_on n held held' None next pr' e = (refl, e)

  pub ran : (cap : ℕ) (lines : List (List ℕ)) (held held' : List Label) (pr pr' : Progress) (n p : ℕ) → run_from (name_in t) cap held pr n p lines ≡ passed held' pr' → Ran pr pr' lines
  ran cap [] held held' pr pr' n p e = let same : pr ≡ pr' = cc in subst (λ x. Ran pr x []) same (nothing pr)
  ran cap (l ∷ rest) held held' pr pr' n p e =
      let both = goes_on n held held' (refusal_in (name_in t) cap held pr (line_parts l)) _ pr' e in
      one_more pr pr' l rest (passing t cap held pr (line_parts l) both.0) (ran cap rest _ held' (after pr (line_parts l)) pr' (n + 1) (p + length l + 1) both.1)
