-- The lines of a listing get a yes to every question.
use Rattle.std.proofs.Common.{◌≡◌, ℕ, suc, ◌+◌, ◌^◌, ◌<◌, ◌≤◌, Bool, true, false, not, ◌&&◌, ◌||◌, leb, List, [], ◌∷◌, ◌++◌, map, length, is_some, Some, None, codes, Option, sym, refl, ap, ◌∙◌, subst, arith}
use Rattle.std.proofs.lemmas.Bool.{cond-true, and_from, and_left, and_right, not_from_false, le-leb}
use Rattle.executable.specs.declared.segment.Segment.TheVariants.{Code, Constants}
use Rattle.lexer.specs.Text.{words_of, code_of, blanks}
use Rattle.lexer.proofs.Again.{closing, words_of_joined}
use Rattle.listing.proofs.Room.{Words}
use Rattle.listing.specs.Lines.{blank_joined, number_line, word_line}
use Rattle.assembler.specs.Labels.{name_in}
use Rattle.assembler.specs.Assembled.{Outcome, passed, on_line, run_from, fresh}
use Rattle.assembler.specs.Emit.{line_says}
use Rattle.assembler.specs.Lines.{parts_of, statement_in, said_by}
use Rattle.assembler.specs.Mnemonics.{is_stack, is_code, is_constant}
use Rattle.assembler.specs.Operands.{right_count, right_form, right_range}
use Rattle.assembler.specs.Questions.{is, code_words, data_words, of_operands, in_order, refusal_in, labels_after, after, stack_after, is_end}
use Rattle.assembler.specs.Statements.{Meant, code, constant, stack, end}
use Rattle.assembler.specs.declared.mnemonic.Mnemonic.{Mnemonic}
use Rattle.assembler.specs.declared.mnemonic.Mnemonic.TheVariants.{Uint32, Stack, End}
use Rattle.assembler.specs.Progress.{Progress}
use Rattle.roundtrip.proofs.Coded.{word_says}
use Rattle.roundtrip.proofs.Says.{Says, saying, says_constant, says_end, says_stack}

-- the progress where no label waits: whether there was a command or constant, a `stack`, a constant and an `end`; how many code words and constants there are; the stack pointer
abbrev pub state : Bool → Bool → Bool → Bool → ℕ → ℕ → ℕ → Progress
state b d c e k n s = record { waiting = false; begun = b; stacked = d; constants = c; ended = e; code = k; pool = n; stack = s }

-- a line's parts, and its statement, are those that its words say
parts_said : (ws : List (List ℕ)) (mn : Mnemonic) (m : Meant) (s : Says ws mn m) → parts_of (words_of (blank_joined ws)) ≡ saying s.first s.operands
parts_said ws mn m s = ap parts_of (words_of_joined ws s.high) ∙ s.parts

meaning : (ws : List (List ℕ)) (mn : Mnemonic) (m : Meant) (s : Says ws mn m) → statement_in (saying s.first s.operands) ≡ Some m
meaning ws mn m s =
    ap (λ o. said_by o s.operands) s.named
    ∙ cond-true _ _ _ (and_from (right_count mn s.operands) (right_form mn s.operands && right_range mn s.operands) s.count (and_from (right_form mn s.operands) (right_range mn s.operands) s.form s.range))
    ∙ ap Some s.means

pub line_says_is : (ws : List (List ℕ)) (mn : Mnemonic) (m : Meant) → Says ws mn m → line_says (blank_joined ws) ≡ Some m
line_says_is ws mn m s = ap statement_in (parts_said ws mn m s) ∙ meaning ws mn m s

-- the progress after a line with a mnemonic and a meaning
abbrev on : Bool → Bool → Bool → ℕ → ℕ → ℕ → Option Mnemonic → Option Meant → Progress
on b d c k n p o q = state (b || (false || (is is_code o || is is_constant o))) (d || is is_stack o) (c || is is_constant o) (is_end q) (k + code_words q) (n + data_words q) (stack_after p q)

module _ (t : List ℕ) (cap : ℕ) (b d c : Bool) (k n p : ℕ) (ws : List (List ℕ)) (mn : Mnemonic) (m : Meant) (s : Says ws mn m) (once : (is_stack mn && (b || d)) ≡ false) (early : (is_code mn && c) ≡ false) (few : k + n + (code_words (Some m) + data_words (Some m)) ≤ 65536) where
  in_order_yes : in_order (state b d c false k n p) (saying s.first s.operands) ≡ true
  in_order_yes =
      ap (λ o. not (is is_stack o && (b || d)) && not (is is_code o && c)) s.named
      ∙ and_from (not (is_stack mn && (b || d))) (not (is_code mn && c)) (not_from_false (is_stack mn && (b || d)) once) (not_from_false (is_code mn && c) early)

  no_refusal : refusal_in (name_in t) cap [] (state b d c false k n p) (saying s.first s.operands) ≡ None
  no_refusal =
      let l = saying s.first s.operands in
      cond-true _ _ _ (ap is_some s.named)
      ∙ cond-true _ _ _ in_order_yes
      ∙ cond-true _ _ _ (ap (of_operands right_count l) s.named ∙ s.count)
      ∙ cond-true _ _ _ (ap (of_operands right_form l) s.named ∙ s.form)
      ∙ cond-true _ _ _ (ap (of_operands right_range l) s.named ∙ s.range)
      ∙ cond-true _ _ _ (ap (λ o. leb (k + n + (code_words o + data_words o)) 65536) (meaning ws mn m s) ∙ le-leb (k + n + (code_words (Some m) + data_words (Some m))) 65536 few)

  after_said : after (state b d c false k n p) (saying s.first s.operands) ≡ on b d c k n p (Some mn) (Some m)
  after_said = ap (λ o. on b d c k n p o (statement_in (saying s.first s.operands))) s.named ∙ ap (on b d c k n p (Some mn)) (meaning ws mn m s)

  -- the run goes on past the line
  step : (i q : ℕ) (rest : List (List ℕ)) → run_from (name_in t) cap [] (state b d c false k n p) i q (blank_joined ws ∷ rest) ≡ run_from (name_in t) cap [] (on b d c k n p (Some mn) (Some m)) (i + 1) (q + length (blank_joined ws) + 1) rest
  step i q rest =
      let l = blank_joined ws in
      let pr = state b d c false k n p in
      ap (λ x. on_line i [] (refusal_in (name_in t) cap [] pr x) (run_from (name_in t) cap (labels_after (q + blanks (code_of l)) [] pr x.label) (after pr x) (i + 1) (q + length l + 1) rest)) (parts_said ws mn m s)
      ∙ ap (λ r. on_line i [] r (run_from (name_in t) cap [] (after pr (saying s.first s.operands)) (i + 1) (q + length l + 1) rest)) no_refusal
      ∙ ap (λ x. run_from (name_in t) cap [] x (i + 1) (q + length l + 1) rest) after_said

-- the lines pass with no label, so many code words and constants, and the stack pointer
pub record Ends (k n p : ℕ) (o : Outcome) : Type 0 where
  pub begun : Bool
  pub stacked : Bool
  pub constants : Bool
  pub is : o ≡ passed [] (state begun stacked constants true k n p)

ends_same : (k k' n n' p : ℕ) (o : Outcome) → k ≡ k' → n ≡ n' → Ends k n p o → Ends k' n' p o
ends_same k k' n n' p o e f h = subst (λ x. Ends x n' p o) e (subst (λ x. Ends k x p o) f h)

-- the empty line after the last
run_last : (t : List ℕ) (cap p : ℕ) (b d c : Bool) (k n i q : ℕ) → k + n ≤ 65536 → Ends k n p (run_from (name_in t) cap [] (state b d c true k n p) i q ([] ∷ []))
run_last t cap p b d c k n i q few =
    ends_same (k + 0) k (n + 0) n p (run_from (name_in t) cap [] (state b d c true k n p) i q ([] ∷ [])) (omega arith) (omega arith)
    (record {
      begun = b || false;
      stacked = d || false;
      constants = c || false;
      is = ap (λ r. on_line i [] r (passed [] (state (b || false) (d || false) (c || false) true (k + 0) (n + 0) p))) (cond-true _ _ _ (le-leb (k + n + 0) 65536 (omega arith)));
    })

module _ (t : List ℕ) (cap p first : ℕ) (small : first < 2 ^ 20) where
  run_end : (b d c : Bool) (k n i q : ℕ) → k + n ≤ 65536 → Ends k n p (run_from (name_in t) cap [] (state b d c false k n p) i q (closing (number_line (codes "end") first ∷ [])))
  run_end b d c k n i q few =
      let l = number_line (codes "end") first in
      ends_same (k + 0) k (n + 0) n p (run_from (name_in t) cap [] (state b d c false k n p) i q (closing (l ∷ []))) (omega arith) (omega arith)
      (subst (Ends (k + 0) (n + 0) p) (sym (step t cap b d c k n p l End (end first) (says_end first small) refl refl (omega arith) i q ([] ∷ [])))
      (run_last t cap p (b || false) (d || false) (c || false) (k + 0) (n + 0) (i + 1) (q + length (blank_joined l) + 1) (omega arith)))

  run_constants : (ks : List ℕ) (b d c : Bool) (k n i q : ℕ) → Words ks → k + (n + length ks) ≤ 65536
      → Ends k (n + length ks) p (run_from (name_in t) cap [] (state b d c false k n p) i q (closing (map (word_line Constants) ks ++ (number_line (codes "end") first ∷ []))))
  run_constants [] b d c k n i q h few =
      ends_same k k n (n + 0) p (run_from (name_in t) cap [] (state b d c false k n p) i q (closing (number_line (codes "end") first ∷ []))) refl (omega arith) (run_end b d c k n i q (omega arith))
  run_constants (w ∷ ks) b d c k n i q h few =
      let l = word_line Constants w in
      let rest = closing (map (word_line Constants) ks ++ (number_line (codes "end") first ∷ [])) in
      ends_same (k + 0) k (n + 1 + length ks) (n + suc (length ks)) p (run_from (name_in t) cap [] (state b d c false k n p) i q (blank_joined l ∷ rest)) (omega arith) (omega arith)
      (subst (Ends (k + 0) (n + 1 + length ks) p) (sym (step t cap b d c k n p l Uint32 (constant w) (says_constant w h.0) refl refl (omega arith) i q rest))
      (run_constants ks (b || true) (d || false) (c || true) (k + 0) (n + 1) (i + 1) (q + length (blank_joined l) + 1) h.1 (omega arith)))

  run_code : (cs ks : List ℕ) (b d : Bool) (k i q : ℕ) → Words cs → Words ks → k + length cs + length ks ≤ 65536
      → Ends (k + length cs) (length ks) p (run_from (name_in t) cap [] (state b d false false k 0 p) i q (closing (map (word_line Code) cs ++ (map (word_line Constants) ks ++ (number_line (codes "end") first ∷ [])))))
  run_code [] ks b d k i q h g few =
      ends_same k (k + 0) (0 + length ks) (length ks) p (run_from (name_in t) cap [] (state b d false false k 0 p) i q (closing (map (word_line Constants) ks ++ (number_line (codes "end") first ∷ [])))) (omega arith) (omega arith)
      (run_constants ks b d false k 0 i q g (omega arith))
  run_code (w ∷ cs) ks b d k i q h g few =
      let l = word_line Code w in
      let rest = closing (map (word_line Code) cs ++ (map (word_line Constants) ks ++ (number_line (codes "end") first ∷ []))) in
      let s = word_says w h.0 in
      let mn = s.mnemonic in
      let b' = b || (false || (is_code mn || is_constant mn)) in
      let go = step t cap b d false k 0 p l mn (code w) s.says (and_left (is_stack mn) (b || d) s.no_stack) (and_right (is_code mn) false refl) (omega arith) i q rest
      ∙ ap (λ x. run_from (name_in t) cap [] (state b' (d || is_stack mn) x false (k + 1) 0 p) (i + 1) (q + length (blank_joined l) + 1) rest) s.no_constant in
      ends_same (k + 1 + length cs) (k + suc (length cs)) (length ks) (length ks) p (run_from (name_in t) cap [] (state b d false false k 0 p) i q (blank_joined l ∷ rest)) (omega arith) refl
      (subst (Ends (k + 1 + length cs) (length ks) p) (sym go)
      (run_code cs ks b' (d || is_stack mn) (k + 1) (i + 1) (q + length (blank_joined l) + 1) h.1 g (omega arith)))

-- the lines of a listing pass
pub run_all : (t : List ℕ) (cap s first : ℕ) (cs ks : List ℕ) → s < 2 ^ 20 → first < 2 ^ 20 → Words cs → Words ks → length cs + length ks ≤ 65536
    → Ends (length cs) (length ks) s (run_from (name_in t) cap [] fresh 1 0 (closing (number_line (codes "stack") s ∷ (map (word_line Code) cs ++ (map (word_line Constants) ks ++ (number_line (codes "end") first ∷ []))))))
run_all t cap s first cs ks hs hf hc hk few =
    let l = number_line (codes "stack") s in
    let rest = closing (map (word_line Code) cs ++ (map (word_line Constants) ks ++ (number_line (codes "end") first ∷ []))) in
    ends_same (0 + length cs) (length cs) (length ks) (length ks) s (run_from (name_in t) cap [] fresh 1 0 (blank_joined l ∷ rest)) (omega arith) refl
    (subst (Ends (0 + length cs) (length ks) s) (sym (step t cap false false false 0 0 1048575 l Stack (stack s) (says_stack s hs) refl refl (omega arith) 1 0 rest))
    (run_code t cap s first hf cs ks false true 0 2 (0 + length (blank_joined l) + 1) hc hk (omega arith)))
