-- What lines that pass leave behind is what stands on them.
use Rattle.std.proofs.Common.{◌≡◌, ℕ, ◌+◌, Bool, true, false, cond, not, ◌&&◌, ◌||◌, List, [], ◌∷◌, length, map, filter, is_some, Some, None, Option, sym, refl, ap, ◌∙◌, subst, arith}
use Rattle.std.proofs.lemmas.Bool.{true≢false, false≢true}
use Rattle.lexer.specs.Shown.{Shown}
use Rattle.assembler.specs.Labels.{name_in}
use Rattle.assembler.specs.Assembled.{passed, run_from, fresh}
use Rattle.assembler.specs.Lines.{Parts, named, statement_in}
use Rattle.assembler.specs.Mnemonics.{is_code, is_constant, is_stack}
use Rattle.assembler.specs.Progress.{Progress}
use Rattle.assembler.specs.Questions.{has_words, is, refusal_in, code_words, is_end as ends, after}
use Rattle.assembler.specs.Statements.{label_by}
use Rattle.isa.specs.Table.{form_of}
use Rattle.assembler.specs.Operands.{label_in, operand, natural_at}
use Rattle.assembler.specs.declared.label.Label.{Label}
use Rattle.assembler.specs.declared.mnemonic.Mnemonic.{Mnemonic}
use Rattle.assembler.specs.declared.mnemonic.Mnemonic.TheVariants.{Command, Word, Uint32, Text, Stack, End}
use Rattle.builder.specs.Source.{line_parts, constants_in}
use Rattle.builder.specs.Standing.{some_line, names, is_end, begins, last_of, last_with_words, label_alone, waits, standing_on}
use Rattle.builder.proofs.Passing.{Passing, passing}
use Rattle.builder.proofs.Ran.{goes_on, ran}
use Rattle.builder.proofs.Said.{stated_by, by_code_with, end_by}

-- whether a label waits behind a line with words is settled by that line
settles : (w a b : Bool) → (a || b) ≡ true → (not b && (w || a)) ≡ (a && not b)
settles w true true e = refl
settles true true false e = refl
settles false true false e = refl
settles w false true e = refl
settles w false false e = absurd (false≢true e)

-- a line without words leaves it as it was
leaves : (w a b : Bool) → (a || b) ≡ false → (not b && (w || a)) ≡ w
leaves w true b e = absurd (true≢false e)
leaves w false true e = absurd (true≢false e)
leaves true false false e = refl
leaves false false false e = refl

-- or: with false, and of three
or_false : (a : Bool) → a ≡ (a || false)
or_false true = refl
or_false false = refl

or_more : (a b c : Bool) → ((a || b) || c) ≡ (a || (b || c))
or_more true b c = refl
or_more false b c = refl

-- whether a label waits behind lines, where it is said whether one waited in front of them
abbrev waits_past : Bool → Option Parts → Bool
waits_past w None = w
waits_past w (Some l) = label_alone l

-- behind a line with words it does not matter whether a label waited in front
any_before : (v w : Bool) (l : Parts) (ls : List Parts) → waits_past v (last_of (l ∷ ls)) ≡ waits_past w (last_of (l ∷ ls))
any_before v w l [] = refl
any_before v w l (m ∷ ls) = any_before v w m ls

-- one more line with words in front
line_before : (w : Bool) (l : Parts) (ls : List Parts) → waits_past w (last_of (l ∷ ls)) ≡ waits_past (label_alone l) (last_of ls)
line_before w l [] = refl
line_before w l (m ∷ ls) = any_before w (label_alone l) m ls

-- one more line in front, with words or without
waits_step : (w : Bool) (l : Parts) (ls : List Parts) (b : Bool) → has_words l ≡ b → waits_past (not (is_some l.next) && (w || is_some l.label)) (last_of ls) ≡ waits_past w (last_of (cond b (l ∷ ls) ls))
waits_step w l ls true e = ap (λ x. waits_past x (last_of ls)) (settles w (is_some l.label) (is_some l.next) e) ∙ sym (line_before w l ls)
waits_step w l ls false e = ap (λ x. waits_past x (last_of ls)) (leaves w (is_some l.label) (is_some l.next) e)

-- a statement is `end` where the line's name is
end_is : (o : Option Mnemonic) (ws : List Shown) → ends (stated_by o ws) ≡ is is_end o
end_is None ws = refl
end_is (Some (Command o)) ws = by_code_with ends false (λ w. refl) (λ w l. refl) _ (label_by (form_of o) ws)
end_is (Some Word) ws = refl
end_is (Some Uint32) ws = refl
end_is (Some Text) ws = refl
end_is (Some Stack) ws = refl
end_is (Some End) ws = end_by ends true (λ n. refl) (λ l. refl) (natural_at 0 ws) (label_in (operand 0 ws))

-- a statement has a word of code where the line's name is a command or `word`
code_is : (o : Option Mnemonic) (ws : List Shown) → code_words (stated_by o ws) ≡ cond (is is_code o) 1 0
code_is None ws = refl
code_is (Some (Command o)) ws = by_code_with code_words 1 (λ w. refl) (λ w l. refl) _ (label_by (form_of o) ws)
code_is (Some Word) ws = refl
code_is (Some Uint32) ws = refl
code_is (Some Text) ws = refl
code_is (Some Stack) ws = refl
code_is (Some End) ws = end_by code_words 0 (λ n. refl) (λ l. refl) (natural_at 0 ws) (label_in (operand 0 ws))

-- how many lines have a command or `word`
abbrev code_lines : List (List ℕ) → ℕ
code_lines lines = length (filter (λ l. names is_code (line_parts l)) lines)

-- a list with one more line, or without it
one_longer : (b : Bool) (l : List ℕ) (lines : List (List ℕ)) → length (cond b (l ∷ lines) lines) ≡ cond b 1 0 + length lines
one_longer true l lines = omega arith
one_longer false l lines = omega arith

-- what lines add that lead from one progress to another
record Stood (pr pr' : Progress) (lines : List (List ℕ)) : Type 0 where
  waiting : pr'.waiting ≡ waits_past pr.waiting (last_with_words lines)
  begun : pr'.begun ≡ (pr.begun || some_line begins lines)
  stacked : pr'.stacked ≡ (pr.stacked || some_line (names is_stack) lines)
  constants : pr'.constants ≡ (pr.constants || some_line (names is_constant) lines)
  ended : pr'.ended ≡ (pr.ended || some_line (names is_end) lines)
  code : pr'.code ≡ pr.code + code_lines lines

-- no lines add nothing
none_stood : (pr : Progress) → Stood pr pr []
none_stood pr = record {
  waiting = refl;
  begun = or_false pr.begun;
  stacked = or_false pr.stacked;
  constants = or_false pr.constants;
  ended = or_false pr.ended;
  code = omega arith;
}

-- one more line in front that is not refused
one_more : (pr pr' : Progress) (l : List ℕ) (rest : List (List ℕ)) → Passing pr (line_parts l) → Stood (after pr (line_parts l)) pr' rest → Stood pr pr' (l ∷ rest)
one_more pr pr' l rest right more =
    let m = named (line_parts l).next in
    let ws = (line_parts l).operands in
    let ended_is : ends (statement_in (line_parts l)) ≡ is is_end m = ap ends right.says ∙ end_is m ws in
    let words_are : code_words (statement_in (line_parts l)) ≡ cond (is is_code m) 1 0 = ap code_words right.says ∙ code_is m ws in
    let longer = one_longer (is is_code m) l (filter (λ x. names is_code (line_parts x)) rest) in
    let next = more.code in
    record {
      waiting = more.waiting ∙ waits_step pr.waiting (line_parts l) (filter has_words (map line_parts rest)) (has_words (line_parts l)) refl;
      begun = more.begun ∙ or_more pr.begun (begins (line_parts l)) (some_line begins rest);
      stacked = more.stacked ∙ or_more pr.stacked (is is_stack m) (some_line (names is_stack) rest);
      constants = more.constants ∙ or_more pr.constants (is is_constant m) (some_line (names is_constant) rest);
      ended = more.ended ∙ ap (λ x. (pr.ended || x) || some_line (names is_end) rest) ended_is ∙ or_more pr.ended (is is_end m) (some_line (names is_end) rest);
      code = omega arith;
    }

module _ (t : List ℕ) (cap : ℕ) where
  -- lines that pass lead so from the progress in front of them to the one behind
  stood : (lines : List (List ℕ)) (held held' : List Label) (pr pr' : Progress) (n p : ℕ) → run_from (name_in t) cap held pr n p lines ≡ passed held' pr' → Stood pr pr' lines
  stood [] held held' pr pr' n p e = let same : pr ≡ pr' = cc in subst (λ x. Stood pr x []) same (none_stood pr)
  stood (l ∷ rest) held held' pr pr' n p e =
      let both = goes_on t held n held held' (refusal_in (name_in t) cap held pr (line_parts l)) _ pr' e in
      one_more pr pr' l rest (passing t cap held pr (line_parts l) both.0) (stood rest _ held' (after pr (line_parts l)) pr' (n + 1) _ both.1)

  -- a progress by its parts
  abbrev made : Bool → Bool → Bool → Bool → Bool → ℕ → ℕ → ℕ → Progress
  made w b s k e c p d = record { waiting = w; begun = b; stacked = s; constants = k; ended = e; code = c; pool = p; stack = d }

  -- before the first line no label waits
  fresh_waits : (o : Option Parts) → waits_past false o ≡ waits o
  fresh_waits None = refl
  fresh_waits (Some l) = refl

  -- what the lines of a text leave where they pass is what stands on them
  pub stands_on : (lines : List (List ℕ)) (held : List Label) (pr : Progress) → run_from (name_in t) cap [] fresh 1 0 lines ≡ passed held pr → pr ≡ standing_on lines
  stands_on lines held pr e =
      let s = stood lines [] held fresh pr 1 0 e in
      let r = ran t [] cap lines [] held fresh pr 1 0 e in
      let code_same : pr.code ≡ code_lines lines = let h = s.code in omega arith in
      let pool_same : pr.pool ≡ length (constants_in lines) = let h = r.pool in omega arith in
      ap (λ x. made x pr.begun pr.stacked pr.constants pr.ended pr.code pr.pool pr.stack) (s.waiting ∙ fresh_waits (last_with_words lines))
      ∙ ap (λ x. made (standing_on lines).waiting x pr.stacked pr.constants pr.ended pr.code pr.pool pr.stack) s.begun
      ∙ ap (λ x. made (standing_on lines).waiting (standing_on lines).begun x pr.constants pr.ended pr.code pr.pool pr.stack) s.stacked
      ∙ ap (λ x. made (standing_on lines).waiting (standing_on lines).begun (standing_on lines).stacked x pr.ended pr.code pr.pool pr.stack) s.constants
      ∙ ap (λ x. made (standing_on lines).waiting (standing_on lines).begun (standing_on lines).stacked (standing_on lines).constants x pr.code pr.pool pr.stack) s.ended
      ∙ ap (λ x. made (standing_on lines).waiting (standing_on lines).begun (standing_on lines).stacked (standing_on lines).constants (standing_on lines).ended x pr.pool pr.stack) code_same
      ∙ ap (λ x. made (standing_on lines).waiting (standing_on lines).begun (standing_on lines).stacked (standing_on lines).constants (standing_on lines).ended (code_lines lines) x pr.stack) pool_same
      ∙ ap (λ x. made (standing_on lines).waiting (standing_on lines).begun (standing_on lines).stacked (standing_on lines).constants (standing_on lines).ended (code_lines lines) (length (constants_in lines)) x) (r.stack refl refl)
