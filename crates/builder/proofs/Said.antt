-- What a name and operands say, where questions 7, 8 and 9 get a yes.
use Rattle.std.proofs.Common.{◌≡◌, ℕ, ◌+◌, true, ◌&&◌, List, [], ◌∷◌, ◌++◌, length, Some, None, Option, unwrap_or, sym, refl, ap, ◌∙◌, arith, length-append}
use Rattle.std.proofs.lemmas.Bool.{cond-true, and_from}
use Rattle.isa.specs.Command.{instruction, encoded}
use Rattle.isa.specs.Operands.{rm, j}
use Rattle.isa.specs.Table.{form_of}
use Rattle.isa.specs.declared.form.Form.{Form}
use Rattle.isa.specs.declared.form.Form.TheVariants.{Rr, Ri, Rm, J}
use Rattle.isa.specs.declared.opcode.Opcode.{Opcode}
use Rattle.lexer.specs.Shown.{Shown, label, name, register, number, string}
use Rattle.assembler.specs.Labels.{name_in}
use Rattle.assembler.specs.Emit.{address_of, put_by, start_by as start_said}
use Rattle.assembler.specs.Lines.{said_by}
use Rattle.assembler.specs.Operands.{label_in, natural_in, operand, register_at, natural_at, characters_at, right_count, right_form, right_range}
use Rattle.assembler.specs.Questions.{code_words, data_words, stack_after}
use Rattle.assembler.specs.Statements.{Meant, code, labelled, end, end_at, code_with, end_with, label_by, statement_by, numbers_by as numbers_said}
use Rattle.assembler.specs.declared.label.Label.{Label}
use Rattle.assembler.specs.declared.mnemonic.Mnemonic.{Mnemonic}
use Rattle.assembler.specs.declared.mnemonic.Mnemonic.TheVariants.{Command, Word, Uint32, Text, Stack, End}
use Rattle.builder.specs.Source.{address_by, numbers_by, code_by, constants_by, stack_by, start_by, count_by}

-- a yes to questions 7, 8 and 9
abbrev pub Right : Option Mnemonic → List Shown → Type 0
Right None ws = Unit {0}
Right (Some m) ws = (right_count m ws ≡ true) × (right_form m ws ≡ true) × (right_range m ws ≡ true)

abbrev pub stated_by : Option Mnemonic → List Shown → Option Meant
stated_by None ws = None
stated_by (Some m) ws = Some (statement_by m ws)

pub said_is : (o : Option Mnemonic) (ws : List Shown) → Right o ws → said_by o ws ≡ stated_by o ws
said_is None ws r = refl
said_is (Some m) ws r = cond-true _ _ _ (and_from (right_count m ws) (right_form m ws && right_range m ws) r.0 (and_from (right_form m ws) (right_range m ws) r.1 r.2))

-- what is the same of a command with a label and without
pub by_code_with : {X : Type 0} (f : Option Meant → X) (x : X) → ((w : ℕ) → f (Some (code w)) ≡ x) → ((w : ℕ) (l : List ℕ) → f (Some (labelled w l)) ≡ x) → (w : ℕ) (o : Option (List ℕ)) → f (Some (code_with w o)) ≡ x
by_code_with f x plain with-label w None = plain w
by_code_with f x plain with-label w (Some l) = with-label w l

pub end_by : {X : Type 0} (f : Option Meant → X) (x : X) → ((n : ℕ) → f (Some (end n)) ≡ x) → ((l : List ℕ) → f (Some (end_at l)) ≡ x) → (n : ℕ) (o : Option (List ℕ)) → f (Some (end_with n o)) ≡ x
end_by f x plain with-label n None = plain n
end_by f x plain with-label n (Some l) = with-label l

-- where a label stands, no number does
no_number : (s : Shown) (l : List ℕ) → label_in s ≡ Some l → unwrap_or (natural_in s) 0 ≡ 0
no_number (label w) l e = refl
no_number (name w) l e = refl
no_number (register w) l e = refl
no_number (number w) l e = let z : ◌≡◌ {A = ℕ} 0 1 = cc in absurd (omega arith)
no_number (string w) l e = refl

module _ (t : List ℕ) (ls : List Label) where
  -- a label's address added to the word with 0 is the word with that address
  put_with : (g : ℕ → ℕ) → ((a : ℕ) → g 0 + a ≡ g a) → (n : ℕ) (o : Option (List ℕ)) → ((l : List ℕ) → o ≡ Some l → n ≡ 0) → put_by (name_in t) ls (Some (code_with (g n) o)) ≡ g (address_by (name_in t) ls o n) ∷ []
  put_with g law n None zero = refl
  put_with g law n (Some l) zero = ap (λ x. x ∷ []) (ap (λ k. g k + address_of (name_in t) ls l) (zero l refl) ∙ law (address_of (name_in t) ls l))

  put_form : (o : Opcode) (f : Form) (ws : List Shown) → put_by (name_in t) ls (Some (code_with (encoded (instruction o (numbers_said f ws))) (label_by f ws))) ≡ encoded (instruction o (numbers_by (name_in t) ls f ws)) ∷ []
  put_form o Rr ws = refl
  put_form o Ri ws = refl
  put_form o Rm ws = put_with (λ n. encoded (instruction o (rm (register_at 0 ws) n))) (λ a. omega arith) (natural_at 1 ws) (label_in (operand 1 ws)) (no_number (operand 1 ws))
  put_form o J ws = put_with (λ n. encoded (instruction o (j n))) (λ a. omega arith) (natural_at 0 ws) (label_in (operand 0 ws)) (no_number (operand 0 ws))

  -- the words are the code and the constants
  pub puts : (o : Option Mnemonic) (ws : List Shown) → put_by (name_in t) ls (stated_by o ws) ≡ code_by (name_in t) ls o ws ++ constants_by o ws
  puts None ws = refl
  puts (Some (Command o)) ws = put_form o (form_of o) ws
  puts (Some Word) ws = refl
  puts (Some Uint32) ws = refl
  puts (Some Text) ws = refl
  puts (Some Stack) ws = refl
  puts (Some End) ws = end_by (put_by (name_in t) ls) [] (λ n. refl) (λ l. refl) (natural_at 0 ws) (label_in (operand 0 ws))

  pub code_count : (o : Option Mnemonic) (ws : List Shown) → code_words (stated_by o ws) ≡ length (code_by (name_in t) ls o ws)
  code_count None ws = refl
  code_count (Some (Command o)) ws = by_code_with code_words 1 (λ w. refl) (λ w l. refl) _ (label_by (form_of o) ws)
  code_count (Some Word) ws = refl
  code_count (Some Uint32) ws = refl
  code_count (Some Text) ws = refl
  code_count (Some Stack) ws = refl
  code_count (Some End) ws = end_by code_words 0 (λ n. refl) (λ l. refl) (natural_at 0 ws) (label_in (operand 0 ws))

  start_end : (n d : ℕ) (o : Option (List ℕ)) → start_said (name_in t) ls (Some (end_with n o)) d ≡ address_by (name_in t) ls o n
  start_end n d None = refl
  start_end n d (Some l) = refl

  pub starts : (o : Option Mnemonic) (ws : List Shown) (d : ℕ) → start_said (name_in t) ls (stated_by o ws) d ≡ start_by (name_in t) ls o ws d
  starts None ws d = refl
  starts (Some (Command o)) ws d = by_code_with (λ x. start_said (name_in t) ls x d) d (λ w. refl) (λ w l. refl) _ (label_by (form_of o) ws)
  starts (Some Word) ws d = refl
  starts (Some Uint32) ws d = refl
  starts (Some Text) ws d = refl
  starts (Some Stack) ws d = refl
  starts (Some End) ws d = start_end (natural_at 0 ws) d (label_in (operand 0 ws))

pub constant_count : (o : Option Mnemonic) (ws : List Shown) → data_words (stated_by o ws) ≡ length (constants_by o ws)
constant_count None ws = refl
constant_count (Some (Command o)) ws = by_code_with data_words 0 (λ w. refl) (λ w l. refl) _ (label_by (form_of o) ws)
constant_count (Some Word) ws = refl
constant_count (Some Uint32) ws = refl
constant_count (Some Text) ws = sym (length-append (characters_at 0 ws) (0 ∷ []))
constant_count (Some Stack) ws = refl
constant_count (Some End) ws = end_by data_words 0 (λ n. refl) (λ l. refl) (natural_at 0 ws) (label_in (operand 0 ws))

pub word_count : (o : Option Mnemonic) (ws : List Shown) → code_words (stated_by o ws) + data_words (stated_by o ws) ≡ count_by o ws
word_count None ws = refl
word_count (Some (Command o)) ws = by_code_with (λ x. code_words x + data_words x) 1 (λ w. refl) (λ w l. refl) _ (label_by (form_of o) ws)
word_count (Some Word) ws = refl
word_count (Some Uint32) ws = refl
word_count (Some Text) ws = omega arith
word_count (Some Stack) ws = refl
word_count (Some End) ws = end_by (λ x. code_words x + data_words x) 0 (λ n. refl) (λ l. refl) (natural_at 0 ws) (label_in (operand 0 ws))

pub stacks : (o : Option Mnemonic) (ws : List Shown) (n : ℕ) → stack_after n (stated_by o ws) ≡ stack_by o ws n
stacks None ws n = refl
stacks (Some (Command o)) ws n = by_code_with (stack_after n) n (λ w. refl) (λ w l. refl) _ (label_by (form_of o) ws)
stacks (Some Word) ws n = refl
stacks (Some Uint32) ws n = refl
stacks (Some Text) ws n = refl
stacks (Some Stack) ws n = refl
stacks (Some End) ws n = end_by (stack_after n) n (λ k. refl) (λ l. refl) (natural_at 0 ws) (label_in (operand 0 ws))
