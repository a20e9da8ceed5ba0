-- What a line says, by its words.
use Rattle.std.proofs.Common.{◌≡◌, ℕ, ◌^◌, ◌<◌, true, false, ◌&&◌, ◌||◌, eqb, ltb, List, [], ◌∷◌, map, length, ℤ, pos, is_some, Some, None, codes, decimal, unwrap_or, refl, ap, ◌∙◌, arith}
use lib.Signed.{mag}
use Rattle.std.proofs.lemmas.Bool.{lt-ltb, and_from}
use Rattle.isa.specs.Command.{instruction, encoded}
use Rattle.isa.specs.Operands.{Numbers, rr, ri, rm, j}
use Rattle.isa.specs.Table.{name_of, form_of}
use Rattle.isa.specs.declared.form.Form.{Form}
use Rattle.isa.specs.declared.form.Form.TheVariants.{Rr, Ri, Rm, J}
use Rattle.isa.specs.declared.opcode.Opcode.{Opcode}
use Rattle.lexer.specs.Shown.{Shown, name, number, register, kind_of, sorted, register_number}
use Rattle.lexer.proofs.Again.{High, AllHigh}
use Rattle.listing.specs.Lines.{number_line}
use Rattle.numerals.specs.Natural.{natural}
use Rattle.numerals.specs.Integer.{integer}
use Rattle.numerals.proofs.Round.{natural_decimal}
use Rattle.assembler.specs.Lines.{Parts, parts_of, parts_by, label_of, past_label}
use Rattle.assembler.specs.Mnemonics.{mnemonic_of}
use Rattle.assembler.specs.Operands.{places_in, each, well_formed, in_range, in_bits, is_below, right_count, right_form, right_range}
use Rattle.assembler.specs.Statements.{Meant, code, constant, stack, end, numbers_by, label_by, code_with, statement_by}
use Rattle.assembler.specs.declared.mnemonic.Mnemonic.{Mnemonic}
use Rattle.assembler.specs.declared.mnemonic.Mnemonic.TheVariants.{Command, Word, Uint32, Stack, End}
use Rattle.roundtrip.proofs.Commands.{high_from, name_high, name_some, name_kind, name_first, name_means}
use Rattle.roundtrip.proofs.Texts.{decimal_number}

-- the parts of a line with no label
abbrev pub saying : List ℕ → List Shown → Parts
saying nm ops = record { label = None; next = Some (name nm); operands = ops }

-- a line of these words has a mnemonic and a meaning, and gets a yes to questions 7, 8 and 9
pub record Says (ws : List (List ℕ)) (mn : Mnemonic) (m : Meant) : Type 0 where
  pub high : AllHigh ws
  pub first : List ℕ
  pub operands : List Shown
  pub parts : parts_of ws ≡ saying first operands
  pub named : mnemonic_of first ≡ Some mn
  pub count : right_count mn operands ≡ true
  pub form : right_form mn operands ≡ true
  pub range : right_range mn operands ≡ true
  pub means : statement_by mn operands ≡ m

parts_by_words : (nm : List ℕ) (rest : List (List ℕ)) (ops : List Shown) → sorted true nm ≡ name nm → kind_of nm ≡ name nm → map kind_of rest ≡ ops → parts_of (nm ∷ rest) ≡ saying nm ops
parts_by_words nm rest ops first kind e =
    ap (λ v. parts_by (label_of (Some v)) (past_label (label_of (Some v)) (nm ∷ rest))) first
    ∙ ap (λ v. record { label = None; next = Some v; operands = map kind_of rest }) kind
    ∙ ap (saying nm) e

-- operands of a form, and the numbers that they are
pub record Fitting (f : Form) (ops : List Shown) (n : Numbers) : Type 0 where
  pub count : eqb (length ops) (length (places_in f)) ≡ true
  pub form : each well_formed (places_in f) ops ≡ true
  pub range : each in_range (places_in f) ops ≡ true
  pub numbers : numbers_by f ops ≡ n
  pub label : label_by f ops ≡ None

pub fitting_rr : (x y z : List ℕ) (a b : ℕ) (m : ℤ) → register_number x ≡ Some a → register_number y ≡ Some b → integer z ≡ Some m → mag m < 2 ^ 15
    → Fitting Rr (register x ∷ register y ∷ number z ∷ []) (rr a b m)
fitting_rr x y z a b m ea eb em h = record {
  count = refl;
  form = ap (λ o. is_some o && (is_some (register_number y) && (is_some (integer z) && true))) ea ∙ ap (λ o. is_some o && (is_some (integer z) && true)) eb ∙ ap (λ o. is_some o && true) em;
  range = ap (λ o. in_bits 16 o && true) em ∙ and_from (ltb (mag m) (2 ^ 15)) true (lt-ltb (mag m) (2 ^ 15) h) refl;
  numbers = ap (λ o. rr (unwrap_or o 0) (unwrap_or (register_number y) 0) (unwrap_or (integer z) (pos 0))) ea ∙ ap (λ o. rr a (unwrap_or o 0) (unwrap_or (integer z) (pos 0))) eb ∙ ap (λ o. rr a b (unwrap_or o (pos 0))) em;
  label = refl;
}

pub fitting_ri : (x z : List ℕ) (a : ℕ) (m : ℤ) → register_number x ≡ Some a → integer z ≡ Some m → mag m < 2 ^ 19
    → Fitting Ri (register x ∷ number z ∷ []) (ri a m)
fitting_ri x z a m ea em h = record {
  count = refl;
  form = ap (λ o. is_some o && (is_some (integer z) && true)) ea ∙ ap (λ o. is_some o && true) em;
  range = ap (λ o. in_bits 20 o && true) em ∙ and_from (ltb (mag m) (2 ^ 19)) true (lt-ltb (mag m) (2 ^ 19) h) refl;
  numbers = ap (λ o. ri (unwrap_or o 0) (unwrap_or (integer z) (pos 0))) ea ∙ ap (λ o. ri a (unwrap_or o (pos 0))) em;
  label = refl;
}

pub fitting_rm : (x z : List ℕ) (a n : ℕ) → register_number x ≡ Some a → natural z ≡ Some n → n < 2 ^ 20
    → Fitting Rm (register x ∷ number z ∷ []) (rm a n)
fitting_rm x z a n ea en h = record {
  count = refl;
  form = ap (λ o. is_some o && ((is_some (natural z) || false) && true)) ea ∙ ap (λ o. (is_some o || false) && true) en;
  range = ap (λ o. is_below (2 ^ 20) o && true) en ∙ and_from (ltb n (2 ^ 20)) true (lt-ltb n (2 ^ 20) h) refl;
  numbers = ap (λ o. rm (unwrap_or o 0) (unwrap_or (natural z) 0)) ea ∙ ap (λ o. rm a (unwrap_or o 0)) en;
  label = refl;
}

pub fitting_j : (z : List ℕ) (n : ℕ) → natural z ≡ Some n → n < 2 ^ 20 → Fitting J (number z ∷ []) (j n)
fitting_j z n en h = record {
  count = refl;
  form = ap (λ o. (is_some o || false) && true) en;
  range = ap (λ o. is_below (2 ^ 20) o && true) en ∙ and_from (ltb n (2 ^ 20)) true (lt-ltb n (2 ^ 20) h) refl;
  numbers = ap (λ o. j (unwrap_or o 0)) en;
  label = refl;
}

-- a command's name with operands of its form says the command's word
pub says_command : (o : Opcode) (f : Form) (rest : List (List ℕ)) (ops : List Shown) (n : Numbers) → form_of o ≡ f → AllHigh rest → map kind_of rest ≡ ops → Fitting f ops n
    → Says (name_of o ∷ rest) (Command o) (code (encoded (instruction o n)))
says_command o f rest ops n e high kinds fit = record {
  high = (name_some o, name_high o, high);
  first = name_of o;
  operands = ops;
  parts = parts_by_words (name_of o) rest ops (name_first o) (name_kind o) kinds;
  named = name_means o;
  count = ap (λ g. eqb (length ops) (length (places_in g))) e ∙ fit.count;
  form = ap (λ g. each well_formed (places_in g) ops) e ∙ fit.form;
  range = ap (λ g. each in_range (places_in g) ops) e ∙ fit.range;
  means = ap (λ g. code_with (encoded (instruction o (numbers_by g ops))) (label_by g ops)) e ∙ ap (code_with (encoded (instruction o (numbers_by f ops)))) fit.label ∙ ap (λ k. code (encoded (instruction o k))) fit.numbers;
}

-- a name with a number says what its mnemonic makes of the number
number_line_says : (nm : List ℕ) (mn : Mnemonic) (m : Meant) (n : ℕ) → n < 2 ^ 64 → 0 < length nm → High nm → sorted true nm ≡ name nm → kind_of nm ≡ name nm → mnemonic_of nm ≡ Some mn
    → right_count mn (number (decimal n) ∷ []) ≡ true → right_form mn (number (decimal n) ∷ []) ≡ true → right_range mn (number (decimal n) ∷ []) ≡ true → statement_by mn (number (decimal n) ∷ []) ≡ m
    → Says (number_line nm n) mn m
number_line_says nm mn m n small some high first kind named count form range means =
    let d = decimal_number n small in record {
      high = (some, high, (d.some, d.high, tt));
      first = nm;
      operands = number (decimal n) ∷ [];
      parts = parts_by_words nm (decimal n ∷ []) (number (decimal n) ∷ []) first kind (ap (λ k. k ∷ []) d.kind);
      named = named;
      count = count;
      form = form;
      range = range;
      means = means;
    }

within : (bound n : ℕ) → n < 2 ^ 64 → n < bound → (is_below bound (natural (decimal n)) && true) ≡ true
within bound n small h = ap (λ o. is_below bound o && true) (natural_decimal n small) ∙ and_from (ltb n bound) true (lt-ltb n bound h) refl

pub says_word : (n : ℕ) → n < 2 ^ 32 → Says (number_line (codes "word") n) Word (code n)
unfolding mnemonic_of
says_word n h =
    let is = natural_decimal n (omega arith) in
    number_line_says (codes "word") Word (code n) n (omega arith) (omega arith) (high_from (codes "word") refl) refl refl refl
    refl (ap (λ o. is_some o && true) is) (within (2 ^ 32) n (omega arith) h) (ap (λ o. code (unwrap_or o 0)) is)

pub says_constant : (n : ℕ) → n < 2 ^ 32 → Says (number_line (codes "uint32") n) Uint32 (constant n)
unfolding mnemonic_of
says_constant n h =
    let is = natural_decimal n (omega arith) in
    number_line_says (codes "uint32") Uint32 (constant n) n (omega arith) (omega arith) (high_from (codes "uint32") refl) refl refl refl
    refl (ap (λ o. is_some o && true) is) (within (2 ^ 32) n (omega arith) h) (ap (λ o. constant (unwrap_or o 0)) is)

pub says_stack : (n : ℕ) → n < 2 ^ 20 → Says (number_line (codes "stack") n) Stack (stack n)
unfolding mnemonic_of
says_stack n h =
    let is = natural_decimal n (omega arith) in
    number_line_says (codes "stack") Stack (stack n) n (omega arith) (omega arith) (high_from (codes "stack") refl) refl refl refl
    refl (ap (λ o. is_some o && true) is) (within (2 ^ 20) n (omega arith) h) (ap (λ o. stack (unwrap_or o 0)) is)

pub says_end : (n : ℕ) → n < 2 ^ 20 → Says (number_line (codes "end") n) End (end n)
unfolding mnemonic_of
says_end n h =
    let is = natural_decimal n (omega arith) in
    number_line_says (codes "end") End (end n) n (omega arith) (omega arith) (high_from (codes "end") refl) refl refl refl
    refl (ap (λ o. (is_some o || false) && true) is) (within (2 ^ 20) n (omega arith) h) (ap (λ o. end (unwrap_or o 0)) is)
