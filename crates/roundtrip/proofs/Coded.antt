-- The line of a code word says that word.
use Rattle.std.proofs.Common.{◌≡◌, ℕ, ◌+◌, ◌-◌, ◌*◌, ◌%◌, ◌^◌, ◌<◌, ◌≤◌, false, eqb, ltb, List, [], ◌∷◌, map, get_or, pos, negsuc, Some, None, decimal, Option, sym, refl, ap, ◌∙◌, subst, ⊎_elim, arith}
use lib.Signed.{mag}
use Rattle.std.specs.Fmt as written
use Rattle.std.proofs.lemmas.Option.{slice_get-get_or, slice_get_past}
use Rattle.std.proofs.lemmas.Bool.{cond_both, cases_lt, eqb-true}
use Rattle.isa.specs.Command.{instruction, encoded, operands_in, with_operands, with_opcode}
use Rattle.isa.specs.Fields.{code_field, first_field, source_field, modifier_field, immediate_field, address_field, signed, bits}
use Rattle.isa.specs.Operands.{Numbers, rr, ri, rm, j}
use Rattle.isa.specs.Table.{code_of, name_of, form_of, opcodes, opcode_at}
use Rattle.isa.specs.declared.form.Form.{Form}
use Rattle.isa.specs.declared.form.Form.TheVariants.{Rr, Ri, Rm, J}
use Rattle.isa.specs.declared.opcode.Opcode.{Opcode}
use Rattle.isa.specs.declared.opcode.Opcode.TheVariants.{Halt}
use Rattle.isa.proofs.Rows.{code_at}
use Rattle.lexer.specs.Shown.{Shown, kind_of, number, register}
use Rattle.listing.proofs.Room.{mag_signed}
use Rattle.listing.specs.Lines.{register_name, code_line, word_line}
use Rattle.executable.specs.declared.segment.Segment.TheVariants.{Code}
use Rattle.numerals.proofs.Round.{natural_decimal}
use Rattle.assembler.specs.Mnemonics.{is_stack, is_constant}
use Rattle.assembler.specs.Statements.{code}
use Rattle.assembler.specs.declared.mnemonic.Mnemonic.{Mnemonic}
use Rattle.assembler.specs.declared.mnemonic.Mnemonic.TheVariants.{Command, Word}
use Rattle.roundtrip.proofs.Says.{Says, says_command, says_word, fitting_rr, fitting_ri, fitting_rm, fitting_j}
use Rattle.roundtrip.proofs.Texts.{decimal_number, signed_number, integer_signed, register_named}

-- the opcode at a code has that code
code_found : (c : ℕ) (o : Opcode) → opcode_at c ≡ Some o → code_of o ≡ c
code_found c o e = ⊎_elim
    (λ (h : c < 54).
    let same : Some (get_or opcodes c Halt) ≡ Some o = sym (slice_get-get_or opcodes c Halt h) ∙ e in
    let is : get_or opcodes c Halt ≡ o = cc in
    ap code_of (sym is) ∙ code_at c h)
    (λ (h : 54 ≤ c).
    let never : None ≡ Some o = sym (slice_get_past opcodes c h) ∙ e in
    let z : ◌≡◌ {A = ℕ} 0 1 = cc in
    absurd (omega arith))
    (cases_lt c 54)

-- k bits are those of the number that they mean
bits_signed : (k n : ℕ) → n < 2 ^ k → bits k (signed k n) ≡ n
bits_signed k n l = cond_both (ltb n (2 ^ (k - 1))) (pos n) (negsuc (2 ^ k - 1 - n)) (λ z. bits k z ≡ n) (λ t. refl) (λ t. omega arith)

-- a line that says the code word w, and is no directive and no constant
pub record Codes (w : ℕ) (ws : List (List ℕ)) : Type 0 where
  pub mnemonic : Mnemonic
  pub says : Says ws mnemonic (code w)
  pub no_stack : is_stack mnemonic ≡ false
  pub no_constant : is_constant mnemonic ≡ false

by_command : (o : Opcode) (n : Numbers) (w : ℕ) (ws : List (List ℕ)) → encoded (instruction o n) ≡ w → Says ws (Command o) (code (encoded (instruction o n))) → Codes w ws
by_command o n w ws e s = record { mnemonic = Command o; says = subst (λ x. Says ws (Command o) (code x)) e s; no_stack = refl; no_constant = refl }

by_word : (w : ℕ) → w < 2 ^ 32 → Codes w (code_line None w)
by_word w h = record { mnemonic = Word; says = says_word w h; no_stack = refl; no_constant = refl }

kinds_two : (x y : List ℕ) (k l : Shown) → kind_of x ≡ k → kind_of y ≡ l → map kind_of (x ∷ y ∷ []) ≡ k ∷ l ∷ []
kinds_two x y k l e f = ap (λ v. v ∷ kind_of y ∷ []) e ∙ ap (λ v. k ∷ v ∷ []) f

kinds_three : (x y z : List ℕ) (k l m : Shown) → kind_of x ≡ k → kind_of y ≡ l → kind_of z ≡ m → map kind_of (x ∷ y ∷ z ∷ []) ≡ k ∷ l ∷ m ∷ []
kinds_three x y z k l m e f g = ap (λ v. v ∷ kind_of y ∷ kind_of z ∷ []) e ∙ ap (λ v. k ∷ v) (kinds_two y z l m f g)

module _ (o : Opcode) (w : ℕ) (h : w < 2 ^ 32) (c : code_of o ≡ code_field w) where
  rr_line : form_of o ≡ Rr → Codes w (code_line (with_operands o (operands_in Rr w)) w)
  rr_line f =
      let a = first_field w in
      let b = source_field w in
      let m = modifier_field w in
      let held = bits_signed 16 (w % 2 ^ 16) (omega arith) in
      let small : mag m < 2 ^ 15 = mag_signed 16 32768 (w % 2 ^ 16) refl refl (omega arith) in
      let ra = register_named a (omega arith) in
      let rb = register_named b (omega arith) in
      let zm = signed_number m (omega (arith, small)) in
      let back : code_of o * 2 ^ 24 + (a * 2 ^ 20 + b * 2 ^ 16 + bits 16 m) ≡ w = omega (arith, c, held) in
      by_command o (rr a b m) w (name_of o ∷ register_name a ∷ register_name b ∷ written.signed_decimal m ∷ []) back
      (says_command o Rr (register_name a ∷ register_name b ∷ written.signed_decimal m ∷ []) (register (register_name a) ∷ register (register_name b) ∷ number (written.signed_decimal m) ∷ []) (rr a b m) f
      (ra.some, ra.high, (rb.some, rb.high, (zm.some, zm.high, tt)))
      (kinds_three (register_name a) (register_name b) (written.signed_decimal m) (register (register_name a)) (register (register_name b)) (number (written.signed_decimal m)) ra.kind rb.kind zm.kind)
      (fitting_rr (register_name a) (register_name b) (written.signed_decimal m) a b m ra.is rb.is (integer_signed m (omega (arith, small))) small))

  ri_line : form_of o ≡ Ri → Codes w (code_line (with_operands o (operands_in Ri w)) w)
  ri_line f =
      let a = first_field w in
      let m = immediate_field w in
      let held = bits_signed 20 (w % 2 ^ 20) (omega arith) in
      let small : mag m < 2 ^ 19 = mag_signed 20 524288 (w % 2 ^ 20) refl refl (omega arith) in
      let ra = register_named a (omega arith) in
      let zm = signed_number m (omega (arith, small)) in
      let back : code_of o * 2 ^ 24 + (a * 2 ^ 20 + bits 20 m) ≡ w = omega (arith, c, held) in
      by_command o (ri a m) w (name_of o ∷ register_name a ∷ written.signed_decimal m ∷ []) back
      (says_command o Ri (register_name a ∷ written.signed_decimal m ∷ []) (register (register_name a) ∷ number (written.signed_decimal m) ∷ []) (ri a m) f
      (ra.some, ra.high, (zm.some, zm.high, tt))
      (kinds_two (register_name a) (written.signed_decimal m) (register (register_name a)) (number (written.signed_decimal m)) ra.kind zm.kind)
      (fitting_ri (register_name a) (written.signed_decimal m) a m ra.is (integer_signed m (omega (arith, small))) small))

  rm_line : form_of o ≡ Rm → Codes w (code_line (with_operands o (operands_in Rm w)) w)
  rm_line f =
      let a = first_field w in
      let x = address_field w in
      let ra = register_named a (omega arith) in
      let zx = decimal_number x (omega arith) in
      let back : code_of o * 2 ^ 24 + (a * 2 ^ 20 + x) ≡ w = omega (arith, c) in
      by_command o (rm a x) w (name_of o ∷ register_name a ∷ decimal x ∷ []) back
      (says_command o Rm (register_name a ∷ decimal x ∷ []) (register (register_name a) ∷ number (decimal x) ∷ []) (rm a x) f
      (ra.some, ra.high, (zx.some, zx.high, tt))
      (kinds_two (register_name a) (decimal x) (register (register_name a)) (number (decimal x)) ra.kind zx.kind)
      (fitting_rm (register_name a) (decimal x) a x ra.is (natural_decimal x (omega arith)) (omega arith)))

  j_line : form_of o ≡ J → first_field w ≡ 0 → Codes w (code_line (with_operands o (Some (j (address_field w)))) w)
  j_line f z =
      let x = address_field w in
      let zx = decimal_number x (omega arith) in
      let back : code_of o * 2 ^ 24 + x ≡ w = omega (arith, c, z) in
      by_command o (j x) w (name_of o ∷ decimal x ∷ []) back
      (says_command o J (decimal x ∷ []) (number (decimal x) ∷ []) (j x) f
      (zx.some, zx.high, tt)
      (ap (λ v. v ∷ []) zx.kind)
      (fitting_j (decimal x) x (natural_decimal x (omega arith)) (omega arith)))

  form_line : (f : Form) → form_of o ≡ f → Codes w (code_line (with_operands o (operands_in f w)) w)
  form_line Rr e = rr_line e
  form_line Ri e = ri_line e
  form_line Rm e = rm_line e
  form_line J e = cond_both (eqb (first_field w) 0) (Some (j (address_field w))) None (λ n. Codes w (code_line (with_operands o n) w))
      (λ t. j_line e (eqb-true (first_field w) 0 t))
      (λ t. by_word w h)

opcode_line : (w : ℕ) → w < 2 ^ 32 → (q : Option Opcode) → opcode_at (code_field w) ≡ q → Codes w (code_line (with_opcode q w) w)
opcode_line w h None e = by_word w h
opcode_line w h (Some o) e = form_line o w h (code_found (code_field w) o e) (form_of o) refl

-- the line of a code word says that word
pub word_says : (w : ℕ) → w < 2 ^ 32 → Codes w (word_line Code w)
word_says w h = opcode_line w h (opcode_at (code_field w)) refl
