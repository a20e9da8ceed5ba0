-- Operands read one by one.
use Rattle.std.proofs.Common.{◌≡◌, ℕ, zero, suc, Bool, true, false, ◌&&◌, List, [], ◌∷◌, length, drop, ℤ, pos, is_some, Some, None, Ok, Err, Option, Result, sym, refl, ap, ◌∙◌, arith}
use Rattle.std.specs.Option.{unwrap_or}
use Rattle.isa.specs.Operands.{Numbers, rr, rm}
use Rattle.isa.specs.declared.form.Form.TheVariants.{Rr, Rm}
use Rattle.executable.specs.Check.{ask}
use Rattle.lexer.specs.Shown.{Shown}
use Rattle.assembler.specs.Operands.{Place, a_string, characters_in, a_register, a_modifier, a_target, each, well_formed, in_range, register_in, integer_in, natural_in, label_in, operand}
use Rattle.assembler.specs.Reading.{at_places, placed, read_places, read_numbers}
use Rattle.assembler.specs.Statements.{text, read_counted, statement_by}
use Rattle.assembler.specs.declared.mnemonic.Mnemonic.TheVariants.{Text}
use Rattle.assembler.specs.declared.question.Question.{Question}
use Rattle.assembler.specs.declared.question.Question.TheVariants as question

-- past a register that was read, the other operands are asked
past_register : {X : Type 0} (ps : List Place) (s : Shown) (ws : List Shown) (a : ℕ) (x : X) → Ok a ≡ placed a_register s (unwrap_or (register_in s) 0) → read_places (a_register ∷ ps) (s ∷ ws) x ≡ read_places ps ws x
past_register ps s ws a x e = go (register_in s) e where
  go : (o : Option ℕ) → Ok a ≡ ask (is_some o) question.Form (Ok (unwrap_or o 0)) → ask (is_some o && each well_formed ps ws) question.Form (ask (each in_range ps ws) question.Range (Ok x)) ≡ read_places ps ws x
  go None e = let n : ◌≡◌ {A = ℕ} 0 1 = cc in absurd (omega arith)
  go (Some n) e = refl

-- the last operand is asked alone
last_place : {X : Type 0} (p : Place) (s : Shown) (x : X) → read_places (p ∷ []) (s ∷ []) x ≡ placed p s x
last_place p s x = go (well_formed p s) (in_range p s) where
  go : (b c : Bool) → ask (b && true) question.Form (ask (c && true) question.Range (Ok x)) ≡ ask b question.Form (ask c question.Range (Ok x))
  go true true = refl
  go true false = refl
  go false true = refl
  go false false = refl

-- a refusal does not depend on the value
refused : {X Y : Type 0} (p : Place) (s : Shown) (x : X) (y : Y) (q : Question) → Err q ≡ placed p s x → Err q ≡ placed p s y
refused p s x y q e = go (well_formed p s) (in_range p s) e where
  go : (b c : Bool) → Err q ≡ ask b question.Form (ask c question.Range (Ok x)) → Err q ≡ ask b question.Form (ask c question.Range (Ok y))
  go true true e = let n : ◌≡◌ {A = ℕ} 0 1 = cc in absurd (omega arith)
  go true false e = let is : q ≡ question.Range = cc in cc
  go false c e = let is : q ≡ question.Form = cc in cc

-- what was read is the value, and no question gets a no
given : {X Y : Type 0} (p : Place) (s : Shown) (x v : X) (y : Y) → Ok v ≡ placed p s x → (v ≡ x) × (Ok y ≡ placed p s y)
given p s x v y e = go (well_formed p s) (in_range p s) e where
  go : (b c : Bool) → Ok v ≡ ask b question.Form (ask c question.Range (Ok x)) → (v ≡ x) × (Ok y ≡ ask b question.Form (ask c question.Range (Ok y)))
  go true true e = (cc, refl)
  go true false e = let n : ◌≡◌ {A = ℕ} 0 1 = cc in absurd (omega arith)
  go false c e = let n : ◌≡◌ {A = ℕ} 0 1 = cc in absurd (omega arith)

-- operands taken one by one stand at their places
pub two_places : (ws ws' : List Shown) (s t : Shown) → s ≡ operand 0 ws → ws' ≡ drop 1 ws → t ≡ operand 0 ws' → s ∷ t ∷ [] ≡ at_places 2 ws
two_places ws ws' s t e l f = ap (λ x. x ∷ t ∷ []) e ∙ ap (λ x. operand 0 ws ∷ x ∷ []) (f ∙ ap (operand 0) l)

pub three_places : (ws ws' ws'' : List Shown) (s t u : Shown) → s ≡ operand 0 ws → ws' ≡ drop 1 ws → t ≡ operand 0 ws' → ws'' ≡ drop 1 ws' → u ≡ operand 0 ws'' → s ∷ t ∷ u ∷ [] ≡ at_places 3 ws
three_places ws ws' ws'' s t u e l f k g = ap (λ x. x ∷ t ∷ u ∷ []) e ∙ ap (λ xs. operand 0 ws ∷ xs) (two_places ws' ws'' t u f k g ∙ ap (at_places 2) l)

-- a refusal of the second or the third operand, past registers that were read
module _ {X Y : Type 0} (p : Place) (s t : Shown) (a : ℕ) (q : Question) (x : X) (y : Y) (first : Ok a ≡ placed a_register s (unwrap_or (register_in s) 0)) where
  pub second_refused : Err q ≡ placed p t y → Err q ≡ read_places (a_register ∷ p ∷ []) (s ∷ t ∷ []) x
  second_refused e = refused p t y x q e ∙ sym (last_place p t x) ∙ sym (past_register (p ∷ []) s (t ∷ []) a x first)

  pub third_refused : (r : Shown) (b : ℕ) → Ok b ≡ placed a_register r (unwrap_or (register_in r) 0) → Err q ≡ placed p t y → Err q ≡ read_places (a_register ∷ a_register ∷ p ∷ []) (s ∷ r ∷ t ∷ []) x
  third_refused r b second e = refused p t y x q e ∙ sym (last_place p t x) ∙ sym (past_register (p ∷ []) r (t ∷ []) b x second) ∙ sym (past_register (a_register ∷ p ∷ []) s (r ∷ t ∷ []) a x first)

-- what a reading answers where no question gets a no
abbrev read_as : Numbers → Option (List ℕ) → Result (Numbers × Option (List ℕ)) Question
read_as n l = Ok (n, l)

-- the operands that were read
module _ (s t : Shown) (a : ℕ) (first : Ok a ≡ placed a_register s (unwrap_or (register_in s) 0)) where
  pub rr_read : (u : Shown) (b : ℕ) (m m' : ℤ) → Ok b ≡ placed a_register t (unwrap_or (register_in t) 0) → Ok m ≡ placed a_modifier u (unwrap_or (integer_in u) (pos 0)) → m' ≡ m → Ok (rr a b m', None) ≡ read_numbers Rr (s ∷ t ∷ u ∷ [])
  rr_read u b m m' second third same =
      let A = unwrap_or (register_in s) 0 in
      let B = unwrap_or (register_in t) 0 in
      let M = unwrap_or (integer_in u) (pos 0) in
      let x : Numbers × Option (List ℕ) = (rr A B M, None) in
      ap (λ n. read_as (rr n b m') None) (given a_register s A a a first).0 ∙ ap (λ n. read_as (rr A n m') None) (given a_register t B b b second).0
      ∙ ap (λ z. read_as (rr A B z) None) (same ∙ (given a_modifier u M m m third).0) ∙ (given a_modifier u M m x third).1 ∙ sym (last_place a_modifier u x)
      ∙ sym (past_register (a_modifier ∷ []) t (u ∷ []) b x second) ∙ sym (past_register (a_register ∷ a_modifier ∷ []) s (t ∷ u ∷ []) a x first)

  pub rm_read : (n : ℕ × Option (List ℕ)) (m : ℕ) (l : Option (List ℕ)) → Ok n ≡ placed a_target t (unwrap_or (natural_in t) 0, label_in t) → m ≡ n.0 → l ≡ n.1 → Ok (rm a m, l) ≡ read_numbers Rm (s ∷ t ∷ [])
  rm_read n m l second address label =
      let A = unwrap_or (register_in s) 0 in
      let N : ℕ × Option (List ℕ) = (unwrap_or (natural_in t) 0, label_in t) in
      let x : Numbers × Option (List ℕ) = (rm A N.0, N.1) in
      let is : n ≡ N = (given a_target t N n n second).0 in
      ap (λ k. read_as (rm k m) l) (given a_register s A a a first).0 ∙ ap (λ k. read_as (rm A k) l) (address ∙ ap (λ p. p.0) is) ∙ ap (read_as (rm A N.0)) (label ∙ ap (λ p. p.1) is)
      ∙ (given a_target t N n x second).1 ∙ sym (last_place a_target t x) ∙ sym (past_register (a_target ∷ []) s (t ∷ []) a x first)

-- a quoted word, refused or read
pub text_refused : {X : Type 0} (s : Shown) (q : Question) (y : X) → Err q ≡ placed a_string s y → Err q ≡ read_counted Text (s ∷ [])
text_refused s q y e = refused a_string s y (statement_by Text (s ∷ [])) q e ∙ sym (last_place a_string s (statement_by Text (s ∷ [])))

pub text_read : (s : Shown) (o : Option (List ℕ)) → Ok o ≡ placed a_string s (Some (unwrap_or (characters_in s) [])) → Ok (text o) ≡ read_counted Text (s ∷ [])
text_read s o e =
    let g = given a_string s (Some (unwrap_or (characters_in s) [])) o (statement_by Text (s ∷ [])) e in
    ap (λ x. Ok (text x)) g.0 ∙ g.1 ∙ sym (last_place a_string s (statement_by Text (s ∷ [])))

-- where there are as many operands as places, they are the operands
pub all_places : (n : ℕ) (ws : List Shown) → length ws ≡ n → at_places n ws ≡ ws
all_places zero [] e = refl
all_places zero (w ∷ ws) e = absurd (omega arith)
all_places (suc n) [] e = absurd (omega arith)
all_places (suc n) (w ∷ ws) e = ap (λ xs. w ∷ xs) (all_places n ws (omega arith))
