-- Operands as plain numbers.
use Rattle.std.specs.Prelude.{ℕ, ℤ}
use Rattle.isa.specs.declared.form.Form.{Form}
use Rattle.isa.specs.declared.form.Form.TheVariants as form
use Rattle.isa.specs.declared.operands.Operands.{Operands}
use Rattle.isa.specs.declared.operands.Operands.TheVariants.{Rr, Ri, Rm, J}

-- operands by form: registers by number, then the modifier, immediate or address
pub data Numbers : Type 0 where
  rr : ℕ → ℕ → ℤ → Numbers
  ri : ℕ → ℤ → Numbers
  rm : ℕ → ℕ → Numbers
  j : ℕ → Numbers

-- operands of the code by their numbers
abbrev pub numbers_in : Operands → Numbers
numbers_in (Rr a b m) = rr a.number b.number m
numbers_in (Ri a i) = ri a.number i.value
numbers_in (Rm a x) = rm a.number x.value
numbers_in (J x) = j x.value

-- the form that operands have
abbrev pub form_in : Operands → Form
form_in (Rr a b m) = form.Rr
form_in (Ri a i) = form.Ri
form_in (Rm a x) = form.Rm
form_in (J x) = form.J
