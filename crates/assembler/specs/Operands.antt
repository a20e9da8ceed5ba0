-- Operands, their places, and what is asked of them.
use Rattle.std.specs.Prelude.{ℕ, ◌-◌, ◌^◌, Bool, true, cond, ◌&&◌, ◌||◌, List, [], ◌∷◌, length, ℤ, pos, is_some, Some, None, Option, ◌==◌, nat_lt, slice_index_or}
use Rattle.std.specs.Int.Signed.{mag}
use Rattle.std.specs.Option.{unwrap_or}
use Rattle.isa.specs.Table.{form_of}
use Rattle.isa.specs.declared.form.Form.{Form}
use Rattle.isa.specs.declared.form.Form.TheVariants.{Rr, Ri, Rm, J}
use Rattle.lexer.specs.Shown.{Shown, label, name, register, number, string, register_number}
use Rattle.numerals.specs.Integer.{integer}
use Rattle.numerals.specs.Natural.{natural}
use Rattle.assembler.specs.Characters.{characters}
use Rattle.assembler.specs.Labels.{usable}
use Rattle.assembler.specs.declared.mnemonic.Mnemonic.{Mnemonic}
use Rattle.assembler.specs.declared.mnemonic.Mnemonic.TheVariants.{Command, Word, Uint32, Text, Stack, End}

-- what an operand is, of each kind; none where it is not of that kind
abbrev pub register_in : Shown → Option ℕ
register_in (label w) = None
register_in (name w) = None
register_in (register w) = register_number w
register_in (number w) = None
register_in (string w) = None

-- a numeral with a minus or without
abbrev pub integer_in : Shown → Option ℤ
integer_in (label w) = None
integer_in (name w) = None
integer_in (register w) = None
integer_in (number w) = integer w
integer_in (string w) = None

-- a numeral without a minus
abbrev pub natural_in : Shown → Option ℕ
natural_in (label w) = None
natural_in (name w) = None
natural_in (register w) = None
natural_in (number w) = natural w
natural_in (string w) = None

-- a name that a label may have
abbrev pub label_in : Shown → Option (List ℕ)
label_in (label w) = None
label_in (name w) = cond (usable w) (Some w) None
label_in (register w) = None
label_in (number w) = None
label_in (string w) = None

-- the characters of a quoted word
abbrev pub characters_in : Shown → Option (List ℕ)
characters_in (label w) = None
characters_in (name w) = None
characters_in (register w) = None
characters_in (number w) = None
characters_in (string w) = characters w

-- the places that operands stand in; a target is an address or a label
pub data Place : Type 0 where
  a_register : Place
  a_modifier : Place
  an_immediate : Place
  a_target : Place
  an_address : Place
  a_number : Place
  a_string : Place

-- the operands of a command by its form, in their order
abbrev pub places_in : Form → List Place
places_in Rr = a_register ∷ a_register ∷ a_modifier ∷ []
places_in Ri = a_register ∷ an_immediate ∷ []
places_in Rm = a_register ∷ a_target ∷ []
places_in J = a_target ∷ []

-- the operands of each mnemonic, in their order
abbrev pub places_of : Mnemonic → List Place
places_of (Command o) = places_in (form_of o)
places_of Word = a_number ∷ []
places_of Uint32 = a_number ∷ []
places_of Text = a_string ∷ []
places_of Stack = an_address ∷ []
places_of End = a_target ∷ []

-- whether a test gets a yes of each operand in its place
abbrev pub each : (Place → Shown → Bool) → List Place → List Shown → Bool
each test [] ws = true
each test (p ∷ ps) [] = true
each test (p ∷ ps) (w ∷ ws) = test p w && each test ps ws

-- only a modifier and an immediate may have a minus, and only a target may be a label
abbrev pub well_formed : Place → Shown → Bool
well_formed a_register w = is_some (register_in w)
well_formed a_modifier w = is_some (integer_in w)
well_formed an_immediate w = is_some (integer_in w)
well_formed a_target w = is_some (natural_in w) || is_some (label_in w)
well_formed an_address w = is_some (natural_in w)
well_formed a_number w = is_some (natural_in w)
well_formed a_string w = is_some (characters_in w)

-- a signed number of k bits; what is no number has no range
abbrev pub in_bits : ℕ → Option ℤ → Bool
in_bits k None = true
in_bits k (Some z) = nat_lt (mag z) (2 ^ (k - 1))

-- a number below a bound; what is no number has no range
abbrev pub is_below : ℕ → Option ℕ → Bool
is_below bound None = true
is_below bound (Some n) = nat_lt n bound

-- signed numbers of 16 and of 20 bits, addresses of 20 bits, numbers of 32 bits
abbrev pub in_range : Place → Shown → Bool
in_range a_register w = true
in_range a_modifier w = in_bits 16 (integer_in w)
in_range an_immediate w = in_bits 20 (integer_in w)
in_range a_target w = is_below (2 ^ 20) (natural_in w)
in_range an_address w = is_below (2 ^ 20) (natural_in w)
in_range a_number w = is_below (2 ^ 32) (natural_in w)
in_range a_string w = true

-- 7: is the number of operands right?
abbrev pub right_count : Mnemonic → List Shown → Bool
right_count m ws = length ws == length (places_of m)

-- 8: does every operand have the shape that its place asks for?
abbrev pub right_form : Mnemonic → List Shown → Bool
right_form m ws = each well_formed (places_of m) ws

-- 9: are all numbers within their limits?
abbrev pub right_range : Mnemonic → List Shown → Bool
right_range m ws = each in_range (places_of m) ws

-- the operand at a place, counted from 0
abbrev pub operand : ℕ → List Shown → Shown
operand k ws = slice_index_or ws k (name [])

-- the number of the register at a place
abbrev pub register_at : ℕ → List Shown → ℕ
register_at k ws = unwrap_or (register_in (operand k ws)) 0

-- the modifier or immediate at a place
abbrev pub integer_at : ℕ → List Shown → ℤ
integer_at k ws = unwrap_or (integer_in (operand k ws)) (pos 0)

-- the number at a place, and 0 where a label stands there
abbrev pub natural_at : ℕ → List Shown → ℕ
natural_at k ws = unwrap_or (natural_in (operand k ws)) 0

-- the characters of the string at a place
abbrev pub characters_at : ℕ → List Shown → List ℕ
characters_at k ws = unwrap_or (characters_in (operand k ws)) []
