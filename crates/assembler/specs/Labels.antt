-- Labels: which names may be one, and which address a name has.
use Rattle.std.specs.Prelude.{ℕ, Bool, false, not, ◌&&◌, ◌||◌, List, [], ◌∷◌, take, drop, is_some, Option, ◌==◌, nat_le}
use Rattle.std.specs.List.{find, list_all}
use Rattle.std.specs.Option.{option_map}
use Rattle.std.specs.Str.{bytes_eq}
use Rattle.lexer.specs.Shown.{digit, register_number}
use Rattle.assembler.specs.Mnemonics.{mnemonic_of}
use Rattle.assembler.specs.declared.label.Label.{Label}
use Rattle.assembler.specs.declared.label.Place.{Place}

-- a lowercase letter, a digit, an underscore (95) or a dot (46)
abbrev pub label_byte : ℕ → Bool
label_byte b = (nat_le 97 b && nat_le b 122) || (digit b || (b == 95 || b == 46))

-- one such byte or more, of which the first is no digit
abbrev pub lawful : List ℕ → Bool
lawful [] = false
lawful (b ∷ bs) = not (digit b) && list_all label_byte (b ∷ bs)

-- reserved are the names of commands, constants, directives and registers
abbrev pub reserved : List ℕ → Bool
reserved w = is_some (mnemonic_of w) || is_some (register_number w)

-- a label's name is lawful and not reserved
abbrev pub usable : List ℕ → Bool
usable w = lawful w && not (reserved w)

-- where a label stands whose name begins after p bytes of the text
abbrev pub place_at : ℕ → Place
place_at p = record { offset = p }

-- the name of an entry: a part of the text
abbrev pub name_in : List ℕ → Label → List ℕ
name_in text l = take l.length (drop l.place.offset text)

-- what entries are called: by a text, `name_in` of it
abbrev pub Names : Type 0
Names = Label → List ℕ

-- the address of the first entry with a name
abbrev pub address_in : Names → List ℕ → List Label → Option ℕ
address_in names w ls = option_map (λ l. l.address) (find (λ l. bytes_eq (names l) w) ls)
