-- The names of commands.
use Rattle.std.proofs.Common.{◌≡◌, ℕ, ◌<◌, Bool, true, false, ◌&&◌, leb, List, [], ◌∷◌, length, Some, codes, refl, ap, ◌∙◌, rules}
use Rattle.std.specs.Option.{option_map}
use Rattle.std.specs.Str.{bytes_eq}
use Rattle.std.proofs.lemmas.Bool.{and_parts, leb-true, cond-false}
use Rattle.isa.specs.Table.{name_of, opcode_named}
use Rattle.isa.proofs.Rows.{finds_named}
use Rattle.isa.specs.declared.opcode.Opcode.{Opcode}
use Rattle.lexer.specs.Shown.{kind_of, sorted, name}
use Rattle.lexer.proofs.Again.{High}
use Rattle.assembler.specs.Mnemonics.{mnemonic_of}
use Rattle.assembler.specs.declared.mnemonic.Mnemonic.TheVariants.{Command}

abbrev pub all_high : List ℕ → Bool
all_high [] = true
all_high (b ∷ bs) = leb 36 b && (leb b 126 && all_high bs)

pub high_from : (w : List ℕ) → all_high w ≡ true → High w
high_from [] h = tt
high_from (b ∷ w) h =
    let one = and_parts (leb 36 b) (leb b 126 && all_high w) h in
    let two = and_parts (leb b 126) (all_high w) one.1 in
    (leb-true 36 b one.0, leb-true b 126 two.0, high_from w two.1)

name_all_high : (o : Opcode) → all_high (name_of o) ≡ true
name_all_high o = search rules

pub name_high : (o : Opcode) → High (name_of o)
name_high o = high_from (name_of o) (name_all_high o)

pub name_some : (o : Opcode) → 0 < length (name_of o)
name_some o = search rules

-- a command's name is a name, in the first place too
pub name_kind : (o : Opcode) → kind_of (name_of o) ≡ name (name_of o)
name_kind o = search rules

pub name_first : (o : Opcode) → sorted true (name_of o) ≡ name (name_of o)
name_first o = search rules

-- no command has the name of a constant or a directive
no_word : (o : Opcode) → bytes_eq (name_of o) (codes "word") ≡ false
no_word o = search rules

no_uint32 : (o : Opcode) → bytes_eq (name_of o) (codes "uint32") ≡ false
no_uint32 o = search rules

no_string : (o : Opcode) → bytes_eq (name_of o) (codes "string") ≡ false
no_string o = search rules

no_stack : (o : Opcode) → bytes_eq (name_of o) (codes "stack") ≡ false
no_stack o = search rules

no_end : (o : Opcode) → bytes_eq (name_of o) (codes "end") ≡ false
no_end o = search rules

-- a command's name names that command
pub name_means : (o : Opcode) → mnemonic_of (name_of o) ≡ Some (Command o)
unfolding mnemonic_of
name_means o =
    cond-false _ _ _ (no_word o) ∙ cond-false _ _ _ (no_uint32 o) ∙ cond-false _ _ _ (no_string o) ∙ cond-false _ _ _ (no_stack o) ∙ cond-false _ _ _ (no_end o)
    ∙ ap (option_map Command) (finds_named (name_of o) (opcode_named (name_of o)) refl o refl)
