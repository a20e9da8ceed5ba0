-- The names of commands, constants and directives.
use Rattle.std.specs.Prelude.{ℕ, Bool, true, false, cond, List, Some, codes, Option}
use Rattle.std.specs.Option.{option_map}
use Rattle.std.specs.Str.{bytes_eq}
use Rattle.isa.specs.Table.{opcode_named}
use Rattle.assembler.specs.declared.mnemonic.Mnemonic.{Mnemonic}
use Rattle.assembler.specs.declared.mnemonic.Mnemonic.TheVariants.{Command, Word, Uint32, Text, Stack, End}

-- a word names a constant, a directive or a command, or nothing
unfoldable pub mnemonic_of : List ℕ → Option Mnemonic
mnemonic_of w =
    cond (bytes_eq w (codes "word")) (Some Word)
    (cond (bytes_eq w (codes "uint32")) (Some Uint32)
    (cond (bytes_eq w (codes "string")) (Some Text)
    (cond (bytes_eq w (codes "stack")) (Some Stack)
    (cond (bytes_eq w (codes "end")) (Some End)
    (option_map Command (opcode_named w))))))

-- `stack` and `end` are the directives
abbrev pub is_directive : Mnemonic → Bool
is_directive (Command o) = false
is_directive Word = false
is_directive Uint32 = false
is_directive Text = false
is_directive Stack = true
is_directive End = true

-- whether a name gives code words: that of a command, or `word`
abbrev pub is_code : Mnemonic → Bool
is_code (Command o) = true
is_code Word = true
is_code Uint32 = false
is_code Text = false
is_code Stack = false
is_code End = false

-- whether a name gives constant words: `uint32` or `string`
abbrev pub is_constant : Mnemonic → Bool
is_constant (Command o) = false
is_constant Word = false
is_constant Uint32 = true
is_constant Text = true
is_constant Stack = false
is_constant End = false

-- `stack` alone
abbrev pub is_stack : Mnemonic → Bool
is_stack (Command o) = false
is_stack Word = false
is_stack Uint32 = false
is_stack Text = false
is_stack Stack = true
is_stack End = false
