-- The ranges of items.
use Rattle.std.specs.Prelude.{◌^◌, ◌<◌}
use Rattle.host.specs.declared.item.Item.{Item}
use Rattle.host.specs.declared.item.Item.TheVariants.{Number, Real, Character}

-- a number fits 32 bits, a real 64 and a character 8
abbrev pub InRange : Item → Type 0
InRange (Number n) = n < 2 ^ 32
InRange (Real n) = n < 2 ^ 64
InRange (Character n) = n < 2 ^ 8
