-- Items as lines of text.
use Rattle.std.specs.Prelude.{ℕ, List, [], ◌∷◌, ◌++◌, codes, decimal}
use Rattle.std.specs.Int.{w64, to_be_bytes}
use Rattle.std.specs.List.{flat_map}
use Rattle.hex.specs.Hex.{encode_lower}
use Rattle.host.specs.declared.item.Item.{Item}
use Rattle.host.specs.declared.item.Item.TheVariants.{Number, Real, Character}

-- what an item's line says: its kind and its value, a real by its 64 bits as sixteen hexadecimal digits
abbrev pub item_text : Item → List ℕ
item_text (Number n) = codes "number " ++ decimal n
item_text (Real b) = codes "real 0x" ++ encode_lower (to_be_bytes w64 b)
item_text (Character c) = codes "character " ++ decimal c

-- byte 10 ends each line
abbrev pub item_line : Item → List ℕ
item_line x = item_text x ++ 10 ∷ []

-- the lines of items, one after the other
abbrev pub item_lines : List Item → List ℕ
item_lines xs = flat_map item_line xs
