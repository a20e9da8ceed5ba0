-- Tapes made of lines.
use Rattle.std.specs.Prelude.{◌≡◌, ℕ, ◌<◌, List, length, All, false, Ok, Err, Result, Vec}
use Rattle.std.specs.Global.{Global}
use Rattle.host.specs.Tapes.{items, spoiled}
use Rattle.host.specs.declared.item.Item.{Item}
use Rattle.item_lines.specs.Lines.{item_lines}
use Rattle.item_lines.specs.Tapes.{tape_lines}
use Rattle.item_lines.specs.Texts.{BadLine}
use Rattle.item_lines.specs.declared.make.MakeError.{MakeError}
use Rattle.item_lines.specs.declared.make.MakeError.TheVariants.{Line, TooMany, Memory}
use Rattle.item_lines.specs.declared.read.ReadError.{ReadError}
use Rattle.item_lines.specs.declared.read.ReadError.TheVariants as read

-- an error of reading
abbrev pub after_reading : ReadError → MakeError
after_reading (read.Line n) = Line n
after_reading read.Memory = Memory

-- the lines of more items than a host writes
pub record TooLong (text : List ℕ) : Type 0 where
  pub items : List Item
  pub lines : text ≡ item_lines items
  pub many : 65_536 < length items

-- a tape that ends clean, and of which the text is what shows it
pub record MadeOf (text tape : List ℕ) : Type 0 where
  pub lines : text ≡ tape_lines tape
  pub clean : spoiled tape ≡ false

abbrev pub Makes : List ℕ → Result (Vec ℕ Global) MakeError → Type 0
Makes text (Ok v) = MadeOf text v.items
Makes text (Err (Line n)) = BadLine text n
Makes text (Err TooMany) = TooLong text
Makes text (Err Memory) = Unit

-- what making a tape of the lines that show a clean tape gives: that tape, or a refusal where it has more items than a host writes; no line is refused
abbrev pub Again : List ℕ → Result (Vec ℕ Global) MakeError → Type 0
Again bs (Ok v) = v.items ≡ bs
Again bs (Err (Line n)) = ⊥
Again bs (Err TooMany) = 65_536 < length (items bs)
Again bs (Err Memory) = Unit

-- a clean tape that is shown and made again is the same tape
abbrev pub MakesAgain : List ℕ → Result (Vec ℕ Global) MakeError → Type 0
MakesAgain text r = (bs : List ℕ) → All (λ b. b < 256) bs → spoiled bs ≡ false → text ≡ tape_lines bs → Again bs r
