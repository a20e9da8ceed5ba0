-- Texts of items' lines.
use Rattle.std.specs.Prelude.{◌≡◌, ◌≢◌, ℕ, ◌+◌, List, [], ◌++◌, length, drop, All, Some, None, Option, Ok, Err, Result, Vec}
use Rattle.std.specs.Global.{Global}
use Rattle.host.specs.Ranges.{InRange}
use Rattle.host.specs.declared.item.Item.{Item}
use Rattle.item_lines.specs.Lines.{item_text, item_line, item_lines}
use Rattle.item_lines.specs.declared.read.Front.{Front}
use Rattle.item_lines.specs.declared.read.ReadError.{ReadError}
use Rattle.item_lines.specs.declared.read.ReadError.TheVariants.{Line, Memory}

-- the line of an item in range, without its end; or no item's
abbrev pub Tells : List ℕ → Option Item → Type 0
Tells line (Some x) = InRange x × (line ≡ item_text x)
Tells line None = (x : Item) → InRange x → line ≡ item_text x → ⊥

-- a text that begins with no item's line
abbrev pub NoneFirst : List ℕ → Type 0
NoneFirst text = (x : Item) (more : List ℕ) → InRange x → text ≡ item_line x ++ more → ⊥

-- the item in range whose line a text begins with, and how many bytes that line has
abbrev pub StandsFirst : List ℕ → Option Front → Type 0
StandsFirst text (Some f) = InRange f.item × (f.length ≡ length (item_line f.item)) × (text ≡ item_line f.item ++ drop f.length text)
StandsFirst text None = NoneFirst text

-- some items' lines and a rest, which is not empty and begins with no item's line; that line's number counts from 1
pub record BadLine (text : List ℕ) (number : ℕ) : Type 0 where
  pub items : List Item
  pub rest : List ℕ
  pub parts : text ≡ item_lines items ++ rest
  pub some : rest ≢ []
  pub none : NoneFirst rest
  pub line : number ≡ length items + 1

-- a text is the lines of the items that are read; or its first line that is no item's is told
abbrev pub ReadsItems : List ℕ → Result (Vec Item Global) ReadError → Type 0
ReadsItems text (Ok v) = text ≡ item_lines v.items
ReadsItems text (Err (Line n)) = BadLine text n
ReadsItems text (Err Memory) = Unit

-- what reading the lines of items gives: those items; no line is refused
abbrev pub GivesBack : List Item → Result (Vec Item Global) ReadError → Type 0
GivesBack xs (Ok v) = v.items ≡ xs
GivesBack xs (Err (Line n)) = ⊥
GivesBack xs (Err Memory) = Unit

-- items in range that are shown and read are the same items
abbrev pub ReadsBack : List ℕ → Result (Vec Item Global) ReadError → Type 0
ReadsBack text r = (xs : List Item) → All InRange xs → text ≡ item_lines xs → GivesBack xs r
