-- What it means to divide a text into lines, and a line into words; nothing here says how that is done.
use Rattle.std.specs.Prelude.{◌≡◌, ℕ, true, false, cond, List, [], ◌∷◌, ◌++◌, ◌==◌}
use Rattle.lexer.specs.Text.{blank}

-- no byte of a list is c
abbrev pub Without : ℕ → List ℕ → Type 0
Without c [] = Unit {0}
Without c (b ∷ bs) = ((b == c) ≡ false) × Without c bs

-- every list of some has a property
abbrev pub Each : (List ℕ → Type 0) → List (List ℕ) → Type 0
Each P [] = Unit {0}
Each P (l ∷ ls) = P l × Each P ls

-- lines put together again, with byte 10 between each two
abbrev pub rejoined : List (List ℕ) → List ℕ
rejoined [] = []
rejoined (l ∷ []) = l
rejoined (l ∷ m ∷ ls) = l ++ 10 ∷ rejoined (m ∷ ls)

-- lines are those of a text: none has a byte 10, and put together again they are the text
pub record Lined (text : List ℕ) (lines : List (List ℕ)) : Type 0 where
  pub whole : rejoined lines ≡ text
  pub apart : Each (Without 10) lines

-- every byte is a blank
abbrev pub AllBlank : List ℕ → Type 0
AllBlank [] = Unit {0}
AllBlank (b ∷ bs) = (blank b ≡ true) × AllBlank bs

-- no byte is a blank
abbrev pub NoBlank : List ℕ → Type 0
NoBlank [] = Unit {0}
NoBlank (b ∷ bs) = (blank b ≡ false) × NoBlank bs

-- what may follow a word: nothing, or a blank and anything
abbrev pub Apart : List ℕ → Type 0
Apart [] = Unit {0}
Apart (b ∷ bs) = blank b ≡ true

-- what may stand between a quote (34) and its closing quote: bytes but quotes and backslashes (92), and backslashes that take the byte after them
abbrev pub Inner : List ℕ → Type 0
Inner [] = Unit {0}
Inner (b ∷ []) = ((b == 34) ≡ false) × ((b == 92) ≡ false)
Inner (b ∷ c ∷ bs) = cond (b == 92) (Inner bs) (((b == 34) ≡ false) × Inner (c ∷ bs))

-- a whole word in front of the rest of a line
pub data Whole (word rest : List ℕ) : Type 0 where
  -- one that does not begin with a quote has no blank
  plain : (b : ℕ) (bs : List ℕ) → word ≡ b ∷ bs → (b == 34) ≡ false → NoBlank word → Apart rest → Whole word rest
  -- one that begins with a quote has no blank after its closing quote
  quoted : (inner tail : List ℕ) → word ≡ 34 ∷ (inner ++ 34 ∷ tail) → Inner inner → NoBlank tail → Apart rest → Whole word rest
  -- without a closing quote it is all that is left of the line
  unclosed : (inner : List ℕ) → word ≡ 34 ∷ inner → Inner inner → rest ≡ [] → Whole word rest
  -- also where a backslash stands last
  cut : (inner : List ℕ) → word ≡ 34 ∷ (inner ++ 92 ∷ []) → Inner inner → rest ≡ [] → Whole word rest

-- words are those of a line: blanks, a whole word, and so on, and blanks at the end
abbrev pub Divided : List ℕ → List (List ℕ) → Type 0
Divided line [] = AllBlank line
Divided line (w ∷ ws) = (gap : List ℕ) × (rest : List ℕ) × (line ≡ gap ++ (w ++ rest)) × AllBlank gap × Whole w rest × Divided rest ws
