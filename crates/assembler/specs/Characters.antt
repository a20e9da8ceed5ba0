-- The characters of a quoted word.
use Rattle.std.specs.Prelude.{ℕ, cond, ◌&&◌, List, [], ◌∷◌, Some, None, Option, ◌==◌, nat_le}
use Rattle.lexer.specs.Escape.{escaped_as}

-- a character in front of others
abbrev pub in_front : Option ℕ → Option (List ℕ) → Option (List ℕ)
in_front None cs = None
in_front (Some c) None = None
in_front (Some c) (Some cs) = Some (c ∷ cs)

-- a byte that stands for itself: 32 to 126
abbrev pub plain_character : ℕ → Option ℕ
plain_character b = cond (nat_le 32 b && nat_le b 126) (Some b) None

-- what stands after the opening quote (34): characters, escapes after a backslash (92), and the closing quote last
abbrev pub until_quote : List ℕ → Option (List ℕ)
until_quote [] = None
until_quote (b ∷ []) = cond (b == 34) (Some []) None
until_quote (b ∷ c ∷ rest) =
    cond (b == 34) None
    (cond (b == 92) (in_front (escaped_as c) (until_quote rest)) (in_front (plain_character b) (until_quote (c ∷ rest))))

-- a character and the bytes after it, if it is one
abbrev pub before : List ℕ → Option ℕ → Option (ℕ × List ℕ)
before rest None = None
before rest (Some c) = Some (c, rest)

-- the character in front of what stands after the opening quote, and the bytes after that character
abbrev pub first_character : List ℕ → Option (ℕ × List ℕ)
first_character [] = None
first_character (b ∷ []) = None
first_character (b ∷ c ∷ rest) = cond (b == 34) None (cond (b == 92) (before rest (escaped_as c)) (before (c ∷ rest) (plain_character b)))

-- the characters of a quoted word
abbrev pub characters : List ℕ → Option (List ℕ)
characters [] = None
characters (b ∷ bs) = cond (b == 34) (until_quote bs) None
