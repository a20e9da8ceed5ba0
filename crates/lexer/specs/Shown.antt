-- What kind of word a word is, and what a word of the lexer shows of the text.
use Rattle.std.specs.Prelude.{ℕ, ◌+◌, ◌-◌, Bool, cond, ◌&&◌, ◌||◌, List, [], ◌∷◌, length, take, is_some, Some, None, Option, drop, ◌==◌, nat_le, slice_index}
use Rattle.lexer.specs.declared.word.Token.{Token}
use Rattle.lexer.specs.declared.word.Word.{Word}
use Rattle.lexer.specs.Text.{blanks}
use Rattle.lexer.specs.declared.word.Word.TheVariants.{Label, Name, Register, Number, String}

-- a word by its kind and its bytes
pub data Shown : Type 0 where
  label : List ℕ → Shown
  name : List ℕ → Shown
  register : List ℕ → Shown
  number : List ℕ → Shown
  string : List ℕ → Shown

-- a word of the lexer by its kind and its bytes
abbrev pub shown : Word → Shown
shown (Label s) = label s.now
shown (Name s) = name s.now
shown (Register s) = register s.now
shown (Number s) = number s.now
shown (String s) = string s.now

-- a word of the lexer is a label
abbrev pub IsLabel : Word → Type 0
IsLabel (Label s) = Unit {0}
IsLabel (Name s) = ⊥
IsLabel (Register s) = ⊥
IsLabel (Number s) = ⊥
IsLabel (String s) = ⊥

-- the bytes of a word of any kind: of a label, those before its colon
abbrev pub bytes_of : Shown → List ℕ
bytes_of (label w) = w
bytes_of (name w) = w
bytes_of (register w) = w
bytes_of (number w) = w
bytes_of (string w) = w

-- 0 to 9
abbrev pub digit : ℕ → Bool
digit b = nat_le 48 b && nat_le b 57

-- r0 to r9 and r10 to r15: byte 114 is r, 49 is 1
abbrev pub register_number : List ℕ → Option ℕ
register_number [] = None
register_number (a ∷ []) = None
register_number (a ∷ b ∷ []) = cond (a == 114 && digit b) (Some (b - 48)) None
register_number (a ∷ b ∷ c ∷ []) = cond (a == 114 && (b == 49 && (nat_le 48 c && nat_le c 53))) (Some (c - 38)) None
register_number (a ∷ b ∷ c ∷ d ∷ w) = None

-- by its first byte (34 is a quote, 45 a minus), or a register's name, or any other
abbrev pub kind_of : List ℕ → Shown
kind_of w =
    cond (slice_index w 0 == 34) (string w)
    (cond (digit (slice_index w 0) || slice_index w 0 == 45) (number w)
    (cond (is_some (register_number w)) (register w) (name w)))

-- the first word of a line is a label where it ends in a colon (58), whatever else it has
abbrev pub sorted : Bool → List ℕ → Shown
sorted fresh w = cond (fresh && slice_index w (length w - 1) == 58) (label (take (length w - 1) w)) (kind_of w)

-- a word's line, its place in the text, and what it shows
abbrev pub tell : Option Token → Option (ℕ × ℕ × Shown)
tell None = None
tell (Some t) = Some (t.line, t.place, shown t.word)

-- a word that is a label, with its line and its place; none where it is another
abbrev pub told_label : Option (ℕ × ℕ × Shown) → Option (ℕ × ℕ × Shown)
told_label None = None
told_label (Some (n, p, label w)) = Some (n, p, label w)
told_label (Some (n, p, name w)) = None
told_label (Some (n, p, register w)) = None
told_label (Some (n, p, number w)) = None
told_label (Some (n, p, string w)) = None

-- the first of the words, on line n and at the place p
abbrev pub first_told : ℕ → Bool → ℕ → List (List ℕ) → Option (ℕ × ℕ × Shown)
first_told n fresh p [] = None
first_told n fresh p (w ∷ ws) = Some (n, p, sorted fresh w)

-- the first of the words by its kind and its bytes
abbrev pub first_shown : Bool → List (List ℕ) → Option Shown
first_shown fresh [] = None
first_shown fresh (w ∷ ws) = Some (sorted fresh w)

-- the words of some code on line n that begins at the place p, each with the line, its place past the blanks in front of it, and its kind
abbrev pub told_words : ℕ → ℕ → List ℕ → List (List ℕ) → List (ℕ × ℕ × Shown)
told_words n p code [] = []
told_words n p code (w ∷ ws) = (n, p + blanks code, kind_of w) ∷ told_words n (p + blanks code + length w) (drop (blanks code + length w) code) ws
