-- Parts of a text.
use Rattle.std.specs.Prelude.{◌≡◌, ℕ, ◌+◌, ◌<◌, ◌≤◌, List, ◌∷◌, ◌++◌, length, take, drop}
use Rattle.lexer.specs.declared.inside.Inside.TheVariants.{Gap}
use Rattle.lexer.specs.Text.{spelled, blanks, word_left}

-- bytes stand in a text at a place
pub record StandsAt (text : List ℕ) (place : ℕ) (bytes : List ℕ) : Type 0 where
  pub within : place + length bytes ≤ length text
  pub same : take (length bytes) (drop place text) ≡ bytes

-- a word is the first of some code, with k blanks before it and the rest of the code after it
pub record WordFirst (code : List ℕ) (k : ℕ) (word rest : List ℕ) : Type 0 where
  pub skipped : k ≡ blanks code
  pub some : k < length code
  pub whole : code ≡ take k code ++ (word ++ rest)
  pub words : spelled Gap code ≡ word ∷ spelled Gap rest
  pub long : length word ≡ word_left Gap (drop k code)
