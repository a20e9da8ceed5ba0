-- What the cursors still have in front of them.
use Rattle.std.specs.Prelude.{◌≡◌, ℕ, ◌+◌, ◌-◌, cond, List, [], ◌∷◌, length, drop, map, nat_lt, All, Some, None, Option}
use denote.Ref.{Bor}
use Rattle.lexer.specs.declared.inside.Inside.TheVariants.{Gap}
use Rattle.lexer.specs.declared.lines.Line.{Line}
use Rattle.lexer.specs.declared.lines.Lines.{Lines}
use Rattle.lexer.specs.declared.words.Words.{Words}
use Rattle.lexer.specs.Shown.{Shown, kind_of, told_words}
use Rattle.lexer.specs.Parts.{StandsAt}
use Rattle.lexer.specs.Text.{CodeLine, spelled, blanks, word_left, lines_of, numbered}

-- the words that are still to come
abbrev pub words_in : Words → List (List ℕ)
words_in w = spelled Gap w.rest.now

-- the words that are still to come, by their kinds
abbrev pub kinds_in : Words → List Shown
kinds_in w = map kind_of (words_in w)

-- the words that are still to come, each with its line, its place and its kind
abbrev pub told_in : Words → List (ℕ × ℕ × Shown)
told_in w = told_words w.line w.place w.rest.now (words_in w)

-- the place past the next word, or the same place where there is none
abbrev pub past_word : Words → ℕ
past_word w = cond (nat_lt (blanks w.rest.now) (length w.rest.now)) (w.place + blanks w.rest.now + word_left Gap (drop (blanks w.rest.now) w.rest.now)) w.place

-- the words of a line
pub record Begins (l : Line) (w : Words) : Type 0 where
  pub rest : w.rest.now ≡ l.code.now
  pub place : w.place ≡ l.place
  pub number : w.line ≡ l.number

-- the lines of what is left of a text, none where nothing is left
abbrev pub lines_left : Option (Bor (List ℕ)) → List (List ℕ)
lines_left None = []
lines_left (Some rest) = lines_of rest.now

-- the lines that are still to come
abbrev pub lines_in : Lines → List (List ℕ)
lines_in l = lines_left l.rest

-- a line by its number, its place and its code
abbrev pub shown_line : Line → CodeLine
shown_line l = record { number = l.number; place = l.place; code = l.code.now }

-- the lines that are still to come, by their numbers, places and code
abbrev pub numbered_in : Lines → List CodeLine
numbered_in l = numbered l.number l.place (lines_in l)

-- the code of each of the lines stands in a text at the line's place
abbrev pub LinesStand : List ℕ → Lines → Type 0
LinesStand text l = All (λ c. StandsAt text c.place c.code) (numbered_in l)

-- the first word of some words, its place, and the words after it
pub record SplitFirst (w : Words) (place : ℕ) (word : List ℕ) (after : Words) : Type 0 where
  pub first : words_in w ≡ word ∷ words_in after
  pub place_is : place ≡ w.place + blanks w.rest.now
  pub past : after.place ≡ past_word w
  pub told : told_in w ≡ (w.line, place, kind_of word) ∷ told_in after
  pub line : after.line ≡ w.line
  pub stand : (text : List ℕ) → StandsAt text w.place w.rest.now → StandsAt text place word × StandsAt text after.place after.rest.now
  pub rest : after.rest.now ≡ drop (after.place - w.place) w.rest.now
