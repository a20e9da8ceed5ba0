-- What a command prints, and whether all that it was asked was done and agrees. Byte 10 ends each line.
use Rattle.std.specs.Prelude.{ℕ, Bool, true, false, List, [], ◌∷◌, ◌++◌, codes}
use Rattle.reply.specs.declared.reply.Reply as code
use Rattle.sentences.specs.Pages.{refusal_page, line_refusal_page}

pub record Reply : Type 0 where
  pub page : List ℕ
  pub done : Bool

abbrev pub shown : code.Reply → Reply
shown r = record { page = r.page.items; done = r.done }

-- all was done and agrees, and this is told
abbrev pub done : List ℕ → Reply
done page = record { page = page; done = true }

-- not all was done or agrees, and this is told
abbrev pub undone : List ℕ → Reply
undone page = record { page = page; done = false }

-- a refusal, also by a line
abbrev pub refused : ℕ → Reply
refused n = undone (refusal_page n)

abbrev pub refused_at : ℕ → ℕ → Reply
refused_at n line = undone (line_refusal_page n line)

-- a text with a byte 10 behind it
abbrev pub line : List ℕ → List ℕ
line text = text ++ 10 ∷ []

-- NAME: LINE
abbrev pub named_line : List ℕ → List ℕ → List ℕ
named_line name text = name ++ (codes ": " ++ line text)
