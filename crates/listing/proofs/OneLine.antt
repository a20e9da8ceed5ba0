-- The line of a word, written into an output of 31 bytes.
use Rattle.std.proofs.Common.{◌≡◌, ℕ, ◌-◌, ◌^◌, ◌<◌, ◌≤◌, List, [], ◌∷◌, ◌++◌, length, take, drop, sym, ap, ◌∙◌, arith, length-append, append_assoc}
use Rattle.std.proofs.lemmas.List.{take_at, length-take-le}
use Rattle.executable.specs.declared.segment.Segment.{Segment}
use Rattle.listing.specs.Lines.{blank_joined, line_text, word_line}
use Rattle.listing.proofs.Room.{word_short}
use Rattle.output.specs.Overlay.{Wrote}
use Rattle.output.proofs.Writes.{overlay_whole}

-- what was written is the text, the line end and a rest, and the text is one byte shorter than the line
record Stands (text : List ℕ) (n : ℕ) (after : List ℕ) : Type 0 where
  rest : List ℕ
  all : after ≡ text ++ 10 ∷ rest
  size : length text ≡ n - 1

stands : (text before after : List ℕ) (n : ℕ) → Wrote before 0 (text ++ 10 ∷ []) n after → length before ≡ 31 → length (text ++ 10 ∷ []) ≤ 31 → Stands text n after
stands text before after n wrote room short =
    let rest = drop (length (text ++ 10 ∷ [])) before in
    record {
      rest = rest;
      all = wrote.laid ∙ overlay_whole before (text ++ 10 ∷ []) (omega (arith, short, room)) ∙ append_assoc text (10 ∷ []) rest;
      size = omega (arith, wrote.ends, short, length-append text (10 ∷ []));
    }

module _ (s : Segment) (w : ℕ) (before after : List ℕ) (n : ℕ) (small : w < 2 ^ 32) (room : length before ≡ 31) (wrote : Wrote before 0 (line_text (word_line s w)) n after) where
  line : Stands (blank_joined (word_line s w)) n after
  line = stands (blank_joined (word_line s w)) before after n wrote room (word_short s w small)

  pub text_within : n - 1 ≤ length after
  text_within = omega (arith, line.size, ap length line.all, length-append (blank_joined (word_line s w)) (10 ∷ line.rest))

  pub text_taken : n - 1 ≡ length (take (n - 1) after)
  text_taken = sym (length-take-le (n - 1) after text_within)

  pub text_first : take (n - 1) after ≡ blank_joined (word_line s w)
  text_first = ap (take (n - 1)) line.all ∙ take_at (blank_joined (word_line s w)) (10 ∷ line.rest) (n - 1) line.size
