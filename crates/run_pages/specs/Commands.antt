-- Commands as text.
use Rattle.std.specs.Prelude.{ℕ, List}
use Rattle.executable.specs.declared.segment.Segment.TheVariants.{Code}
use Rattle.listing.specs.Lines.{blank_joined, word_line}

-- a word as a listing has it among the code
unfoldable pub command_text : ℕ → List ℕ
command_text w = blank_joined (word_line Code w)
