-- What a writer writes.
use Rattle.std.specs.Prelude.{◌≡◌, List, ℕ}
use Rattle.output.specs.Overlay.{Wrote}
use Rattle.output.specs.declared.writer.Writer.{Writer}

-- a text was written after the text so far, into the output that the writer was lent
pub record Put (before : Writer) (text : List ℕ) (after : Writer) : Type 0 where
  pub wrote : Wrote before.out.now before.len text after.len after.out.now
  pub lender : after.out.ghost_name ≡ before.out.ghost_name
