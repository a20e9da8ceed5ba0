use Rattle.std.proofs.Common.{◌≡◌, true, length, is_some}
use Rattle.std.specs.List.{flat_map}
use Rattle.output.specs.Writes.{Put}
use Rattle.output.specs.declared.writer.Writer.{Writer}
use Rattle.assembler.specs.Characters.{until_quote}
use Rattle.assembler.specs.Emit.{four_bytes, string_constants}
use Rattle.assembler.proofs.emit.put_characters.Given as goal

-- who writes the characters that are left has written them all
abbrev pub invariant-loop-character : goal.invariant-loop-character
invariant-loop-character l =
    ((w : Writer) → Put l.writer (flat_map four_bytes (string_constants (until_quote l.left))) w → Put l.initial.writer (flat_map four_bytes (string_constants (until_quote l.rest))) w)
    × (is_some (until_quote l.left) ≡ true)

abbrev pub decreases-loop-character : goal.decreases-loop-character
decreases-loop-character l = length l.left
