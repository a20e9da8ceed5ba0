use Rattle.doubles.proofs.Bounds.{cut, low_out, high_out}
use Rattle.doubles.proofs.conversion.to_word.Goals as goal
use Rattle.doubles.proofs.conversion.to_word.Goals.{else-value-via-then-value+else-value-2, else-value-via-else-value}

pub returns-then-value-2 : goal.returns-then-value-2
returns-then-value-2 c = cut _ _ _ c.f64_from_bits_with_nan-value.ensures c.saturating_f64_to_u32.ensures c.if-value.true c.if-value-2.true

pub returns-else-value : goal.returns-else-value
returns-else-value c =
    elim c.else-value.branch [
      | else-value-via-then-value+else-value-2 w ↦ high_out _ _ c.f64_from_bits_with_nan-value.ensures w.if-value.true w.if-value-2.false
      | else-value-via-else-value w ↦ low_out _ _ c.f64_from_bits_with_nan-value.ensures w.if-value.false
    ]
