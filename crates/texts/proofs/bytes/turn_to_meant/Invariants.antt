use Rattle.std.proofs.Common.{◌≡◌, ◌++◌, map, take, drop}
use Rattle.texts.specs.Meant.{meant}
use Rattle.texts.proofs.bytes.turn_to_meant.Given as goal

abbrev pub invariant-loop-byte : goal.invariant-loop-byte
invariant-loop-byte l = l.text ≡ map meant (take l.byte-index l.fn.text) ++ drop l.byte-index l.fn.text
