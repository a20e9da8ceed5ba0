use Rattle.std.proofs.Common.{◌≡◌, ◌+◌, ◌≤◌, length}
use Rattle.std.specs.Option.{option_map}
use Rattle.assembler.specs.Characters.{until_quote}
use Rattle.assembler.proofs.characters.count_rest.Given as goal

abbrev pub invariant-loop-after : goal.invariant-loop-after
invariant-loop-after l = record {
  few : l.count + length l.left ≤ length l.rest;
  value : option_map (λ cs. l.count + length cs) (until_quote l.left) ≡ option_map length (until_quote l.rest);
}

abbrev pub decreases-loop-after : goal.decreases-loop-after
decreases-loop-after l = length l.left
