use Rattle.std.proofs.Common.{◌≡◌, ◌≤◌, ◌+◌, length, take, not, eqb}
use Rattle.std.specs.List.{suffix_len}
use Rattle.tasks.proofs.difference.line_start.Given as goal

abbrev pub invariant-loop-start : goal.invariant-loop-start
invariant-loop-start l =
    record {
      within : l.start ≤ length l.text;
      rest : suffix_len (λ b. not (eqb b 10)) l.text + l.start ≡ suffix_len (λ b. not (eqb b 10)) (take l.start l.text) + length l.text;
    }

abbrev pub decreases-loop-start : goal.decreases-loop-start
decreases-loop-start l = l.start
