use Rattle.std.proofs.Common.{◌≡◌, ℕ, ◌<◌, length, get_or}
use Rattle.machine.specs.Cores.{in_register}
use Rattle.runs.specs.Machines.{machine_of}
use Rattle.play.proofs.taken.registers.Given as goal

abbrev pub invariant-loop-number : goal.invariant-loop-number
invariant-loop-number l = (length l.value-items ≡ 16) × ((k : ℕ) → k < l.number → get_or l.value-items k 0 ≡ in_register (machine_of l.machine).core k)
