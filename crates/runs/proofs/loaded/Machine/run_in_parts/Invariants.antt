use Rattle.std.proofs.Common.{◌≡◌, ℕ, ◌*◌, ◌≤◌, IfSome}
use Rattle.std.specs.Option.{option_map}
use Rattle.runs.specs.Machines.{machine_of}
use Rattle.runs.specs.Parts.{parts, total_report}
use Rattle.runs.specs.Runs.{held}
use Rattle.runs.proofs.Playing.{StandsAt}
use Rattle.runs.proofs.loaded.Machine.run_in_parts.Given as goal

abbrev pub invariant-loop-asked : goal.invariant-loop-asked
invariant-loop-asked g l =
    let whole = parts l.fn.requests (held (machine_of l.fn.self) l.fn.cells (g.H.Host.meaning l.fn.host)) l.fn.other in
    ((b : ℕ) × StandsAt l.fn.requests whole b (option_map total_report l.total) l.asked-index (held (machine_of l.self) l.cells (g.H.Host.meaning l.host)) l.other)
    × (g.H.Host.roots l.host ≡ g.H.Host.roots l.fn.host)
    × IfSome l.total (λ t. t.steps ≤ l.asked-index * 4294967296)
