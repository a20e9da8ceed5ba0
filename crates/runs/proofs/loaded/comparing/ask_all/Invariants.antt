use Rattle.std.proofs.Common.{◌≡◌, drop}
use Rattle.runs.specs.Both.{both_over, lent}
use Rattle.runs.specs.Compared.{End, Compared}
use Rattle.runs.specs.Machines.{machine_of}
use Rattle.runs.proofs.loaded.comparing.ask_all.Given as goal

-- whatever the rest of the list ends with, all of it ends with
abbrev pub invariant-loop-at : goal.invariant-loop-at
invariant-loop-at g l =
    let here = both_over (machine_of l.first) (machine_of l.second) (lent l.first_cells (g.H.Host.meaning l.first_host) l.second_cells (g.K.Host.meaning l.second_host) l.other) in
    let begun = both_over (machine_of l.fn.first) (machine_of l.fn.second) (lent l.fn.first_cells (g.H.Host.meaning l.fn.first_host) l.fn.second_cells (g.K.Host.meaning l.fn.second_host) l.fn.other) in
    ((e : End) → Compared (drop l.at l.fn.pairings) l.at here e → Compared l.fn.pairings 0 begun e)
    × (g.H.Host.roots l.first_host ≡ g.H.Host.roots l.fn.first_host)
    × (g.K.Host.roots l.second_host ≡ g.K.Host.roots l.fn.second_host)
