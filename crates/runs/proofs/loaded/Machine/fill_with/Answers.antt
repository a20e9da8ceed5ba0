use Rattle.std.proofs.Common.{sym}
use Rattle.executable.specs.Check.{contents}
use Rattle.runs.proofs.Loads.{cells_loaded}
use Rattle.runs.proofs.loaded.Machine.fill_with.Goals as goal

pub returns-clause-cells : goal.returns-clause-cells
returns-clause-cells c = cells_loaded c.args.bytes.now c.args.cells.now c.fill.new.cells (contents c.args.executable.now) (sym c.requires.parts) c.requires.memory c.fill.ensures
