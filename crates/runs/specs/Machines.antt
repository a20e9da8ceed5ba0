-- A machine by the numbers that it holds.
use Rattle.std.specs.Prelude.{ℕ, ◌/◌, Bool, false, length}
use Rattle.executable.specs.Check.{Parts}
use Rattle.machine.specs.Cores.{Core, core_of, new_core, with_register}
use Rattle.machine.specs.declared.layout.Layout.{Layout}
use Rattle.runs.specs.declared.loaded.Machine as code

-- the processor, where the parts of the program are, how many cells the memory had at loading, and whether the program has exited
pub record Machine : Type 0 where
  pub core : Core
  pub layout : Layout
  pub size : ℕ
  pub exited : Bool

-- a machine of the code
abbrev pub machine_of : code.Machine → Machine
machine_of m = record { core = core_of m.processor; layout = m.layout; size = m.size; exited = m.exited }

-- a word has 4 bytes
abbrev pub layout_of : Parts → Layout
layout_of p = record { code = length p.code / 4; constants = length p.constants / 4; stack = p.stack }

-- a new machine: r15 is the first instruction and r14 the initial stack pointer; all else is 0
abbrev pub new_machine : Parts → ℕ → Machine
new_machine p size = record { core = with_register 15 p.first (with_register 14 p.stack new_core); layout = layout_of p; size = size; exited = false }
