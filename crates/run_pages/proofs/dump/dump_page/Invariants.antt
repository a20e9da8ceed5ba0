use Rattle.std.proofs.Common.{◌≡◌, string_bytes}
use Rattle.std.specs.List.{flat_map, range_with_len}
use Rattle.run_pages.specs.Dumps.{register_line}
use Rattle.runs.specs.Machines.{machine_of}
use Rattle.run_pages.proofs.dump.dump_page.Given as goal

abbrev pub invariant-loop-number : goal.invariant-loop-number
invariant-loop-number l = string_bytes l.page ≡ flat_map (register_line (machine_of l.machine).core) (range_with_len 0 l.number)
