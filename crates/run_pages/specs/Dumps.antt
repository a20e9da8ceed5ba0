-- The page of what a machine holds. Byte 10 ends each line.
use Rattle.std.specs.Prelude.{ℕ, List, [], ◌∷◌, ◌++◌, codes, decimal}
use Rattle.std.specs.List.{flat_map, range_with_len}
use Rattle.machine.specs.Cores.{Core, in_register}
use Rattle.runs.specs.Machines.{Machine}

-- the numbers of the registers, 0 to 15
abbrev pub registers : List ℕ
registers = range_with_len 0 16

-- rN V
abbrev pub register_line : Core → ℕ → List ℕ
register_line c n = codes "r" ++ (decimal n ++ (32 ∷ (decimal (in_register c n) ++ 10 ∷ [])))

-- flags V
abbrev pub flags_line : Core → List ℕ
flags_line c = codes "flags " ++ (decimal c.flags ++ 10 ∷ [])

-- the registers in turn, and the flags
abbrev pub dump_page : Machine → List ℕ
dump_page m = flat_map (register_line m.core) registers ++ flags_line m.core
