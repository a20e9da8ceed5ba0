-- A processor by the numbers that it holds.
use Rattle.std.specs.Prelude.{ℕ, ◌+◌, ◌%◌, ◌^◌, List, replicate, slice_index, slice_set}
use Rattle.integers.specs.Pairs.{joined}
use Rattle.machine.specs.declared.processor.Processor.{Processor}

-- r0 to r15, and the flags
pub record Core : Type 0 where
  pub registers : List ℕ
  pub flags : ℕ

-- the numbers in a processor
abbrev pub core_of : Processor → Core
core_of p = record { registers = p.registers; flags = p.flags.value }

-- a new processor has zeros
abbrev pub new_core : Core
new_core = record { registers = replicate 16 0; flags = 0 }

-- a number modulo 2^32
abbrev pub wrapped : ℕ → ℕ
wrapped n = n % 2 ^ 32

-- what a register holds
abbrev pub in_register : Core → ℕ → ℕ
in_register c r = slice_index c.registers r

-- what a pair holds: the low half in its first register, the high half in the one after
abbrev pub in_pair : Core → ℕ → ℕ
in_pair c r = joined (in_register c r) (in_register c (r + 1))

-- one register is changed
abbrev pub with_register : ℕ → ℕ → Core → Core
with_register r v c = record { registers = slice_set c.registers r v; flags = c.flags }

-- a pair is changed, low half first
abbrev pub with_pair : ℕ → ℕ × ℕ → Core → Core
with_pair r halves c = with_register (r + 1) halves.1 (with_register r halves.0 c)

-- the flags are changed
abbrev pub with_flags : ℕ → Core → Core
with_flags f c = record { registers = c.registers; flags = f }

-- r15 is at the next word
abbrev pub advanced : Core → Core
advanced c = with_register 15 (wrapped (in_register c 15 + 1)) c
