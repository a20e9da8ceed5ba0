-- Loading an executable into a memory.
use Rattle.std.specs.Prelude.{◌≡◌, ℕ, ◌+◌, ◌/◌, ◌<◌, ◌≤◌, Bool, true, false, cond, ◌&&◌, List, length, map, drop, Ok, Err, Result, nat_le, nat_lt, slice_index}
use Rattle.machine.specs.Cores.{in_register}
use Rattle.std.specs.List.{range_with_len}
use Rattle.executable.specs.Bytes.{words_of}
use Rattle.executable.specs.Check.{Parts, checked, contents}
use Rattle.executable.specs.Questions.{asked, rank_of}
use Rattle.executable.specs.declared.parts.Executable as parts
use Rattle.executable.specs.declared.refusal.Refusal.{Refusal}
use Rattle.runs.specs.Machines.{Machine, machine_of, new_machine}
use Rattle.runs.specs.declared.loaded.Machine as code
use Rattle.runs.specs.declared.refusal.LoadRefusal.{LoadRefusal}
use Rattle.runs.specs.declared.refusal.LoadRefusal.TheVariants.{Executable, Memory}

-- 29: has the memory from 1,024 up to 1,048,576 cells, and do words, start and stack pointer lie in it?
abbrev pub memory_fits : Parts → ℕ → Bool
memory_fits p size =
    nat_le 1024 size && (nat_le size 1048576
    && (nat_le (length p.code / 4 + length p.constants / 4) size
    && (nat_lt p.first size && nat_lt p.stack size)))

-- the cells of a memory of some size that is filled with the words of some bytes: each cell holds the word with its number, and past the last word 0
abbrev pub fill : List ℕ → ℕ → List ℕ
fill bs size = map (λ a. slice_index (words_of bs) a) (range_with_len 0 size)

-- the machine of accepted parts, or 29
abbrev pub load_parts : ℕ → Result Parts Refusal → Result Machine LoadRefusal
load_parts size (Ok p) = cond (memory_fits p size) (Ok (new_machine p size)) (Err Memory)
load_parts size (Err q) = Err (Executable q)

-- 20 to 26, then 29, and then the machine
abbrev pub loaded : List ℕ → ℕ → Result Machine LoadRefusal
loaded bs size = load_parts size (checked bs)

-- accepted parts of some bytes that fit into a memory of some size
pub record Fits (bs : List ℕ) (size : ℕ) (p : Parts) : Type 0 where
  pub parts : checked bs ≡ Ok p
  pub long : 512 ≤ length bs
  pub memory : memory_fits p size ≡ true

-- what is found out before a memory is filled: the parts of an executable that fits, or why none is loaded
abbrev pub Admits : List ℕ → ℕ → Result parts.Executable LoadRefusal → Type 0
Admits bs size (Ok e) = Fits bs size (contents e)
Admits bs size (Err q) = loaded bs size ≡ Err q

-- an answer of the code
abbrev pub shown : Result code.Machine LoadRefusal → Result Machine LoadRefusal
shown (Ok m) = Ok (machine_of m)
shown (Err q) = Err q

-- the cells after loading: code and constants, which stand behind the header of 512 bytes, and zeros; a refusal leaves them
abbrev pub cells_by : List ℕ → List ℕ → Result Machine LoadRefusal → List ℕ
cells_by bs cells (Ok m) = fill (drop 512 bs) (length cells)
cells_by bs cells (Err q) = cells

abbrev pub cells_after : List ℕ → List ℕ → List ℕ
cells_after bs cells = cells_by bs cells (loaded bs (length cells))

-- the question behind each refusal
abbrev pub load_asked : LoadRefusal → List ℕ → ℕ → Bool
load_asked (Executable q) bs size = asked q bs
load_asked Memory bs size = fits_by (checked bs)
  where
    fits_by : Result Parts Refusal → Bool
    fits_by (Ok p) = memory_fits p size
    fits_by (Err q) = false

-- the place of each question in the order of asking: the memory is asked about after all questions of the check
abbrev pub load_rank : LoadRefusal → ℕ
load_rank (Executable q) = rank_of q
load_rank Memory = 7

-- a machine is loaded where every question gets a yes; a refusal's own question gets a no, and each that is asked before it a yes
abbrev pub LoadsFirstNo : List ℕ → ℕ → Result Machine LoadRefusal → Type 0
LoadsFirstNo bs size (Ok m) = (q : LoadRefusal) → load_asked q bs size ≡ true
LoadsFirstNo bs size (Err q) = (load_asked q bs size ≡ false) × ((p : LoadRefusal) → load_rank p < load_rank q → load_asked p bs size ≡ true)

-- a machine as it is loaded: its next instruction, its stack pointer and all words of its program are inside memory
pub record IsInside (m : Machine) : Type 0 where
  pub first : in_register m.core 15 < m.size
  pub stack : in_register m.core 14 < m.size
  pub words : m.layout.code + m.layout.constants ≤ m.size
