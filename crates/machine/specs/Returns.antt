-- What comes back: registers and stack after a call that returns, and after a push and its pop.
use Rattle.std.specs.Prelude.{◌≡◌, ◌≢◌, ℕ, zero, suc, ◌^◌, ◌<◌, ◌⊎◌, length, Ok, slice_index, slice_set}
use Rattle.isa.specs.Fields.{first_field, immediate_word}
use Rattle.isa.specs.declared.opcode.Opcode.{Opcode}
use Rattle.isa.specs.declared.opcode.Opcode.TheVariants.{Push, Pop, Prc, Call, Calli, Ret}
use Rattle.machine.specs.Commands.{raised}
use Rattle.machine.specs.Cores.{in_register, with_register}
use Rattle.machine.specs.Rules.{Rules}
use Rattle.machine.specs.Sequences.{IsLawful, StandsAt, receiver, word_of}
use Rattle.machine.specs.Step.{State, state, Stepped, stepped}
use Rattle.machine.specs.declared.turn.Turn.TheVariants.{Next}

-- a step without a fault, after which the run goes on in another state
abbrev pub step_to : State → Stepped
step_to y = record { turn = Ok Next; state = y }

-- a command of some opcode is done without a fault
pub record Does (o : Opcode) (s : Rules) (x y : State) : Type 0 where
  pub word : StandsAt o x
  pub step : stepped s x ≡ step_to y

-- so many pushes, of any registers
abbrev pub DoesPushes : ℕ → Rules → State → State → Type 0
DoesPushes zero s x y = x ≡ y
DoesPushes (suc n) s x y = (z : State) × (Does Push s x z × DoesPushes n s z y)

-- calli, or a call that puts the return address into another register than r13
abbrev pub DoesCall : Rules → State → State → Type 0
DoesCall s x y = Does Calli s x y ⊎ (Does Call s x y × (receiver x ≢ 13))

-- the addresses after the word at r15
abbrev pub second : State → ℕ
second x = raised (in_register x.core 15)

abbrev pub third : State → ℕ
third x = raised (second x)

-- the cells above r13, from which ret takes the stack pointer and the return address
abbrev pub stack_cell : State → ℕ
stack_cell x = raised (in_register x.core 13)

abbrev pub back_cell : State → ℕ
back_cell x = raised (stack_cell x)

-- what a cell holds
abbrev pub in_cell : State → ℕ → ℕ
in_cell x a = slice_index x.cells a

-- what a function leaves as it found it: r13, the two cells above it, and the cell into which prc put the caller's r13; it has 16 registers then too
pub record KeepsFrame (saved : ℕ) (x y : State) : Type 0 where
  pub count : length y.core.registers ≡ 16
  pub frame : in_register y.core 13 ≡ in_register x.core 13
  pub stack : in_cell y (stack_cell x) ≡ in_cell x (stack_cell x)
  pub back : in_cell y (back_cell x) ≡ in_cell x (back_cell x)
  pub caller : in_cell y saved ≡ in_cell x saved

-- prc, pushes of arguments, a call, a function that keeps its frame (one that does nothing does), and its ret
pub record Returns (arguments : ℕ) (s : Rules) (x y : State) : Type 0 where
  pub prepared : State
  pub called : State
  pub entered : State
  pub left : State
  pub prc : Does Prc s x prepared
  pub pushes : DoesPushes arguments s prepared called
  pub call : DoesCall s called entered
  pub function : KeepsFrame (in_register x.core 14) entered left
  pub ret : Does Ret s left y

-- r13 and r14 are as before prc, and r15 is past the call
pub record IsBack (x called y : State) : Type 0 where
  pub frame : in_register y.core 13 ≡ in_register x.core 13
  pub stack : in_register y.core 14 ≡ in_register x.core 14
  pub next : in_register y.core 15 ≡ second called

-- every call comes back so, over fewer than 2^32 cells and under any permit
abbrev pub ReturnsComeBack : Rules → State → Type 0
ReturnsComeBack s x = IsLawful x → length x.cells < 2 ^ 32
    → (n : ℕ) → (y : State) → (r : Returns n s x y) → IsBack x r.called y

-- a word names a register, and its immediate is 0
pub record Plainly (r : ℕ) (x : State) : Type 0 where
  pub register : first_field (word_of x) ≡ r
  pub immediate : immediate_word (word_of x) ≡ 0

-- push r 0 and then pop r 0
pub record PushesAndPops (r : ℕ) (s : Rules) (x y : State) : Type 0 where
  pub pushed : State
  pub push : Does Push s x pushed
  pub pop : Does Pop s pushed y
  pub first : Plainly r x
  pub second : Plainly r pushed

-- a state with r15 at an address, and a number in the cell at which r14 is
abbrev pub with_stored : ℕ → ℕ → State → State
with_stored a n x = state (with_register 15 a x.core) (slice_set x.cells (in_register x.core 14) n) x.meaning

-- nothing is changed but r15 and the cell at which r14 was, also where it is r14 that is pushed. A push and pop of r15 come back to the pop
pub record PopsUndoPushes (s : Rules) (x : State) : Type 0 where
  pub other : (r : ℕ) → r < 15 → (y : State) → PushesAndPops r s x y → y ≡ with_stored (third x) (in_register x.core r) x
  pub next : (y : State) → PushesAndPops 15 s x y → y ≡ with_stored (second x) (second x) x

-- they do, under any permit
abbrev pub PopsUndo : Rules → State → Type 0
PopsUndo s x = IsLawful x → PopsUndoPushes s x
