-- The questions about runs and looks, each by itself.
use Rattle.std.specs.Prelude.{◌≡◌, ℕ, ◌<◌, Bool, true, false, not, List, length, Ok, Err, Result, ◌==◌, nat_le, nat_lt}
use Rattle.runs.specs.Machines.{Machine}
use Rattle.runs.specs.Runs.{Settings, Held}
use Rattle.runs.specs.declared.refusal.CallRefusal.{CallRefusal}
use Rattle.runs.specs.declared.refusal.CallRefusal.TheVariants.{OtherMemory, HasExited, BudgetTooLarge, OutOfRange}

-- whether a memory has as many cells as at loading
abbrev pub is_own : Machine → List ℕ → Bool
is_own m c = length c == m.size

-- what a run is asked; 53 is none of it
abbrev pub run_asks : Settings → Held → CallRefusal → Bool
run_asks s h OtherMemory = is_own h.machine h.cells
run_asks s h HasExited = not h.machine.exited
run_asks s h BudgetTooLarge = nat_le s.budget 100_000_000
run_asks s h OutOfRange = true

-- what a look at a register is asked: whether there is such a register
abbrev pub register_asks : ℕ → CallRefusal → Bool
register_asks r OtherMemory = true
register_asks r HasExited = true
register_asks r BudgetTooLarge = true
register_asks r OutOfRange = nat_lt r 16

-- what a look at a cell is asked: the memory, and whether it has such a cell
abbrev pub cell_asks : Machine → List ℕ → ℕ → CallRefusal → Bool
cell_asks m c a OtherMemory = is_own m c
cell_asks m c a HasExited = true
cell_asks m c a BudgetTooLarge = true
cell_asks m c a OutOfRange = nat_lt a (length c)

-- the place of each question in the order of asking
abbrev pub rank_of : CallRefusal → ℕ
rank_of OtherMemory = 0
rank_of HasExited = 1
rank_of BudgetTooLarge = 2
rank_of OutOfRange = 3

-- an answer is given where every question gets a yes; a refusal's own question gets a no, and each that is asked before it a yes
abbrev pub FirstNo : {A : Type 0} → (CallRefusal → Bool) → Result A CallRefusal → Type 0
FirstNo asks (Ok x) = (q : CallRefusal) → asks q ≡ true
FirstNo asks (Err q) = (asks q ≡ false) × ((p : CallRefusal) → rank_of p < rank_of q → asks p ≡ true)
