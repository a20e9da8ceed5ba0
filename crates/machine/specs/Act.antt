-- A command as a tree of questions and effects, and the one reading of it.
use Rattle.std.specs.Prelude.{ℕ, Bool, List, length, Ok, Err, Result, slice_index, slice_set}
use Rattle.host.specs.Meaning.{Meaning, got, after_get, write_answer, after_write}
use Rattle.host.specs.declared.item.Item.{Item}
use Rattle.host.specs.declared.item.Kind.{Kind}
use Rattle.host.specs.declared.refusal.Refusal.{Refusal}
use Rattle.machine.specs.Cores.{Core}
use Rattle.machine.specs.Rules.{Rules, is_inside, asked, register_asked, pair_asked, cell_asked, push_asked}
use Rattle.machine.specs.declared.access.Access.{Access}
use Rattle.machine.specs.declared.access.Access.TheVariants.{Reading, Writing}
use Rattle.machine.specs.declared.cause.Cause.{Cause}
use Rattle.machine.specs.declared.cause.Cause.TheVariants.{Cell, Host}
use Rattle.machine.specs.declared.turn.Turn.{Turn}

-- what a command asks: whether something holds that no permit decides, with the cause of a no; whether the permit allows an access to a register, or to a register and the next; whether an address is inside memory
pub data Question : Type 0 where
  holds : Bool → Cause → Question
  register : Access → ℕ → Question
  pair : Access → ℕ → Question
  inside : ℕ → Question

-- a command: it faults; or asks a question and goes on; or takes an item of a kind from the host; or writes one; or reads a cell; or writes one; or pushes a word to one; or is done, and leaves registers and flags, and says whether the run goes on
pub data Act : Type 0 where
  fault : Cause → Act
  ask : Question → Act → Act
  get : Kind → (Item → Act) → Act
  put : Item → Act → Act
  load : ℕ → (ℕ → Act) → Act
  store : ℕ → ℕ → Act → Act
  push : ℕ → ℕ → Act → Act
  done : Core → Turn → Act

-- what a command leaves that meets no fault
pub record After : Type 0 where
  pub turn : Turn
  pub core : Core
  pub cells : List ℕ
  pub meaning : Meaning

-- what a question is answered, over a memory of some size
abbrev pub answer : Rules → ℕ → Question → Result Unit Cause
answer s size (holds b q) = asked b q
answer s size (register x r) = register_asked s x r
answer s size (pair x r) = pair_asked s x r
answer s size (inside a) = asked (is_inside size a) Cell

-- after a yes it goes on, and a no ends it
abbrev pub on_yes : {A B : Type 0} → Result A Cause → (A → Result B Cause) → Result B Cause
on_yes (Ok x) next = next x
on_yes (Err q) next = Err q

-- a refusal of the host is a cause
abbrev pub by_host : {A : Type 0} → Result A Refusal → Result A Cause
by_host (Ok x) = Ok x
by_host (Err r) = Err (Host r)

-- what a command does over cells and a host: what it leaves, or the cause of its fault. The permit is asked here alone: of a register by a question, and of a cell by every effect that touches one
abbrev pub perform : Rules → Act → List ℕ → Meaning → Result After Cause
perform s (fault q) c m = Err q
perform s (ask q next) c m = on_yes (answer s (length c) q) (λ _. perform s next c m)
perform s (get k next) c m = on_yes (by_host (got k m)) (λ x. perform s (next x) c (after_get k m))
perform s (put x next) c m = on_yes (by_host (write_answer m)) (λ _. perform s next c (after_write x m))
perform s (load a next) c m = on_yes (cell_asked s (length c) Reading a) (λ _. perform s (next (slice_index c a)) c m)
perform s (store a v next) c m = on_yes (cell_asked s (length c) Writing a) (λ _. perform s next (slice_set c a v) m)
perform s (push a v next) c m = on_yes (push_asked s (length c) a) (λ _. perform s next (slice_set c a v) m)
perform s (done core turn) c m = Ok (record { turn = turn; core = core; cells = c; meaning = m })
