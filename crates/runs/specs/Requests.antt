-- Requests, and what is answered.
use Rattle.std.specs.Prelude.{◌≢◌, ℕ, ◌+◌, List, [], ◌∷◌, ◌++◌, length, take, drop, Ok, Err, Result}
use Rattle.permit.specs.Rights.{Rights}
use Rattle.runs.specs.Looks.{register_seen, cell_seen}
use Rattle.runs.specs.Runs.{Held, held, called}
use Rattle.runs.specs.declared.refusal.CallRefusal.{CallRefusal}
use Rattle.runs.specs.declared.report.Report.{Report}
use Rattle.runs.specs.declared.request.Answer.{Answer}
use Rattle.runs.specs.declared.request.Answer.TheVariants.{Ran, Saw, Refused}
use Rattle.runs.specs.declared.request.Call.{Call}
use Rattle.runs.specs.declared.request.Call.TheVariants.{Run, Register, Flags, Cell}
use Rattle.runs.specs.declared.request.Memory.{Memory}
use Rattle.runs.specs.declared.request.Memory.TheVariants.{Own, Other}
use Rattle.runs.specs.declared.request.Part.{Part}
use Rattle.runs.specs.declared.request.Request.{Request}

-- an answer, and the machine with the memory of the call after it
pub record Made : Type 0 where
  pub answer : Answer
  pub held : Held

-- what a run answers, and what a look does
abbrev pub told : Result Report CallRefusal → Answer
told (Ok r) = Ran r
told (Err q) = Refused q

abbrev pub seen : Result ℕ CallRefusal → Answer
seen (Ok v) = Saw v
seen (Err q) = Refused q

-- a call with a memory: only a run can change something
abbrev pub made : Rights → Call → Held → Made
made p (Run b) h = record { answer = told (called (record { rights = p; budget = b }) h).answer; held = (called (record { rights = p; budget = b }) h).held }
made p (Register r) h = record { answer = seen (register_seen h.machine r); held = h }
made p Flags h = record { answer = Saw h.machine.core.flags; held = h }
made p (Cell a) h = record { answer = seen (cell_seen h.machine h.cells a); held = h }

-- the cells of a part of a memory
abbrev pub cells_in : Part → List ℕ → List ℕ
cells_in p c = take p.len (drop p.start c)

-- a memory with other cells in a part
abbrev pub with_part : Part → List ℕ → List ℕ → List ℕ
with_part p c new = take p.start c ++ new ++ drop (p.start + p.len) c

-- an answer, the machine with its own memory after it, and the other memory
pub record Answered : Type 0 where
  pub answer : Answer
  pub held : Held
  pub other : List ℕ

-- a call with a part of another memory: the machine has its own back after it
abbrev pub with_own_back : Part → Held → List ℕ → Made → Answered
with_own_back part h o m = record { answer = m.answer; held = held m.held.machine h.cells m.held.meaning; other = with_part part o m.held.cells }

-- a call with the machine's own memory, or with a part of another one
abbrev pub answered_with : Rights → Call → Memory → Held → List ℕ → Answered
answered_with p c Own h o = record { answer = (made p c h).answer; held = (made p c h).held; other = o }
answered_with p c (Other part) h o = with_own_back part h o (made p c (held h.machine (cells_in part o) h.meaning))

-- a request of a machine, where another memory stands ready
abbrev pub answered : Rights → Request → Held → List ℕ → Answered
answered p r h o = answered_with p r.call r.memory h o

-- what is handed in is the machine's own memory, or has another length than that, whatever it holds
abbrev pub IsOther : ℕ → List ℕ → Memory → Type 0
IsOther size o Own = Unit
IsOther size o (Other part) = length (cells_in part o) ≢ size
