-- A run in parts: a list of requests up to the first run that ends by itself.
use Rattle.std.specs.Prelude.{◌≡◌, ℕ, ◌+◌, ◌≤◌, List, [], ◌∷◌, Some, None, Option, Ok}
use Rattle.permit.specs.Rights.{Rights, rights_of}
use Rattle.runs.specs.Requests.{Answered, answered, IsOther}
use Rattle.runs.specs.Runs.{Held, called}
use Rattle.runs.specs.declared.report.Ending.{Ending}
use Rattle.runs.specs.declared.report.Ending.TheVariants.{Spent, Halted, Exited, Fault as Faulted}
use Rattle.runs.specs.declared.report.Report.{Report}
use Rattle.runs.specs.declared.request.Answer.{Answer}
use Rattle.runs.specs.declared.request.Answer.TheVariants.{Ran, Saw, Refused}
use Rattle.runs.specs.declared.request.Call.{Call}
use Rattle.runs.specs.declared.request.Call.TheVariants.{Run, Register, Flags, Cell}
use Rattle.runs.specs.declared.request.PermittedRequest.{PermittedRequest}
use Rattle.runs.specs.declared.total.Total as code

-- the summed budget of the runs that were taken, the sum of their counts with the last ending, and what is left
pub record Total : Type 0 where
  pub budget : ℕ
  pub report : Option Report
  pub held : Held
  pub other : List ℕ

-- the counts of runs are added, and the last ending is that of all
abbrev pub joined : Option Report → Option Report → Option Report
joined None s = s
joined (Some r) None = Some r
joined (Some r) (Some s) = Some (record { steps = r.steps + s.steps; ending = s.ending })

-- runs before others
abbrev pub after_runs : ℕ → Option Report → Total → Total
after_runs b r t = record { budget = b + t.budget; report = joined r t.report; held = t.held; other = t.other }

-- the budget of a run
abbrev pub budget_of : Call → ℕ
budget_of (Run b) = b
budget_of (Register r) = 0
budget_of Flags = 0
budget_of (Cell a) = 0

-- one run, and what it leaves
abbrev pub only : ℕ → Report → Held → List ℕ → Total
only b r h o = record { budget = b; report = Some r; held = h; other = o }

-- a run that is spent goes on with the requests after it, and one that ends by itself is the last
abbrev pub after_run_by : Ending → ℕ → Report → Held → List ℕ → Total → Total
after_run_by Spent b r h o rest = after_runs b (Some r) rest
after_run_by Halted b r h o rest = only b r h o
after_run_by (Exited c) b r h o rest = only b r h o
after_run_by (Faulted f) b r h o rest = only b r h o

-- looks and refused calls count for nothing
abbrev pub after_answer : ℕ → Answer → Held → List ℕ → Total → Total
after_answer b (Ran r) h o rest = after_run_by r.ending b r h o rest
after_answer b (Saw v) h o rest = rest
after_answer b (Refused q) h o rest = rest

-- a request is answered under its permit
abbrev pub answered_under : PermittedRequest → Held → List ℕ → Answered
answered_under x h o = answered (rights_of x.permit) x.request h o

-- the requests in turn
unfoldable pub parts : List PermittedRequest → Held → List ℕ → Total
parts [] h o = record { budget = 0; report = None; held = h; other = o }
parts (x ∷ xs) h o =
    let a = answered_under x h o in
    after_answer (budget_of x.request.call) a.answer a.held a.other (parts xs a.held a.other)

-- what is handed in is the machine's own memory or another one, at every request
abbrev pub AllOther : ℕ → List ℕ → List PermittedRequest → Type 0
AllOther size o [] = Unit
AllOther size o (x ∷ xs) = IsOther size o x.request.memory × AllOther size o xs

-- a fact that is owed of the requests after a run only where it is spent
abbrev pub WhereSpent : Ending → Type 0 → Type 0
WhereSpent Spent rest = rest
WhereSpent Halted rest = Unit
WhereSpent (Exited c) rest = Unit
WhereSpent (Faulted f) rest = Unit

-- a fact that is owed where a request is a run that is taken, and another of the requests after it
abbrev pub WhereTaken : Answer → Type 0 → Type 0 → Type 0
WhereTaken (Ran r) here rest = here × WhereSpent r.ending rest
WhereTaken (Saw v) here rest = rest
WhereTaken (Refused q) here rest = rest

-- the runs that are taken have the same rights; looks and refused calls between them have any
unfoldable pub RunsUnder : Rights → List PermittedRequest → Held → List ℕ → Type 0
RunsUnder p [] h o = Unit
RunsUnder p (x ∷ xs) h o =
    let a = answered_under x h o in
    WhereTaken a.answer (rights_of x.permit ≡ p) (RunsUnder p xs a.held a.other)

-- the runs of a list that have the same rights are together one run of the summed budget under these, if that is lawful; no other memory that is handed in is as long as the machine's
abbrev pub OneRunOfTheSum : Rights → List PermittedRequest → Held → List ℕ → Type 0
OneRunOfTheSum p xs h o =
    AllOther h.machine.size o xs → RunsUnder p xs h o
    → (r : Report) → (parts xs h o).report ≡ Some r → (parts xs h o).budget ≤ 100_000_000
    → called (record { rights = p; budget = (parts xs h o).budget }) h ≡ record { answer = Ok r; held = (parts xs h o).held }

-- parts of another memory that are not as long as the machine's are never written
abbrev pub LeavesOther : List PermittedRequest → Held → List ℕ → Type 0
LeavesOther xs h o = AllOther h.machine.size o xs → (parts xs h o).other ≡ o

-- what a call tells, as a report
abbrev pub total_report : code.Total → Report
total_report t = record { steps = t.steps; ending = t.ending }
