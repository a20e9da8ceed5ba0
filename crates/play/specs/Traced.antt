-- The first steps of a run.
use Rattle.std.specs.Prelude.{◌≡◌, ℕ, zero, suc, ◌+◌, min, not, cond, List, [], ◌∷◌, map, Some, None, Option, Ok, Err, Result, Vec, ◌==◌, slice_index}
use Rattle.std.specs.Global.{Global}
use Rattle.std.specs.List.{range_with_len}
use Rattle.machine.specs.Cores.{Core, in_register}
use Rattle.permit.specs.Rights.{Rights}
use Rattle.run_pages.specs.declared.step.Step.{Step}
use Rattle.runs.specs.Laws.{by_itself}
use Rattle.runs.specs.Machines.{Machine}
use Rattle.runs.specs.Runs.{Held, Called, called}
use Rattle.runs.specs.declared.refusal.CallRefusal.{CallRefusal}
use Rattle.runs.specs.declared.report.Report.{Report}
use Rattle.play.specs.Whole.{Orders, first_held, ready}
use Rattle.play.specs.declared.refusal.Refusal.{Refusal}
use Rattle.play.specs.declared.refusal.Refusal.TheVariants.{Load, NoRoom, BudgetTooLarge, Memory}
use Rattle.play.specs.declared.taken.Taken.{Taken}

-- what the registers hold, r0 first
unfoldable pub registers_of : Core → List ℕ
registers_of c = map (λ r. in_register c r) (range_with_len 0 16)

-- the word at a machine's r15, or 0 where memory has none
abbrev pub word_at : Machine → List ℕ → ℕ
word_at m cells = slice_index cells (in_register m.core 15)

-- a step after so many: its number, where its word stood, and what the registers and the flags held before and after it
abbrev pub step_between : ℕ → ℕ → Machine → Machine → Step
step_between done word before after = record {
  number = done + 1;
  address = in_register before.core 15;
  word = word;
  before = registers_of before.core;
  after = registers_of after.core;
  flags_before = before.core.flags;
  flags_after = after.core.flags;
}

-- a run of one step
abbrev pub one_step : Rights → Held → Called
one_step p h = called (record { rights = p; budget = 1 }) h

-- a step that was taken, and whether the run goes on after it: a step that faults is not taken, and neither is one of a refused run
abbrev pub taken_by : ℕ → Held → Machine → Result Report CallRefusal → Option Taken
taken_by done before after (Ok r) = cond (r.steps == 1) (Some (record { step = step_between done (word_at before.machine before.cells) before.machine after; goes_on = not (by_itself r.ending) })) None
taken_by done before after (Err q) = None

abbrev pub taken : Rights → ℕ → Held → Option Taken
taken p done h = taken_by done h (one_step p h).held.machine (one_step p h).answer

-- a step that was taken, and then the rest, if the run goes on
abbrev pub with_step : Option Taken → List Step → List Step
with_step None rest = []
with_step (Some t) rest = t.step ∷ cond t.goes_on rest []

-- the first steps of a machine, at most so many, after those that were done before
unfoldable pub traced : Rights → ℕ → ℕ → Held → List Step
traced p zero done h = []
traced p (suc n) done h = with_step (taken p done h) (traced p n (done + 1) (one_step p h).held)

-- the first steps of a run, at most so many, and at most its budget
abbrev pub traced_by : Orders → ℕ → Result Machine Refusal → Result (List Step) Refusal
traced_by o n (Ok m) = Ok (traced o.rights (min n o.budget) 0 (first_held o m))
traced_by o n (Err q) = Err q

-- an answer is what it should be; there may be no memory for it
abbrev pub AnswersSteps : Result (List Step) Refusal → Result (Vec Step Global) Refusal → Type 0
AnswersSteps x (Ok v) = x ≡ Ok v.items
AnswersSteps x (Err (Load q)) = x ≡ Err (Load q)
AnswersSteps x (Err NoRoom) = x ≡ Err NoRoom
AnswersSteps x (Err BudgetTooLarge) = x ≡ Err BudgetTooLarge
AnswersSteps x (Err Memory) = Unit

abbrev pub Traces : Orders → ℕ → Result (Vec Step Global) Refusal → Type 0
Traces o n r = AnswersSteps (traced_by o n (ready o)) r
