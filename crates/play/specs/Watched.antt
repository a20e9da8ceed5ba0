-- What a watcher is told of a run, which is taken in parts of at most 5,000,000 steps.
use Rattle.std.specs.Prelude.{◌≡◌, ℕ, ◌+◌, ◌*◌, ◌⊎◌, Bool, min, not, List, [], ◌∷◌, length, map, Ok, Err, Result}
use Rattle.std.specs.Int.{div_ceil}
use Rattle.std.specs.List.{filter, range_with_len}
use Rattle.permit.specs.Rights.{Rights}
use Rattle.runs.specs.Laws.{by_itself}
use Rattle.runs.specs.Machines.{Machine}
use Rattle.runs.specs.Runs.{Held, Ran, Settings, run_asked}
use Rattle.runs.specs.declared.refusal.CallRefusal.{CallRefusal}
use Rattle.play.specs.Waiting.{tape_left}
use Rattle.play.specs.Whole.{Orders, first_held, ready, run_from}
use Rattle.play.specs.declared.refusal.Refusal.{Refusal}
use Rattle.play.specs.declared.watch.Progress.{Progress}

-- how far a run is: the steps so far, the most that it may take, and the tape of the readings that still wait
pub record Told : Type 0 where
  pub steps : ℕ
  pub budget : ℕ
  pub waiting : List ℕ

-- what a progress says
abbrev pub told : Progress → Told
told p = record { steps = p.steps; budget = p.budget; waiting = p.waiting.now }

-- how far a run over some readings is after a part of its budget
abbrev pub how_far : List ℕ → ℕ → Ran → Told
how_far readings budget r = record { steps = r.report.steps; budget = budget; waiting = tape_left readings (length r.state.meaning.waiting) }

-- a part is taken where the run of the steps before it is spent
abbrev pub is_taken : Rights → Held → ℕ → Bool
is_taken p h start = not (by_itself (run_from p start h).report.ending)

-- where the parts of a budget begin: at 0, at 5,000,000 and so on
abbrev pub part_starts : ℕ → List ℕ
part_starts budget = map (λ k. k * 5_000_000) (range_with_len 0 (div_ceil budget 5_000_000))

-- how far a run is after a part, the last of which ends with the budget
abbrev pub after_part : List ℕ → Settings → Held → ℕ → Told
after_part readings s h start = how_far readings s.budget (run_from s.rights (min (start + 5_000_000) s.budget) h)

-- what is told of a run: how far it is after each part that is taken
unfoldable pub told_of : List ℕ → Settings → Held → List Told
told_of readings s h = map (after_part readings s h) (filter (is_taken s.rights h) (part_starts s.budget))

-- nothing is told of a refused run
abbrev pub told_by : List ℕ → Settings → Held → Result ℕ CallRefusal → List Told
told_by readings s h (Ok n) = told_of readings s h
told_by readings s h (Err q) = []

abbrev pub told_if_run : List ℕ → Settings → Held → List Told
told_if_run readings s h = told_by readings s h (run_asked h.machine (length h.cells) s.budget)

-- the settings of the run that is asked for
abbrev pub settings_asked : Orders → Settings
settings_asked o = record { rights = o.rights; budget = o.budget }

-- what is told of a whole run
abbrev pub told_once_ready : Orders → Result Machine Refusal → List Told
told_once_ready o (Ok m) = told_of o.readings (settings_asked o) (first_held o m)
told_once_ready o (Err q) = []

abbrev pub told_of_whole : Orders → List Told
told_of_whole o = told_once_ready o (ready o)

-- somebody hears one thing after the other, each of them once
abbrev pub HearsAll : {W : Type 0} → (W → Told → W → Type 0) → List Told → W → W → Type 0
HearsAll hears [] before after = after ≡ before
HearsAll hears (t ∷ ts) before after = (next : _) × hears before t next × HearsAll hears ts next after

-- somebody hears all of that where there is an answer; where there is none, all or nothing
abbrev pub Hears : {W A E : Type 0} → (W → Told → W → Type 0) → List Told → Result A E → W → W → Type 0
Hears hears ts (Ok a) before after = HearsAll hears ts before after
Hears hears ts (Err e) before after = HearsAll hears ts before after ⊎ (after ≡ before)
