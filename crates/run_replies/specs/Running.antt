-- What the command run prints, and the tape of the results.
use Rattle.std.specs.Prelude.{ℕ, Bool, true, false, List, [], ◌++◌, Some, None, Option, Ok, Err, Result, Vec}
use Rattle.std.specs.Global.{Global}
use Rattle.permit.specs.Rights.{Rights}
use Rattle.play.specs.Traced.{traced_by}
use Rattle.play.specs.Watched.{Told, told_of_whole}
use Rattle.play.specs.Whole.{Orders, Outcome, ready, whole_run}
use Rattle.play.specs.declared.refusal.Refusal.{Refusal}
use Rattle.reply.specs.Replies.{Reply, done, shown}
use Rattle.reply.specs.Runs.{outcome_page}
use Rattle.reply.specs.declared.named.Named.{Named}
use Rattle.run_pages.specs.Dumps.{dump_page}
use Rattle.run_pages.specs.Steps.{steps_page}
use Rattle.run_pages.specs.declared.step.Step.{Step}
use Rattle.run_replies.specs.Permits.{permit_given}
use Rattle.reply.specs.Runs.{refused_run}
use Rattle.run_replies.specs.Wishes.{Wishes, orders_with}
use Rattle.run_replies.specs.declared.running.Extras.{Extras}
use Rattle.run_replies.specs.declared.running.Running as code
use Rattle.runs.specs.Machines.{Machine}

-- a reply, and the tape of the results, where the program is run
pub record Running : Type 0 where
  pub reply : Reply
  pub results : Option (List ℕ)

-- what a machine holds, if it is asked for
abbrev pub dump_lines : Bool → Machine → List ℕ
dump_lines true m = dump_page m
dump_lines false m = []

-- the first steps of a run, at most so many
unfoldable pub first_steps : Orders → ℕ → Result (List Step) Refusal
first_steps o n = traced_by o n (ready o)

-- the lines of the first steps; no steps are known of a program that is not run
abbrev pub steps_lines : Result (List Step) Refusal → List ℕ
steps_lines (Ok steps) = steps_page steps
steps_lines (Err q) = []

-- the outcome, what the machine holds, and the first steps
unfoldable pub ran_page : Orders → Extras → Outcome → List ℕ
ran_page o x run = outcome_page run ++ dump_lines x.dump run.machine ++ steps_lines (first_steps o x.trace)

-- a run that was taken, by its page and the tape of its results
abbrev pub ran : List ℕ → List ℕ → Running
ran page tape = record { reply = done page; results = Some tape }

-- no run
abbrev pub not_run : Reply → Running
not_run r = record { reply = r; results = None }

-- a run under a permit, if it is not refused
abbrev pub run_by : Orders → Extras → Result Outcome Refusal → Running
run_by o x (Ok run) = ran (ran_page o x run) run.results
run_by o x (Err q) = not_run (refused_run q)

unfoldable pub run_under : Orders → Extras → Running
run_under o x = run_by o x (whole_run o)

-- a run under the permit of a file, if that is read
unfoldable pub run_with : Wishes → Extras → Result Rights Reply → Running
run_with w x (Ok p) = run_under (orders_with w p) x
run_with w x (Err r) = not_run r

abbrev pub running : Wishes → Option Named → Extras → Running
running w file x = run_with w x (permit_given file)

-- what is told of the run while it goes on
abbrev pub told_with : Wishes → Result Rights Reply → List Told
told_with w (Ok p) = told_of_whole (orders_with w p)
told_with w (Err r) = []

abbrev pub told_of_running : Wishes → Option Named → List Told
told_of_running w file = told_with w (permit_given file)

-- answers of the code
abbrev pub shown_tape : Option (Vec ℕ Global) → Option (List ℕ)
shown_tape None = None
shown_tape (Some tape) = Some tape.items

abbrev pub shown_running : code.Running → Running
shown_running r = record { reply = shown r.reply; results = shown_tape r.results }
