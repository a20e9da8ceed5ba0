-- What the command compare prints, and the tape of the results under the first permit.
use Rattle.std.specs.Prelude.{◌≡◌, true, List, [], Ok, Err, Result, IfOk}
use Rattle.permit.specs.Open.{AsOpen}
use Rattle.permit.specs.Rights.{Rights, rights_of}
use Rattle.permit.specs.declared.permit.Permit.{Permit}
use Rattle.play.specs.Parting.{Parts}
use Rattle.play.specs.Watched.{Told, told_of_whole}
use Rattle.play.specs.Whole.{Orders, Outcome, whole_run}
use Rattle.play.specs.declared.comparing.Parting.{Parting}
use Rattle.play.specs.declared.refusal.Refusal.{Refusal}
use Rattle.reply.specs.Replies.{Reply}
use Rattle.run_replies.specs.Partings.{parted}
use Rattle.run_replies.specs.Running.{Running, not_run}
use Rattle.reply.specs.Runs.{refused_run}
use Rattle.run_replies.specs.Wishes.{Wishes, orders_with}
use Rattle.run_replies.specs.declared.running.Extras.{Extras}

-- it is told how the runs under two permits part, and what the run under the first comes to
abbrev pub PartsTold : Orders → Extras → Permit → Permit → Outcome → Running → Type 0
PartsTold o x one other run r = (p : Parting) × Parts o one other (Ok p) × (r ≡ parted o x p run)

-- so it is where the program is run, and else the refusal is told
abbrev pub TellsBy : Orders → Extras → Permit → Permit → Result Outcome Refusal → Running → Type 0
TellsBy o x one other (Ok run) r = PartsTold o x one other run r
TellsBy o x one other (Err q) r = r ≡ not_run (refused_run q)

unfoldable pub RunTold : Orders → Extras → Permit → Permit → Running → Type 0
RunTold o x one other r = TellsBy o x one other (whole_run o) r

-- so it is of two permits with these rights
pub record BothTold (w : Wishes) (x : Extras) (p q : Rights) (r : Running) : Type 0 where
  pub first : Permit
  pub second : Permit
  pub first_rights : rights_of first ≡ p
  pub second_rights : rights_of second ≡ q
  pub told : RunTold (orders_with w p) x first second r

-- so it is where both permits are read, and else that of the first that is refused is told
unfoldable pub ReadTold : Wishes → Extras → Result Rights Reply → Result Rights Reply → Running → Type 0
ReadTold w x (Ok p) (Ok q) r = BothTold w x p q r
ReadTold w x (Ok p) (Err refusal) r = r ≡ not_run refusal
ReadTold w x (Err refusal) other r = r ≡ not_run refusal

-- what is told of the run under the first permit while it goes on, if both are read
abbrev pub told_of_first : Wishes → Result Rights Reply → Result Rights Reply → List Told
told_of_first w (Ok p) (Ok q) = told_of_whole (orders_with w p)
told_of_first w (Ok p) (Err refusal) = []
told_of_first w (Err refusal) other = []

-- where the program is run, all is done
unfoldable pub IsDoneWhereRun : Orders → Running → Type 0
IsDoneWhereRun o r = IfOk (whole_run o) (λ _. r.reply.done ≡ true)

-- where both permits are read, the second is at least as open as the first, and the program is run, all is done
unfoldable pub IsDoneWhereOpen : Wishes → Result Rights Reply → Result Rights Reply → Running → Type 0
IsDoneWhereOpen w (Ok p) (Ok q) r = AsOpen p q → IsDoneWhereRun (orders_with w p) r
IsDoneWhereOpen w (Ok p) (Err refusal) r = Unit
IsDoneWhereOpen w (Err refusal) other r = Unit
