-- Opening a record.
use Rattle.std.specs.Prelude.{◌≡◌, ℕ, Bool, true, false, ◌&&◌, List, [], Ok, Err, Result, ◌==◌}
use Rattle.std.specs.List.{ends_with}
use Rattle.listing.specs.declared.refusal.Refusal as listing
use Rattle.permit.specs.Rights.{Rights}
use Rattle.permit_text.specs.Files.{permit_in}
use Rattle.permit_text.specs.declared.error.PermitError.{PermitError}
use Rattle.play.specs.Watched.{Told, told_of_whole}
use Rattle.play.specs.Whole.{Orders, Outcome, whole_run}
use Rattle.play.specs.Whole as play
use Rattle.play.specs.declared.refusal.Refusal as playing
use Rattle.run_pages.specs.Runs.{run_page}
use Rattle.tasks.specs.Listing.{listed_whole}
use Rattle.tasks.specs.declared.listing_page.ListError.{ListError}
use Rattle.tasks.specs.declared.listing_page.ListError.TheVariants as list
use Rattle.record.specs.Findings.{texts_found, tapes_found}
use Rattle.record.specs.declared.contents.Contents as code
use Rattle.record.specs.declared.finding.Finding.{Finding}
use Rattle.record.specs.declared.finding.Finding.TheVariants.{Agrees, Differs}
use Rattle.record.specs.declared.replay.Opened as found
use Rattle.record.specs.declared.replay.ReplayError.{ReplayError}
use Rattle.record.specs.declared.replay.ReplayError.TheVariants.{Executable, Memory}
use Rattle.record.specs.declared.replay.Rerun as again
use Rattle.record.specs.declared.replay.RunError.{RunError}
use Rattle.record.specs.declared.replay.RunError.TheVariants.{Permit, Run}

-- the files of a record
pub record Contents : Type 0 where
  pub executable : List ℕ
  pub listing : List ℕ
  pub readings : List ℕ
  pub results : List ℕ
  pub permit : List ℕ
  pub page : List ℕ

abbrev pub contents_of : code.Contents → Contents
contents_of c = record { executable = c.executable.now; listing = c.listing.now; readings = c.readings.now; results = c.results.now; permit = c.permit.now; page = c.page.now }

-- a record is run with the most steps, cells and writes that are lawful
abbrev pub orders_for : List ℕ → List ℕ → Rights → Orders
orders_for executable readings rights = record { executable = executable; readings = readings; rights = rights; budget = 100_000_000; cells = 1_048_576; writes = 65_536 }

-- the lines with which the page ends
abbrev pub facts : Outcome → List ℕ
facts o = run_page o.report o.taken o.written

-- what running its program again gives, the filed results beside those, and whether the page ends with what it comes to
pub record Rerun : Type 0 where
  pub outcome : Outcome
  pub results : Finding
  pub page : Bool

abbrev pub rerun_of : Contents → Outcome → Rerun
rerun_of c o = record { outcome = o; results = tapes_found c.results o.results; page = ends_with (λ a b. a == b) c.page (facts o) }

-- under the permit, if that is read
abbrev pub rerun_by : Contents → Result Outcome playing.Refusal → Result Rerun RunError
rerun_by c (Ok o) = Ok (rerun_of c o)
rerun_by c (Err q) = Err (Run q)

abbrev pub run_under : Contents → Result Rights PermitError → Result Rerun RunError
run_under c (Ok rights) = rerun_by c (whole_run (orders_for c.executable c.readings rights))
run_under c (Err e) = Err (Permit e)

abbrev pub run_found : Contents → Result Rerun RunError
run_found c = run_under c (permit_in c.permit)

-- what is told of that run while it goes on
abbrev pub told_under : Contents → Result Rights PermitError → List Told
told_under c (Ok rights) = told_of_whole (orders_for c.executable c.readings rights)
told_under c (Err e) = []

abbrev pub told_of_rerun : Contents → List Told
told_of_rerun c = told_under c (permit_in c.permit)

-- what is found of a record
pub record Opened : Type 0 where
  pub listing : Finding
  pub run : Result Rerun RunError

-- if its program is an executable
abbrev pub opened_by : Contents → Result (List ℕ) listing.Refusal → Result Opened listing.Refusal
opened_by c (Ok page) = Ok (record { listing = texts_found page c.listing; run = run_found c })
opened_by c (Err q) = Err q

abbrev pub opened : Contents → Result Opened listing.Refusal
opened c = opened_by c (listed_whole c.executable)

-- what is told while it is opened
abbrev pub told_by : Contents → Result (List ℕ) listing.Refusal → List Told
told_by c (Ok page) = told_of_rerun c
told_by c (Err q) = []

abbrev pub told_of_opening : Contents → List Told
told_of_opening c = told_by c (listed_whole c.executable)

-- whether all agrees
abbrev pub is_agreed : Finding → Bool
is_agreed Agrees = true
is_agreed (Differs n) = false

abbrev pub run_agrees : Result Rerun RunError → Bool
run_agrees (Ok r) = is_agreed r.results && r.page
run_agrees (Err e) = false

abbrev pub agrees : Opened → Bool
agrees o = is_agreed o.listing && run_agrees o.run

-- answers of the code
abbrev pub shown_rerun : again.Rerun → Rerun
shown_rerun r = record { outcome = play.shown r.played; results = r.results; page = r.page }

abbrev pub shown_run : Result again.Rerun RunError → Result Rerun RunError
shown_run (Ok r) = Ok (shown_rerun r)
shown_run (Err e) = Err e

abbrev pub shown : found.Opened → Opened
shown o = record { listing = o.listing; run = shown_run o.run }

abbrev pub after_listing : ListError → ReplayError
after_listing (list.Refused q) = Executable q
after_listing list.Memory = Memory

-- an answer tells what is found, unless there is no memory
abbrev pub Replays : Contents → Result found.Opened ReplayError → Type 0
Replays c (Ok o) = opened c ≡ Ok (shown o)
Replays c (Err (Executable q)) = opened c ≡ Err q
Replays c (Err Memory) = Unit
