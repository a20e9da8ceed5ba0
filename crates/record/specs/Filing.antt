-- Making a record.
use Rattle.std.specs.Prelude.{◌≡◌, ℕ, true, List, [], ◌++◌, length, Ok, Err, Result}
use Rattle.assembler.specs.declared.question.Refusal as question
use Rattle.listing.specs.declared.refusal.Refusal as listing
use Rattle.permit.specs.Rights.{Rights}
use Rattle.permit_text.specs.Files.{permit_in}
use Rattle.permit_text.specs.declared.error.PermitError.{PermitError}
use Rattle.play.specs.Watched.{Told, told_of_whole}
use Rattle.play.specs.Whole.{Outcome, whole_run}
use Rattle.play.specs.Whole as play
use Rattle.play.specs.declared.refusal.Refusal as playing
use Rattle.play.specs.declared.refusal.Refusal.TheVariants as refusal
use Rattle.tasks.specs.Assembling.{made}
use Rattle.tasks.specs.Assembling as tasks
use Rattle.tasks.specs.Listing.{listed_whole}
use Rattle.tasks.specs.declared.assembling.AssembleError.{AssembleError}
use Rattle.tasks.specs.declared.assembling.AssembleError.TheVariants as assembling
use Rattle.record.specs.Opened.{Contents, Opened, agrees, facts, orders_for}
use Rattle.record.specs.declared.file.FileError.{FileError}
use Rattle.record.specs.declared.file.FileError.TheVariants.{Source, Permit, Run, Memory}
use Rattle.record.specs.declared.file.Inputs as code
use Rattle.record.specs.declared.file.Made as made

-- what a record is made of
pub record Inputs : Type 0 where
  pub source : List ℕ
  pub readings : List ℕ
  pub permit : List ℕ
  pub preamble : List ℕ

abbrev pub inputs_of : code.Inputs → Inputs
inputs_of i = record { source = i.source.now; readings = i.readings.now; permit = i.permit.now; preamble = i.preamble.now }

-- the page: the preamble, and then what the run came to
abbrev pub page_text : List ℕ → Outcome → List ℕ
page_text preamble o = preamble ++ facts o

-- what is made
pub record Made : Type 0 where
  pub executable : List ℕ
  pub labels : ℕ
  pub listing : List ℕ
  pub page : List ℕ
  pub outcome : Outcome

abbrev pub shown_made : made.Made → Made
shown_made m = record { executable = m.executable.items; labels = m.labels; listing = m.listing.items; page = m.page.items; outcome = play.shown m.played }

-- of an executable, its listing and its run
abbrev pub made_by : Inputs → tasks.Made → List ℕ → Outcome → Made
made_by i a page o = record { executable = a.bytes; labels = length a.labels; listing = page; page = page_text i.preamble o; outcome = o }

abbrev pub with_run : Inputs → tasks.Made → List ℕ → Result Outcome playing.Refusal → Result Made FileError
with_run i a page (Ok o) = Ok (made_by i a page o)
with_run i a page (Err q) = Err (Run q)

-- a listing is there of whatever was assembled
abbrev pub with_listing : Inputs → tasks.Made → Rights → Result (List ℕ) listing.Refusal → Result Made FileError
with_listing i a rights (Ok page) = with_run i a page (whole_run (orders_for a.bytes i.readings rights))
with_listing i a rights (Err q) = Err Memory

abbrev pub with_permit : Inputs → tasks.Made → Result Rights PermitError → Result Made FileError
with_permit i a (Ok rights) = with_listing i a rights (listed_whole a.bytes)
with_permit i a (Err e) = Err (Permit e)

abbrev pub filed_by : Inputs → Result tasks.Made question.Refusal → Result Made FileError
filed_by i (Ok a) = with_permit i a (permit_in i.permit)
filed_by i (Err r) = Err (Source r)

-- the source is assembled, the permit read, the executable listed and run; the first refusal counts
abbrev pub filed : Inputs → Result Made FileError
filed i = filed_by i (made i.source)

-- what is told of the run while it goes on
abbrev pub told_under : Inputs → tasks.Made → Result Rights PermitError → List Told
told_under i a (Ok rights) = told_of_whole (orders_for a.bytes i.readings rights)
told_under i a (Err e) = []

abbrev pub told_by : Inputs → Result tasks.Made question.Refusal → List Told
told_by i (Ok a) = told_under i a (permit_in i.permit)
told_by i (Err r) = []

abbrev pub told_of_filing : Inputs → List Told
told_of_filing i = told_by i (made i.source)

-- an answer is that, unless there is no memory
abbrev pub Files : Inputs → Result made.Made FileError → Type 0
Files i (Ok m) = filed i ≡ Ok (shown_made m)
Files i (Err (Source r)) = filed i ≡ Err (Source r)
Files i (Err (Permit e)) = filed i ≡ Err (Permit e)
Files i (Err (Run q)) = filed i ≡ Err (Run q)
Files i (Err Memory) = Unit

-- the record: what is made, with the readings and the permit that were given
abbrev pub contents_with : Inputs → Made → Contents
contents_with i m = record { executable = m.executable; listing = m.listing; readings = i.readings; results = m.outcome.results; permit = i.permit; page = m.page }

-- it is opened, and all of it agrees
abbrev pub ReplayAgrees : Result Opened listing.Refusal → Type 0
ReplayAgrees (Ok o) = agrees o ≡ true
ReplayAgrees (Err q) = ⊥

-- errors of what is called
abbrev pub after_assembling : AssembleError → FileError
after_assembling (assembling.Refused r) = Source r
after_assembling assembling.Memory = Memory

abbrev pub after_playing : playing.Refusal → FileError
after_playing (refusal.Load q) = Run (refusal.Load q)
after_playing refusal.NoRoom = Run refusal.NoRoom
after_playing refusal.BudgetTooLarge = Run refusal.BudgetTooLarge
after_playing refusal.Memory = Memory
