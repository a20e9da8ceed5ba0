-- Opening a record, and what is told of it.
use Rattle.std.specs.Prelude.{ℕ, Bool, true, false, List, ◌++◌, Ok, Err, Result, codes}
use Rattle.listing.specs.Numbers.{number_of}
use Rattle.listing.specs.declared.refusal.Refusal.{Refusal}
use Rattle.record.specs.Opened.{Contents, Opened, agrees, opened}
use Rattle.reply.specs.Replies.{Reply, line, undone, refused}
use Rattle.record_replies.specs.Listings.{listing_lines}
use Rattle.record_replies.specs.Reruns.{run_lines}

-- its program is no executable, and why
abbrev pub no_executable : Refusal → Reply
no_executable q = undone (line (codes "program: no executable") ++ (refused (number_of q)).page)

-- whether all of it agrees
abbrev pub all_line : Bool → List ℕ
all_line true = line (codes "all of the record agrees")
all_line false = line (codes "not all of the record agrees")

-- what was found of its program, its listing and its run
abbrev pub opened_page : Contents → Opened → List ℕ
opened_page c o =
    line (codes "program: accepted") ++ (listing_lines c.executable c.listing o.listing ++ (run_lines c.results o.run ++ all_line (agrees o)))

-- that, and whether all of it agrees
abbrev pub told : Contents → Opened → Reply
told c o = record { page = opened_page c o; done = agrees o }

-- by what opening it gives
abbrev pub replayed_by : Contents → Result Opened Refusal → Reply
replayed_by c (Ok o) = told c o
replayed_by c (Err q) = no_executable q

-- what opening a record tells
abbrev pub replayed : Contents → Reply
replayed c = replayed_by c (opened c)
