-- The lines that tell of the run of a record.
use Rattle.std.specs.Prelude.{ℕ, ◌-◌, Bool, true, false, List, ◌++◌, Some, None, Option, Ok, Err, Result, codes, decimal}
use Rattle.std.specs.List.{slice_get}
use Rattle.host.specs.Tapes.{items}
use Rattle.host.specs.declared.item.Item.{Item}
use Rattle.item_lines.specs.Lines.{item_text}
use Rattle.record.specs.Opened.{Rerun}
use Rattle.record.specs.declared.finding.Finding.{Finding}
use Rattle.record.specs.declared.finding.Finding.TheVariants.{Agrees, Differs}
use Rattle.record.specs.declared.replay.RunError.{RunError}
use Rattle.record.specs.declared.replay.RunError.TheVariants.{Permit, Run}
use Rattle.reply.specs.Permits.{refused_permit}
use Rattle.reply.specs.Replies.{Reply, line, named_line}
use Rattle.reply.specs.Runs.{outcome_page, refused_run}

-- an item of a tape by its number, counted from 1, or none
abbrev pub item_at : ℕ → List ℕ → Option Item
item_at n tape = slice_get (items tape) (n - 1)

-- what is told of an item, or that there is none
abbrev pub item_told : Option Item → List ℕ
item_told (Some x) = item_text x
item_told None = codes "no item"

-- that, with a name in front of it
abbrev pub item_line : List ℕ → Option Item → List ℕ
item_line name x = named_line name (item_told x)

-- which item differs, the filed one, and that of the run
abbrev pub differing : List ℕ → List ℕ → ℕ → List ℕ
differing filed new n =
    line (codes "results: differ at item " ++ decimal n) ++ (item_line (codes "  filed") (item_at n filed) ++ item_line (codes "  now") (item_at n new))

-- what was found of the filed results beside those of the run
abbrev pub results_lines : List ℕ → List ℕ → Finding → List ℕ
results_lines filed new Agrees = line (codes "results: agree")
results_lines filed new (Differs n) = differing filed new n

-- whether the page ends with what the run came to
abbrev pub page_line : Bool → List ℕ
page_line true = line (codes "page: agrees")
page_line false = line (codes "page: does not end with what the run came to")

-- what the run came to, and what was found of the filed results and of the page
abbrev pub rerun_lines : List ℕ → Rerun → List ℕ
rerun_lines filed r = outcome_page r.outcome ++ (results_lines filed r.outcome.results r.results ++ page_line r.page)

-- why the program of a record is not run
abbrev pub run_refusal : RunError → Reply
run_refusal (Permit e) = refused_permit (codes "permit.txt") e
run_refusal (Run q) = refused_run q

-- what was found of the run of a record with filed results
abbrev pub run_lines : List ℕ → Result Rerun RunError → List ℕ
run_lines filed (Ok r) = rerun_lines filed r
run_lines filed (Err e) = (run_refusal e).page
