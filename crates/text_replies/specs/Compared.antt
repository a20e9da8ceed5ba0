-- What the command same prints.
use Rattle.std.specs.Prelude.{ℕ, Bool, true, false, List, ◌++◌, codes, Some, None, Option, Ok, Err, Result}
use Rattle.listing.specs.Numbers.{number_of}
use Rattle.listing.specs.declared.refusal.Refusal.{Refusal}
use Rattle.reply.specs.declared.named.Named.{Named}
use Rattle.reply.specs.Replies.{Reply, done, line, undone}
use Rattle.sentences.specs.Pages.{refusal_page}
use Rattle.tasks.specs.Sameness.{compared}
use Rattle.tasks.specs.declared.sameness.SameError.{SameError}
use Rattle.tasks.specs.declared.sameness.SameError.TheVariants.{Left, Right, Memory}

-- whether two executables are the same
abbrev pub sameness : Bool → Reply
sameness true = done (line (codes "same"))
sameness false = undone (line (codes "different"))

-- a refusal, and the name of the file that is refused
abbrev pub refused_in : List ℕ → Refusal → Reply
refused_in name q = undone (refusal_page (number_of q) ++ (codes "in " ++ line name))

-- whether they are the same, or the refusal of one of them; none where there is no memory
abbrev pub sameness_by : List ℕ → List ℕ → Result Bool SameError → Option Reply
sameness_by first second (Ok same) = Some (sameness same)
sameness_by first second (Err (Left q)) = Some (refused_in first q)
sameness_by first second (Err (Right q)) = Some (refused_in second q)
sameness_by first second (Err Memory) = None

-- of two files by name
abbrev pub files_compared : Named → Named → Option Reply
files_compared first second = sameness_by first.name.now second.name.now (compared first.bytes.now second.bytes.now)
