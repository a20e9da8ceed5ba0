-- The lines that tell of a filed listing.
use Rattle.std.specs.Prelude.{ℕ, List, [], ◌++◌, Some, None, Option, Ok, Err, Result, codes, decimal}
use Rattle.listing.specs.declared.refusal.Refusal.{Refusal}
use Rattle.record.specs.declared.finding.Finding.{Finding}
use Rattle.record.specs.declared.finding.Finding.TheVariants.{Agrees, Differs}
use Rattle.reply.specs.Replies.{line, named_line}
use Rattle.tasks.specs.Difference.{Shown, first_difference}
use Rattle.tasks.specs.Listing.{listed_whole}

-- a line that differs, as it is in the listing of the program and as it is in the filed one
abbrev pub side_lines : Option Shown → List ℕ
side_lines (Some d) = named_line (codes "  the program lists as") d.left ++ named_line (codes "  the filed listing has") d.right
side_lines None = []

-- the first such line of a filed listing, if the program has a listing
abbrev pub sides : List ℕ → Result (List ℕ) Refusal → List ℕ
sides filed (Ok page) = side_lines (first_difference page filed)
sides filed (Err q) = []

-- which line it is, and both sides of it
abbrev pub differing : List ℕ → List ℕ → ℕ → List ℕ
differing executable filed n = line (codes "listing: differs at line " ++ decimal n) ++ sides filed (listed_whole executable)

-- what was found of the filed listing of an executable
abbrev pub listing_lines : List ℕ → List ℕ → Finding → List ℕ
listing_lines executable filed Agrees = line (codes "listing: agrees")
listing_lines executable filed (Differs n) = differing executable filed n
