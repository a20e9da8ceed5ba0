-- What the command check prints.
use Rattle.std.specs.Prelude.{ℕ, List, ◌++◌, codes, decimal, Some, None, Option, Ok, Err, Result}
use Rattle.listing.specs.Numbers.{number_of}
use Rattle.listing.specs.declared.refusal.Refusal.{Refusal}
use Rattle.reply.specs.Replies.{Reply, done, line, named_line, refused, undone}
use Rattle.tasks.specs.Difference.{Shown, first_difference}
use Rattle.tasks.specs.Listing.{listed_whole}

-- by its number, the line in which two listings differ, and this line of both
abbrev pub difference_page : Shown → List ℕ
difference_page d =
    (codes "differs at line " ++ line (decimal d.line)) ++ named_line (codes "the executable lists as") d.left ++ named_line (codes "the listing has") d.right

-- whether two listings agree, and else where they differ
abbrev pub agreement : Option Shown → Reply
agreement None = done (line (codes "agrees"))
agreement (Some d) = undone (difference_page d)

-- the listing of an executable beside a filed one, or the refusal of the executable
abbrev pub checked_by : List ℕ → Result (List ℕ) Refusal → Reply
checked_by filed (Ok page) = agreement (first_difference page filed)
checked_by filed (Err q) = refused (number_of q)

abbrev pub checked : List ℕ → List ℕ → Reply
checked bytes filed = checked_by filed (listed_whole bytes)
