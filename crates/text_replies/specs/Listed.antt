-- What the command list prints.
use Rattle.std.specs.Prelude.{ℕ, List, Ok, Err, Result}
use Rattle.listing.specs.Numbers.{number_of}
use Rattle.listing.specs.declared.refusal.Refusal.{Refusal}
use Rattle.reply.specs.Replies.{Reply, done, refused}
use Rattle.tasks.specs.Listing.{listed_whole}

-- the listing, or the refusal of the executable
abbrev pub listed_by : Result (List ℕ) Refusal → Reply
listed_by (Ok page) = done page
listed_by (Err q) = refused (number_of q)

abbrev pub listed : List ℕ → Reply
listed bytes = listed_by (listed_whole bytes)
