-- The entries that a lent label list is filled with, and the checksum of labels.
use Rattle.assembler.specs.Labels.{place_at}
use Rattle.std.specs.Prelude.{ℕ, List, fold}
use Rattle.assembler.specs.declared.label.Label.{Label}
use Rattle.cases.specs.Sum.{added}

-- what the lent entries are filled with before a case
abbrev pub filler_label : Label
filler_label = record { place = place_at 7; length = 7; address = 7 }

-- the three numbers of a label, one after the other
abbrev pub added_label : ℕ → Label → ℕ
added_label sum l = added (added (added sum l.place.offset) l.length) l.address

-- a checksum over place, length and address of each entry
abbrev pub label_sum_of : List Label → ℕ
label_sum_of labels = fold added_label 0 labels
