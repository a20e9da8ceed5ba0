-- What is found of a file of a record.
use Rattle.std.specs.Prelude.{ℕ, ◌+◌, ◌==◌, cond, List, length, take, Some, None, Option}
use Rattle.std.specs.Str.{bytes_eq}
use Rattle.host.specs.Tapes.{items}
use Rattle.tasks.specs.Difference.{Shown, common, first_difference}
use Rattle.record.specs.declared.finding.Finding.{Finding}
use Rattle.record.specs.declared.finding.Finding.TheVariants.{Agrees, Differs}

-- by the first line that differs
abbrev pub by_line : Option Shown → Finding
by_line None = Agrees
by_line (Some d) = Differs d.line

abbrev pub texts_found : List ℕ → List ℕ → Finding
texts_found left right = by_line (first_difference left right)

-- by the first item that differs: before it stand the items that both tapes have in common at the front
abbrev pub tapes_found : List ℕ → List ℕ → Finding
tapes_found left right = cond (bytes_eq left right) Agrees (Differs (length (items (take (common (λ a b. a == b) left right) left)) + 1))
