use Rattle.std.proofs.Common.{◌≡◌, ℕ, ◌<◌, length, get_or}
use Rattle.std.specs.Prelude.{slice_index}
use Rattle.executable.specs.Bytes.{words_of}
use Rattle.runs.proofs.loading.fill.Given as goal

abbrev pub invariant-loop-index : goal.invariant-loop-index
invariant-loop-index l = (length l.cells ≡ length l.fn.cells) × ((k : ℕ) → k < l.index → get_or l.cells k 0 ≡ slice_index (words_of l.words) k)
