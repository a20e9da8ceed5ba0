-- Questions of a cell after another one was written.
use Rattle.std.proofs.Common.{◌≡◌, ℕ, List, length, slice_set, ap, rules}
use Rattle.machine.specs.Rules.{Rules, push_asked}

-- a memory keeps its size
size_kept : (c : List ℕ) (a v : ℕ) → length (slice_set c a v) ≡ length c
size_kept c a v = search rules

-- what is asked of a cell that a push writes does not turn on what another cell holds
pub push_after : (s : Rules) (c : List ℕ) (a v b : ℕ) → push_asked s (length (slice_set c a v)) b ≡ push_asked s (length c) b
push_after s c a v b = ap (λ n. push_asked s n b) (size_kept c a v)
