-- Loading, by the check's answer.
use Rattle.std.proofs.Common.{◌≡◌, ℕ, ◌-◌, Bool, true, false, cond, List, length, take, drop, Ok, Err, Result, refl, ap, sym, ◌∙◌, subst, rules}
use Rattle.std.proofs.lemmas.List.{take_rest}
use Rattle.executable.specs.Check.{Parts, checked}
use Rattle.executable.specs.declared.refusal.Refusal.{Refusal}
use Rattle.host.specs.Meaning.{Meaning}
use Rattle.runs.specs.Agreement.{AllAsOpen, AllOther, AlikeFor}
use Rattle.runs.specs.Both.{Lent, lent, both_over, filled, both_by, both_loaded, end_of, ComparedFrom, AreLentAlike, AgreesFrom, LeavesOther}
use Rattle.runs.specs.Compared.{Compared, agreed}
use Rattle.runs.specs.Loading.{cells_by, cells_after, fill, load_parts, loaded, memory_fits}
use Rattle.runs.specs.Machines.{Machine, new_machine}
use Rattle.runs.specs.Runs.{held}
use Rattle.runs.specs.declared.comparison.Comparison.{Comparison}
use Rattle.runs.specs.declared.comparison.Pairing.{Pairing}
use Rattle.runs.specs.declared.refusal.LoadRefusal.{LoadRefusal}
use Rattle.runs.specs.declared.refusal.LoadRefusal.TheVariants.{Executable, Memory}
use Rattle.runs.proofs.Agreeing.{alike_for, leaves_other_of_both, never_different}
use Rattle.runs.proofs.Comparing.{one_end}

-- the cells after loading accepted parts that fit
pub cells_loaded : (bs cells after : List ℕ) (p : Parts) → Ok p ≡ checked bs → memory_fits p (length cells) ≡ true → after ≡ fill (take (length bs - 512) (drop 512 bs)) (length cells) → after ≡ cells_after bs cells
cells_loaded bs cells after p e fits is =
    is ∙ ap (λ w. fill w (length cells)) (take_rest bs 512) ∙ rw (← e, fits) (search rules)

-- machines that are loaded alike, from one executable into memories of one length, hold the same, whatever the memories held
pub loaded_alike : (bs c d c' d' : List ℕ) (m n : Machine) (h k : Meaning) → Ok m ≡ loaded bs (length c) → Ok n ≡ loaded bs (length d) → c' ≡ cells_after bs c → d' ≡ cells_after bs d → length d ≡ length c → k ≡ h → held n d' k ≡ held m c' h
loaded_alike bs c d c' d' m n h k first second cells others long means =
    let one : c' ≡ fill (drop 512 bs) (length c) = cells ∙ ap (λ r. cells_by bs c r) (sym first) in
    let two : d' ≡ fill (drop 512 bs) (length d) = others ∙ ap (λ r. cells_by bs d r) (sym second) in
    let machines : Ok n ≡ Ok m = second ∙ ap (loaded bs) long ∙ sym first in
    let same : n ≡ m = cc in
    ap (λ x. held x d' k) same
    ∙ ap (λ x. held m x k) (two ∙ ap (fill (drop 512 bs)) long ∙ sym one)
    ∙ ap (λ x. held m c' x) means

-- a loaded machine knows how long its memory is
size_by : (n : ℕ) (m : Machine) (p : Result Parts Refusal) → load_parts n p ≡ Ok m → m.size ≡ n
size_by n m (Err q) e = let no : ◌≡◌ {A = Result Machine LoadRefusal} (Err (Executable q)) (Ok m) = e in cc
size_by n m (Ok p) e = by (memory_fits p n) e
  where
    by : (b : Bool) → ◌≡◌ {A = Result Machine LoadRefusal} (cond b (Ok (new_machine p n)) (Err Memory)) (Ok m) → m.size ≡ n
    by true e = let same : new_machine p n ≡ m = cc in ap (λ k. k.size) (sym same)
    by false e = cc

pub loaded_size : (bs : List ℕ) (n : ℕ) (m : Machine) → loaded bs n ≡ Ok m → m.size ≡ n
loaded_size bs n m e = size_by n m (checked bs) e

-- what was lent, with both memories filled
pub now_filled : (bs c c' d d' : List ℕ) (h k : Meaning) (o : List ℕ) → c' ≡ cells_after bs c → d' ≡ cells_after bs d → lent c' h d' k o ≡ filled bs (lent c h d k o)
now_filled bs c c' d d' h k o first second = ap (λ x. lent x h d' k o) first ∙ ap (λ x. lent (cells_after bs c) h x k o) second

-- two machines that were loaded, over what was lent
pub record BothFilled (bs : List ℕ) (l now : Lent) (m n : Machine) : Type 0 where
  pub first : loaded bs (length l.first_cells) ≡ Ok m
  pub second : loaded bs (length l.second_cells) ≡ Ok n
  pub filled : now ≡ filled bs l

pub both_start : (bs : List ℕ) (l now : Lent) (m n : Machine) → BothFilled bs l now m n → both_loaded bs l ≡ Ok (both_over m n now)
both_start bs l now m n b =
    ap (λ r. both_by bs l r (loaded bs (length l.second_cells))) b.first ∙ ap (λ r. both_by bs l (Ok m) r) b.second ∙ ap (λ k. Ok (both_over m n k)) (sym b.filled)

pub compared_from : (bs : List ℕ) (l now after : Lent) (m n : Machine) (xs : List Pairing) (c : Comparison) → BothFilled bs l now m n
    → Compared xs 0 (both_over m n now) (end_of c after) → c.agreed ≡ agreed c.outcome (length xs) → ComparedFrom (both_loaded bs l) xs c after
compared_from bs l now after m n xs c b compared count = record {
  both = both_over m n now;
  start_is = both_start bs l now m n b;
  compared = compared;
  only = one_end xs (both_over m n now);
  agreed = count;
}

-- two machines that were loaded alike are equal
both_equal : (bs : List ℕ) (l now : Lent) (m n : Machine) → BothFilled bs l now m n → AreLentAlike l → (both_over m n now).second ≡ (both_over m n now).first
both_equal bs l now m n b alike =
    ap (λ k. (both_over m n k).second) b.filled
    ∙ loaded_alike bs l.first_cells l.second_cells _ _ m n l.first_host l.second_host (sym b.first) (sym b.second) refl refl alike.cells alike.hosts
    ∙ ap (λ k. (both_over m n k).first) (sym b.filled)

pub agrees_from : (bs : List ℕ) (l now after : Lent) (m n : Machine) (xs : List Pairing) (c : Comparison) → BothFilled bs l now m n
    → Compared xs 0 (both_over m n now) (end_of c after) → c.agreed ≡ agreed c.outcome (length xs) → AreLentAlike l → AllAsOpen xs → AllOther (length l.first_cells) l.other xs → AgreesFrom (both_loaded bs l) xs c after
agrees_from bs l now after m n xs c b compared count alike wide others =
    let apart : AllOther m.size now.other xs = rw (loaded_size bs (length l.first_cells) m b.first, b.filled) others in
    let agrees = never_different xs (both_over m n now) (end_of c after) compared wide apart (both_equal bs l now m n b alike) in
    record {
      both = both_over m n now;
      start_is = both_start bs l now m n b;
      agrees = agrees;
      alike = subst (λ (k : ℕ). AlikeFor k xs (both_over m n now)) (sym count) (alike_for c.outcome xs (both_over m n now) agrees.calls);
    }

pub leaves_from : (bs : List ℕ) (l now after : Lent) (m n : Machine) (xs : List Pairing) (c : Comparison) → BothFilled bs l now m n
    → Compared xs 0 (both_over m n now) (end_of c after) → LeavesOther xs l after
leaves_from bs l now after m n xs c b compared first second =
    let one : AllOther m.size now.other xs = rw (loaded_size bs (length l.first_cells) m b.first, b.filled) first in
    let two : AllOther n.size now.other xs = rw (loaded_size bs (length l.second_cells) n b.second, b.filled) second in
    leaves_other_of_both xs 0 (both_over m n now) (end_of c after) compared one two ∙ ap (λ k. k.other) b.filled
