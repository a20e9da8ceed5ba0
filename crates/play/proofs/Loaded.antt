-- Loading into a memory of zeros.
use Rattle.std.proofs.Common.{◌≡◌, ℕ, ◌*◌, ◌<◌, ◌≤◌, min, Bool, true, false, cond, ◌&&◌, List, length, drop, Ok, Err, Result, refl, sym, ap, ◌∙◌, arith, rules, nat_le}
use Rattle.std.proofs.lemmas.Bool.{lt-leb, cond-true, cond-false}
use Rattle.executable.specs.Check.{Parts, checked}
use Rattle.executable.specs.declared.refusal.Refusal.{Refusal}
use Rattle.runs.specs.Loading.{cells_by, cells_after, fill, load_parts, loaded, memory_fits}
use Rattle.runs.specs.Machines.{Machine, new_machine}
use Rattle.runs.specs.declared.refusal.LoadRefusal.{LoadRefusal}
use Rattle.runs.specs.declared.refusal.LoadRefusal.TheVariants.{Executable, Memory}
use Rattle.play.specs.Whole.{Orders, Ready, asked_more, ready}
use Rattle.play.specs.declared.refusal.Refusal.TheVariants.{Load, NoRoom, BudgetTooLarge}

-- no program fits a memory of more cells than any has
never_fits : (p : Parts) (n : ℕ) → 1048576 < n → memory_fits p n ≡ false
never_fits p n many = by_parts (nat_le 1024 n) (nat_le n 1048576) _ (lt-leb n 1048576 many)
  where
    by_parts : (a b c : Bool) → b ≡ false → (a && (b && c)) ≡ false
    by_parts false b c off = refl
    by_parts true false c off = refl
    by_parts true true c off = cc

-- so a memory is cut to one cell too many
cut_parts : (n : ℕ) (r : Result Parts Refusal) → load_parts (min n 1048577) r ≡ load_parts n r
cut_parts n (Err q) = refl
cut_parts n (Ok p) = by_size (nat_le n 1048576) refl
  where
    by_size : (b : Bool) → nat_le n 1048576 ≡ b → load_parts (min n 1048577) (Ok p) ≡ load_parts n (Ok p)
    by_size true small =
        let few : n ≤ 1048576 = search (rules, small) in
        let same : min n 1048577 ≡ n = omega (arith, few) in
        ap (λ k. load_parts k (Ok p)) same
    by_size false large =
        let many : 1048576 < n = search (rules, large) in
        let cut : 1048576 < min n 1048577 = omega (arith, many) in
        cond-false _ _ _ (never_fits p (min n 1048577) cut) ∙ sym (cond-false _ _ _ (never_fits p n many))

pub loaded_cut : (bs : List ℕ) (n : ℕ) → loaded bs (min n 1048577) ≡ loaded bs n
loaded_cut bs n = cut_parts n (checked bs)

-- a machine that is loaded: its memory is lawful, and it has not exited
pub record Fresh (n : ℕ) (m : Machine) : Type 0 where
  pub few : n ≤ 1048576
  pub size : m.size ≡ n
  pub runs : m.exited ≡ false

fresh_parts : (n : ℕ) (m : Machine) (r : Result Parts Refusal) → Ok m ≡ load_parts n r → Fresh n m
fresh_parts n m (Err q) is = let off : ◌≡◌ {A = Result Machine LoadRefusal} (Ok m) (Err (Executable q)) = is in absurd (apart off)
  where
    apart : ◌≡◌ {A = Result Machine LoadRefusal} (Ok m) (Err (Executable q)) → ⊥
    apart e = cc
fresh_parts n m (Ok p) is = by_fit (memory_fits p n) refl is
  where
    small : memory_fits p n ≡ true → n ≤ 1048576
    small fits = by_size (nat_le n 1048576) refl
      where
        by_size : (b : Bool) → nat_le n 1048576 ≡ b → n ≤ 1048576
        by_size true low = search (rules, low)
        by_size false large =
            let many : 1048576 < n = search (rules, large) in
            let off : false ≡ true = sym (never_fits p n many) ∙ fits in cc

    by_fit : (b : Bool) → memory_fits p n ≡ b → Ok m ≡ cond b (Ok (new_machine p n)) (Err Memory) → Fresh n m
    by_fit false fits e = absurd (apart e)
      where
        apart : ◌≡◌ {A = Result Machine LoadRefusal} (Ok m) (Err Memory) → ⊥
        apart e = cc
    by_fit true fits e = record { few = small fits; size = ap (λ x. x.size) (same e); runs = ap (λ x. x.exited) (same e) }
      where
        same : {x : Machine} → ◌≡◌ {A = Result Machine LoadRefusal} (Ok m) (Ok x) → m ≡ x
        same e = cc

pub fresh : (bs : List ℕ) (n k : ℕ) (m : Machine) → k ≡ min n 1048577 → Ok m ≡ loaded bs k → Fresh k m
fresh bs n k m is e = fresh_parts k m (checked bs) e

-- a refusal of loading is that of the whole run
pub not_loaded : (o : Orders) (k : ℕ) (q : LoadRefusal) → k ≡ min o.cells 1048577 → Err q ≡ loaded o.executable k → ready o ≡ Err (Load q)
not_loaded o k q is e = rw (sym (e ∙ ap (loaded o.executable) is ∙ loaded_cut o.executable o.cells)) refl

-- and after loading the rest is asked
pub then_asked : (o : Orders) (k : ℕ) (m : Machine) → k ≡ min o.cells 1048577 → Ok m ≡ loaded o.executable k → ready o ≡ asked_more o m
then_asked o k m is e = rw (sym (e ∙ ap (loaded o.executable) is ∙ loaded_cut o.executable o.cells)) refl

pub no_room : (o : Orders) (k : ℕ) (m : Machine) → k ≡ min o.cells 1048577 → Ok m ≡ loaded o.executable k → 65536 < o.writes → ready o ≡ Err NoRoom
no_room o k m is e many = then_asked o k m is e ∙ cond-false _ _ _ (lt-leb o.writes 65536 many)

pub too_many_steps : (o : Orders) (k : ℕ) (m : Machine) → k ≡ min o.cells 1048577 → Ok m ≡ loaded o.executable k → o.writes ≤ 65536 → 100_000_000 < o.budget → ready o ≡ Err BudgetTooLarge
too_many_steps o k m is e few many =
    let ask : nat_le o.writes 65536 ≡ true = search (rules, few) in
    then_asked o k m is e ∙ cond-true _ _ _ ask ∙ cond-false _ _ _ (lt-leb o.budget 100_000_000 many)

-- the machine before its first step
pub then_ready : (o : Orders) (k room : ℕ) (m : Machine) (c after : List ℕ) → k ≡ min o.cells 1048577 → length c ≡ k → length after ≡ length c → Ok m ≡ loaded o.executable (length c) → after ≡ cells_after o.executable c
    → o.writes ≤ 65536 → o.budget ≤ 100_000_000 → 9 * o.writes ≤ room → Ready o m after room
then_ready o k room m c after is long kept e cells few low wide =
    let here : Ok m ≡ loaded o.executable k = e ∙ ap (loaded o.executable) long in
    let new = fresh o.executable o.cells k m is here in
    let small = new.few in
    let size : length c ≡ o.cells = long ∙ is ∙ omega (arith, is, small) in
    let ask : nat_le o.writes 65536 ≡ true = search (rules, few) in
    let next : nat_le o.budget 100_000_000 ≡ true = search (rules, low) in
    record {
      ready = then_asked o k m is here ∙ cond-true _ _ _ ask ∙ cond-true _ _ _ next;
      cells = cells ∙ ap (cells_by o.executable c) (sym e) ∙ ap (fill (drop 512 o.executable)) size;
      size = kept ∙ long ∙ sym new.size;
      runs = new.runs;
      budget = low;
      few = few;
      room = wide;
    }
