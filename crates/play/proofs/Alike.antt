-- Two machines that are ready alike.
use Rattle.std.proofs.Common.{◌≡◌, ℕ, ◌*◌, ◌≤◌, Bool, true, false, cond, List, [], ◌∷◌, length, drop, Ok, Err, Result, refl, sym, ap, ◌∙◌, subst, rules, nat_le}
use Rattle.std.proofs.lemmas.List.FromFn.{length-map-range_with_len}
use Rattle.host.specs.Lent.{new_lent}
use Rattle.host.specs.Meaning.{Meaning}
use Rattle.host.specs.Tapes.{tape_code}
use Rattle.permit.specs.Open.{AsOpen}
use Rattle.permit.specs.Rights.{rights_of}
use Rattle.permit.specs.declared.permit.Permit.{Permit}
use Rattle.runs.specs.Agreement.{AllAsOpen, AllOther, Agrees}
use Rattle.runs.specs.Both.{Lent, both_by, both_loaded, end_of, ComparedFrom, AreLentAlike, AgreesFrom}
use Rattle.runs.specs.Compared.{Both, Compared}
use Rattle.runs.specs.Loading.{cells_by, cells_after, fill, loaded}
use Rattle.runs.specs.Machines.{Machine}
use Rattle.runs.specs.Runs.{held}
use Rattle.runs.specs.declared.comparison.Comparison.{Comparison}
use Rattle.runs.specs.declared.comparison.Pairing.{Pairing}
use Rattle.runs.specs.declared.refusal.LoadRefusal.{LoadRefusal}
use Rattle.play.specs.Parting.{run_under, both_first}
use Rattle.play.specs.Whole.{Orders, first_held, ready, ready_by, tape_meaning}
use Rattle.play.specs.declared.refusal.Refusal.{Refusal}
use Rattle.play.specs.declared.refusal.Refusal.TheVariants.{Load, NoRoom, BudgetTooLarge}

-- a host with room for the writes begins with the readings
pub begins : (readings : List ℕ) (writes space : ℕ) → writes ≤ 65536 → 9 * writes ≤ space → new_lent tape_code 9 readings space writes ≡ tape_meaning readings writes
begins readings writes space few room =
    let asked : nat_le writes 65536 ≡ true = search (rules, few) in
    let wide : nat_le (9 * writes) space ≡ true = search (rules, room) in
    rw (asked, wide) refl

-- a machine that is ready is the one that is loaded
loads_by : (o : Orders) (m : Machine) (r : Result Machine LoadRefusal) → ready_by o r ≡ Ok m → r ≡ Ok m
loads_by o m (Err q) e = let no : ◌≡◌ {A = Result Machine Refusal} (Err (Load q)) (Ok m) = e in cc
loads_by o m (Ok n) e = by_answers (nat_le o.writes 65536) (nat_le o.budget 100_000_000) e
  where
    by_answers : (a b : Bool) → ◌≡◌ {A = Result Machine Refusal} (cond a (cond b (Ok n) (Err BudgetTooLarge)) (Err NoRoom)) (Ok m) → ◌≡◌ {A = Result Machine LoadRefusal} (Ok n) (Ok m)
    by_answers true true e = let same : n ≡ m = cc in ap Ok same
    by_answers true false e = cc
    by_answers false b e = cc

-- its memory has as many cells as were asked for
pub long : (o : Orders) (c : List ℕ) → c ≡ fill (drop 512 o.executable) o.cells → length c ≡ o.cells
long o c is = ap length is ∙ length-map-range_with_len _ 0 o.cells

loads : (o : Orders) (m : Machine) (c : List ℕ) → ready o ≡ Ok m → c ≡ fill (drop 512 o.executable) o.cells → loaded o.executable (length c) ≡ Ok m
loads o m c so is = ap (loaded o.executable) (long o c is) ∙ loads_by o m (loaded o.executable o.cells) so

-- the cells after loading
refilled : (o : Orders) (m : Machine) (c : List ℕ) → ready o ≡ Ok m → c ≡ fill (drop 512 o.executable) o.cells → cells_after o.executable c ≡ fill (drop 512 o.executable) o.cells
refilled o m c so is = ap (cells_by o.executable c) (loads o m c so is) ∙ ap (fill (drop 512 o.executable)) (long o c is)

-- two memories and two hosts that are ready
pub record Readied (o : Orders) (m : Machine) (l : Lent) : Type 0 where
  pub machine : ready o ≡ Ok m
  pub first : l.first_cells ≡ fill (drop 512 o.executable) o.cells
  pub second : l.second_cells ≡ fill (drop 512 o.executable) o.cells
  pub first_host : l.first_host ≡ tape_meaning o.readings o.writes
  pub second_host : l.second_host ≡ tape_meaning o.readings o.writes
  pub other : l.other ≡ []

-- so both are loaded, and begin with the same
pub both_begin : (o : Orders) (m : Machine) (l : Lent) → Readied o m l → both_loaded o.executable l ≡ Ok (both_first o m)
both_begin o m l r =
    ap (λ x. both_by o.executable l x (loaded o.executable (length l.second_cells))) (loads o m l.first_cells r.machine r.first)
    ∙ ap (both_by o.executable l (Ok m)) (loads o m l.second_cells r.machine r.second)
    ∙ ap (λ k. Ok (record { first = held m k l.first_host; second = held m (cells_after o.executable l.second_cells) l.second_host; other = l.other })) (refilled o m l.first_cells r.machine r.first)
    ∙ ap (λ k. Ok (record { first = held m (filled o) l.first_host; second = held m k l.second_host; other = l.other })) (refilled o m l.second_cells r.machine r.second)
    ∙ ap (λ k. Ok (record { first = held m (filled o) k; second = held m (filled o) l.second_host; other = l.other })) r.first_host
    ∙ ap (λ k. Ok (record { first = first_held o m; second = held m (filled o) k; other = l.other })) r.second_host
    ∙ ap (λ k. Ok (record { first = first_held o m; second = first_held o m; other = k })) r.other
  where
    filled : Orders → List ℕ
    filled o = fill (drop 512 o.executable) o.cells

-- loading is not refused
pub never_refused : (o : Orders) (m : Machine) (l : Lent) (q : LoadRefusal) → Readied o m l → both_loaded o.executable l ≡ Err q → ⊥
never_refused o m l q r e = apart (sym e ∙ both_begin o m l r)
  where
    apart : ◌≡◌ {A = Result Both LoadRefusal} (Err q) (Ok (both_first o m)) → ⊥
    apart e = cc

-- a comparison from there on
begins_so : (o : Orders) (m : Machine) (l : Lent) (b : Both) → Readied o m l → both_loaded o.executable l ≡ Ok b → b ≡ both_first o m
begins_so o m l b r e = let same : ◌≡◌ {A = Result Both LoadRefusal} (Ok b) (Ok (both_first o m)) = sym e ∙ both_begin o m l r in cc

pub compared_alike : (o : Orders) (m : Machine) (l after : Lent) (x y : Pairing) (c : Comparison) → Readied o m l → x ≡ y → ComparedFrom (both_loaded o.executable l) (x ∷ []) c after
    → Compared (y ∷ []) 0 (both_first o m) (end_of c after)
compared_alike o m l after x y c r is from =
    subst (λ (z : Pairing). Compared (z ∷ []) 0 (both_first o m) (end_of c after)) is
    (subst (λ (b : Both). Compared (x ∷ []) 0 b (end_of c after)) (begins_so o m l from.both r from.start_is) from.compared)

pub agrees_alike : (o : Orders) (m : Machine) (l after : Lent) (x y : Pairing) (c : Comparison) → Readied o m l → x ≡ y → AgreesFrom (both_loaded o.executable l) (x ∷ []) c after
    → Agrees (y ∷ []) (both_first o m) (end_of c after)
agrees_alike o m l after x y c r is from =
    subst (λ (z : Pairing). Agrees (z ∷ []) (both_first o m) (end_of c after)) is
    (subst (λ (b : Both). Agrees (x ∷ []) b (end_of c after)) (begins_so o m l from.both r from.start_is) from.agrees)

-- one run is asked, under a second permit that is at least as open
pub all_open : (x : Pairing) (b : ℕ) (p q : Permit) → x ≡ run_under b p q → AsOpen (rights_of p) (rights_of q) → AllAsOpen (x ∷ [])
all_open x b p q is wide = subst (λ (z : Pairing). AllAsOpen (z ∷ [])) (sym is) (wide, tt)

-- with the machines' own memories
pub all_own : (x : Pairing) (b : ℕ) (p q : Permit) (size : ℕ) (o : List ℕ) → x ≡ run_under b p q → AllOther size o (x ∷ [])
all_own x b p q size o is = subst (λ (z : Pairing). AllOther size o (z ∷ [])) (sym is) (tt, tt)

-- what is lent is alike
pub lent_alike : (o : Orders) (m : Machine) (l : Lent) → Readied o m l → AreLentAlike l
lent_alike o m l r = record { cells = ap length (r.second ∙ sym r.first); hosts = r.second_host ∙ sym r.first_host }
