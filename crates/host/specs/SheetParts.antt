-- The records of a sheet are those of its items, and a rest.
use Rattle.std.proofs.Common.{◌≡◌, ℕ, ◌^◌, Bool, true, false, cond, eqb, ltb, List, [], ◌∷◌, Some, None, Option, refl, ap}
use Rattle.std.proofs.lemmas.Bool.{eqb-true}
use Rattle.host.specs.declared.item.Item.{Item}
use Rattle.host.specs.declared.item.Item.TheVariants.{Number, Real, Character}
use Rattle.host.specs.declared.record.Record.{Record}
use Rattle.host.specs.Codes.{BeginNoItem, Parted}
use Rattle.host.specs.Sheets.{item_of, items, spoiled, record_of, sheet_code}

-- a record with an item is the record of that item
within_back : (k n : ℕ) (make : ℕ → Item) (x : Item) (t : Bool) → record_of (make n) ≡ record { kind = k; value = n } → cond t (Some (make n)) None ≡ Some x → record_of x ≡ record { kind = k; value = n }
within_back k n make x false h e = cc
within_back k n make x true h e = let is : x ≡ make n = cc in rw is h

record_by : (k v : ℕ) (x : Item) (n r c : Bool) → eqb k 1 ≡ n → eqb k 2 ≡ r → eqb k 3 ≡ c → item_of (record { kind = k; value = v }) ≡ Some x → record_of x ≡ record { kind = k; value = v }
record_by k v x true r c en er ec e = rw (eqb-true k 1 en) (within_back 1 v Number x (ltb v (2 ^ 32)) refl (rw en at e))
record_by k v x false true c en er ec e = rw (eqb-true k 2 er) (within_back 2 v Real x true refl (rw (en, er) at e))
record_by k v x false false true en er ec e = rw (eqb-true k 3 ec) (within_back 3 v Character x (ltb v 256) refl (rw (en, er, ec) at e))
record_by k v x false false false en er ec e =
    let none : ◌≡◌ {A = Option Item} None (Some x) = rw (en, er, ec) at e in
    cc

record_back : (r : Record) (x : Item) → item_of r ≡ Some x → record_of x ≡ r
record_back r x e = record_by r.kind r.value x (eqb r.kind 1) (eqb r.kind 2) (eqb r.kind 3) refl refl refl e

module _ (begin : (us : List Record) → items us ≡ [] → spoiled us ≡ true → BeginNoItem sheet_code us) where
  parted_at : (r : Record) (rs : List Record) → Parted sheet_code rs → (o : Option Item) → item_of r ≡ o → Parted sheet_code (r ∷ rs)
  parted_at r rs later None e = record {
    rest = r ∷ rs;
    parts = rw e refl;
    ending = rw e (begin (r ∷ rs) (rw e refl) (rw e refl));
  }
  parted_at r rs later (Some x) e = record {
    rest = later.rest;
    parts = rw (e, record_back r x e) (ap (λ (l : List Record). r ∷ l) later.parts);
    ending = rw e later.ending;
  }

  pub sheet_parted : (rs : List Record) → Parted sheet_code rs
  sheet_parted [] = record { rest = []; parts = refl; ending = refl }
  sheet_parted (r ∷ rs) = parted_at r rs (sheet_parted rs) (item_of r) refl
