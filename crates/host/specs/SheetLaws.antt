-- The laws of the code of a sheet.
use Rattle.std.proofs.Common.{◌≡◌, ◌^◌, false, List, [], ◌∷◌, ◌++◌, Some, None, Option, refl, arith}
use Rattle.std.proofs.lemmas.Bool.{lt-ltb, true≢false}
use Rattle.host.specs.declared.item.Item.{Item}
use Rattle.host.specs.declared.item.Item.TheVariants.{Number, Real, Character}
use Rattle.host.specs.declared.record.Record.{Record}
use Rattle.host.specs.Codes.{ReadsAs, CodeLaws}
use Rattle.host.specs.CodeParts.{begin_no_item}
use Rattle.host.specs.Ranges.{InRange}
use Rattle.host.specs.SheetParts.{sheet_parted}
use Rattle.host.specs.Sheets.{item_of, items, spoiled, spoils, record_of, sheet_code}

-- records after records that end clean
items_at : (r : Record) (xs ys : List Record) → (spoiled xs ≡ false → items (xs ++ ys) ≡ items xs ++ items ys) → (o : Option Item) → item_of r ≡ o → spoils o (spoiled xs) ≡ false → items (r ∷ (xs ++ ys)) ≡ items (r ∷ xs) ++ items ys
items_at r xs ys rest None e c = absurd (true≢false c)
items_at r xs ys rest (Some x) e c = rw (e, rest c)

items_after : (xs ys : List Record) → spoiled xs ≡ false → items (xs ++ ys) ≡ items xs ++ items ys
items_after [] ys c = refl
items_after (r ∷ xs) ys c = items_at r xs ys (items_after xs ys) (item_of r) refl c

spoiled_at : (r : Record) (xs ys : List Record) → (spoiled xs ≡ false → spoiled (xs ++ ys) ≡ spoiled ys) → (o : Option Item) → item_of r ≡ o → spoils o (spoiled xs) ≡ false → spoiled (r ∷ (xs ++ ys)) ≡ spoiled ys
spoiled_at r xs ys rest None e c = absurd (true≢false c)
spoiled_at r xs ys rest (Some x) e c = rw e (rest c)

spoiled_after : (xs ys : List Record) → spoiled xs ≡ false → spoiled (xs ++ ys) ≡ spoiled ys
spoiled_after [] ys c = refl
spoiled_after (r ∷ xs) ys c = spoiled_at r xs ys (spoiled_after xs ys) (item_of r) refl c

-- an item is read back from its record
item_back : (x : Item) → InRange x → item_of (record_of x) ≡ Some x
item_back (Number n) h = rw (lt-ltb n (2 ^ 32) h)
item_back (Real n) h = refl
item_back (Character n) h = rw (lt-ltb n 256 h)

empty : ReadsAs sheet_code [] []
empty = record { items = refl; clean = refl }

reads : (x : Item) → InRange x → ReadsAs sheet_code (record_of x ∷ []) (x ∷ [])
reads x range = record { items = rw (item_back x range) refl; clean = rw (item_back x range) refl }

pub sheet_laws : CodeLaws sheet_code 1
sheet_laws = record {
  empty = empty;
  items_append = items_after;
  spoiled_append = spoiled_after;
  coded = reads;
  short = λ x. omega arith;
  parted = λ us _. sheet_parted (begin_no_item sheet_code empty items_after reads) us;
}
