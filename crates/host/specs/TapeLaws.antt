-- The laws of the code of a tape.
use Rattle.std.proofs.Common.{◌≡◌, ℕ, zero, suc, ◌/◌, ◌^◌, ◌<◌, ◌≤◌, Bool, true, false, cond, ltb, leb, List, [], ◌∷◌, ◌++◌, length, refl, ap, zero-le, le_of_suc-le-suc, not-suc-le-zero, pow-suc, arith, length-append}
use Rattle.std.proofs.lemmas.List.{take-append-le}
use Rattle.std.proofs.lemmas.Bool.{and_parts, and_from, le-leb, true≢false}
use Rattle.host.specs.declared.item.Item.{Item}
use Rattle.host.specs.declared.item.Item.TheVariants.{Number, Real, Character}
use Rattle.host.specs.Codes.{ReadsAs, CodeLaws}
use Rattle.host.specs.CodeParts.{begin_no_item}
use Rattle.host.specs.Ranges.{InRange}
use Rattle.host.specs.TapeParts.{whole_fits, tape_parted}
use Rattle.host.specs.Tapes.{little_endian, bytes_of, size, whole, items_from, spoiled_from, items, spoiled, coded, tape_code}

-- a number is what its bytes write
number_back : (k n : ℕ) → n < 256 ^ k → little_endian (bytes_of k n) ≡ n
number_back zero n h = omega arith
number_back (suc k) n h =
    let less : n / 256 < 256 ^ k = omega (arith, pow-suc 256 k) in
    omega (arith, number_back k (n / 256) less)

-- bytes after bytes that end clean
whole_longer : (c : ℕ) (xs ys : List ℕ) → whole c xs ≡ true → whole c (xs ++ ys) ≡ true
whole_longer c xs ys w =
    let parts = and_parts (ltb 0 (size c)) (leb (size c) (length xs)) w in
    let fits : size c ≤ length xs = whole_fits c xs w in
    and_from _ _ parts.0 (le-leb (size c) (length (xs ++ ys)) (omega (arith, length-append xs ys)))

items_at : (c : ℕ) (xs ys : List ℕ) → (size c ≤ length xs → spoiled_from (size c) xs ≡ false → items_from (size c) (xs ++ ys) ≡ items_from (size c) xs ++ items ys) → (b : Bool) → whole c xs ≡ b → cond b (spoiled_from (size c) xs) true ≡ false → items (c ∷ (xs ++ ys)) ≡ items (c ∷ xs) ++ items ys
items_at c xs ys rest false w e = absurd (true≢false e)
items_at c xs ys rest true w e =
    let fits : size c ≤ length xs = whole_fits c xs w in
    rw (whole_longer c xs ys w, w, take-append-le, rest fits e)

items_after : (k : ℕ) (xs ys : List ℕ) → k ≤ length xs → spoiled_from k xs ≡ false → items_from k (xs ++ ys) ≡ items_from k xs ++ items ys
items_after zero [] ys h e = refl
items_after (suc k) [] ys h e = absurd (not-suc-le-zero h)
items_after zero (c ∷ xs) ys h e = items_at c xs ys (items_after (size c) xs ys) (whole c xs) refl e
items_after (suc k) (c ∷ xs) ys h e = items_after k xs ys (le_of_suc-le-suc h) e

spoiled_at : (c : ℕ) (xs ys : List ℕ) → (size c ≤ length xs → spoiled_from (size c) xs ≡ false → spoiled_from (size c) (xs ++ ys) ≡ spoiled ys) → (b : Bool) → whole c xs ≡ b → cond b (spoiled_from (size c) xs) true ≡ false → spoiled (c ∷ (xs ++ ys)) ≡ spoiled ys
spoiled_at c xs ys rest false w e = absurd (true≢false e)
spoiled_at c xs ys rest true w e = rw (whole_longer c xs ys w) (rest (whole_fits c xs w) e)

spoiled_after : (k : ℕ) (xs ys : List ℕ) → k ≤ length xs → spoiled_from k xs ≡ false → spoiled_from k (xs ++ ys) ≡ spoiled ys
spoiled_after zero [] ys h e = refl
spoiled_after (suc k) [] ys h e = absurd (not-suc-le-zero h)
spoiled_after zero (c ∷ xs) ys h e = spoiled_at c xs ys (spoiled_after (size c) xs ys) (whole c xs) refl e
spoiled_after (suc k) (c ∷ xs) ys h e = spoiled_after k xs ys (le_of_suc-le-suc h) e

-- an item is read back from its bytes
item_back : (x : Item) → InRange x → items (coded x) ≡ x ∷ []
item_back (Number n) h = ap (λ k. Number k ∷ []) (number_back 4 n h)
item_back (Real n) h = ap (λ k. Real k ∷ []) (number_back 8 n h)
item_back (Character n) h = ap (λ k. Character k ∷ []) (number_back 1 n h)

ends_clean : (x : Item) → spoiled (coded x) ≡ false
ends_clean (Number n) = refl
ends_clean (Real n) = refl
ends_clean (Character n) = refl

is_short : (x : Item) → length (coded x) ≤ 9
is_short (Number n) = omega arith
is_short (Real n) = omega arith
is_short (Character n) = omega arith

empty : ReadsAs tape_code [] []
empty = record { items = refl; clean = refl }

items_append : (us vs : List ℕ) → spoiled us ≡ false → items (us ++ vs) ≡ items us ++ items vs
items_append us vs c = items_after 0 us vs zero-le c

reads : (x : Item) → InRange x → ReadsAs tape_code (coded x) (x ∷ [])
reads x range = record { items = item_back x range; clean = ends_clean x }

pub tape_laws : CodeLaws tape_code 9
tape_laws = record {
  empty = empty;
  items_append = items_append;
  spoiled_append = λ us vs c. spoiled_after 0 us vs zero-le c;
  coded = reads;
  short = is_short;
  parted = λ us are. tape_parted (begin_no_item tape_code empty items_append reads) us are;
}
