-- What is left of the readings of a run.
use Rattle.std.proofs.Common.{◌≡◌, ℕ, zero, suc, ◌+◌, ◌-◌, Bool, true, false, cond, List, [], ◌∷◌, ◌++◌, length, take, drop, Ok, Err, Result, sym, ap, subst, ◌∙◌, arith}
use Rattle.std.proofs.lemmas.Grind.{flat_map-append}
use Rattle.std.proofs.lemmas.List.{length-append, length-drop}
use Rattle.std.proofs.Math.Seq.{drop-nil}
use Rattle.host.specs.Codes.{all_coded}
use Rattle.host.specs.Lent.{input_after}
use Rattle.host.specs.Meaning.{first_of, is_kind, rest_of}
use Rattle.host.specs.Tapes.{coded, items, spoiled, tape_code}
use Rattle.host.specs.declared.item.Item.{Item}
use Rattle.host.specs.declared.item.Kind.{Kind}
use Rattle.host.specs.declared.refusal.Refusal.{Refusal}
use Rattle.host.specs.declared.refusal.Refusal.TheVariants.{NothingWaits, OtherKind, SpoiledEnd}
use Rattle.play.specs.Waiting.{IsLeft}

-- one item more from the front
take_next : {X : Type 0} (k : ℕ) (l rest : List X) (x : X) → drop k l ≡ x ∷ rest → take (k + 1) l ≡ take k l ++ x ∷ []
take_next zero [] rest x is = cc
take_next zero (y ∷ ys) rest x is = let same : y ≡ x = cc in ap (λ z. z ∷ []) same
take_next (suc k) [] rest x is = cc
take_next (suc k) (y ∷ ys) rest x is =
    let count : suc k + 1 ≡ suc (k + 1) = omega arith in
    ap (λ n. take n (y ∷ ys)) count ∙ ap (λ l. y ∷ l) (take_next k ys rest x is)

drop_next : {X : Type 0} (k : ℕ) (l rest : List X) (x : X) → drop k l ≡ x ∷ rest → drop (k + 1) l ≡ rest
drop_next zero [] rest x is = cc
drop_next zero (y ∷ ys) rest x is = cc
drop_next (suc k) [] rest x is = cc
drop_next (suc k) (y ∷ ys) rest x is =
    let count : suc k + 1 ≡ suc (k + 1) = omega arith in
    ap (λ n. drop n (y ∷ ys)) count ∙ drop_next k ys rest x is

drop_twice : {X : Type 0} (a b : ℕ) (l : List X) → drop a (drop b l) ≡ drop (b + a) l
drop_twice a zero l = let count : a ≡ 0 + a = omega arith in ap (λ n. drop n l) count
drop_twice {X = X} a (suc b) [] = drop-nil {A = X} a ∙ sym (drop-nil {A = X} (suc b + a))
drop_twice a (suc b) (x ∷ xs) =
    let count : suc (b + a) ≡ suc b + a = omega arith in
    drop_twice a b xs ∙ ap (λ n. drop n (x ∷ xs)) count

-- an item that was taken stood first
stood_first : (k : Kind) (xs : List Item) (b : Bool) (x : Item) → Ok x ≡ first_of k xs b → xs ≡ x ∷ rest_of k xs
stood_first k [] false x is = let off : ◌≡◌ {A = Result Item Refusal} (Ok x) (Err NothingWaits) = is in cc
stood_first k [] true x is = let off : ◌≡◌ {A = Result Item Refusal} (Ok x) (Err SpoiledEnd) = is in cc
stood_first k (y ∷ ys) b x is = by_kind (is_kind k y) is
  where
    by_kind : (c : Bool) → ◌≡◌ {A = Result Item Refusal} (Ok x) (cond c (Ok y) (Err OtherKind)) → y ∷ ys ≡ x ∷ cond c ys (y ∷ ys)
    by_kind true e = let same : x ≡ y = cc in ap (λ z. z ∷ ys) (sym same)
    by_kind false e = cc

-- what is left after an item more
next_left : (rs tape after : List ℕ) (x : Item) → IsLeft rs tape → items tape ≡ x ∷ items after → after ≡ drop (length (coded x)) tape → IsLeft rs after
next_left rs tape after x is first rest =
    let all = items rs in
    let before = length all - length (items tape) in
    let there : drop before all ≡ x ∷ items after = sym is.last ∙ first in
    let count : length (items tape) ≡ length (items after) + 1 = ap length first ∙ omega arith in
    let ends : length (items tape) ≡ length all - before = ap length is.last ∙ length-drop before all in
    let place : length all - length (items after) ≡ before + 1 = omega (arith, count, ends) in
    record {
      bytes = rest ∙ ap (λ t. drop (length (coded x)) t) is.bytes ∙ drop_twice (length (coded x)) (length (all_coded tape_code (take before all))) rs ∙ ap (λ n. drop n rs) (sym (longer all before x (items after) _ there place));
      last = sym (drop_next before all (items after) x there) ∙ ap (λ n. drop n all) (sym place);
    }
  where
    longer : (all : List Item) (before : ℕ) (x : Item) (later : List Item) (n : ℕ) → drop before all ≡ x ∷ later → n ≡ before + 1
        → length (all_coded tape_code (take n all)) ≡ length (all_coded tape_code (take before all)) + length (coded x)
    longer all before x later n there place =
        ap (λ k. length (all_coded tape_code (take k all))) place
        ∙ ap (λ l. length (all_coded tape_code l)) (take_next before all later x there)
        ∙ ap length (flat_map-append coded (take before all) (x ∷ []))
        ∙ length-append (all_coded tape_code (take before all)) (coded x ++ [])
        ∙ ap (λ n. length (all_coded tape_code (take before all)) + n) (length-append (coded x) [] ∙ omega arith)

-- what is left after getting
pub left_after : (rs tape after : List ℕ) (k : Kind) (r : Result Item Refusal) → IsLeft rs tape → r ≡ first_of k (items tape) (spoiled tape) → items after ≡ rest_of k (items tape)
    → after ≡ input_after tape_code r tape → IsLeft rs after
left_after rs tape after k (Ok x) is got rest left = next_left rs tape after x is (stood_first k (items tape) (spoiled tape) x got ∙ ap (λ l. x ∷ l) (sym rest)) left
left_after rs tape after k (Err q) is got rest left = subst (λ (t : List ℕ). IsLeft rs t) (sym left) is
