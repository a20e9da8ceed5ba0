-- What stands first on a tape.
use Rattle.std.proofs.Common.{◌≡◌, ℕ, zero, suc, ◌<◌, ◌≤◌, Bool, true, false, ltb, List, [], ◌∷◌, length, get_or, take, drop, refl, ap, sym, arith}
use Rattle.std.proofs.lemmas.Bool.{lt-ltb}
use Rattle.std.proofs.lemmas.List.{get_or_default}
use Rattle.std.proofs.lemmas.List.Elements.{All-tail}
use Rattle.host.specs.Firsts.{StandsFirst}
use Rattle.host.specs.TapeParts.{Bytes, whole_fits, coded_back}
use Rattle.host.specs.Tapes.{size, whole, item_of, items_from, spoiled_from, items, spoiled, first_on, tape_code}

-- what fits a byte is a byte
pub are_bytes : (bs : List ℕ) → ((i : ℕ) → get_or bs i 0 < 256) → Bytes bs
are_bytes bs fit = λ k d inside. lt-ltb (get_or bs k d) 256 (rw (get_or_default bs k d 0 inside) (fit k))

-- passing over bytes is leaving them out
items_past : (k : ℕ) (bs : List ℕ) → items_from k bs ≡ items (drop k bs)
items_past zero bs = refl
items_past (suc k) [] = refl
items_past (suc k) (c ∷ bs) = items_past k bs

spoiled_past : (k : ℕ) (bs : List ℕ) → spoiled_from k bs ≡ spoiled (drop k bs)
spoiled_past zero bs = refl
spoiled_past (suc k) [] = refl
spoiled_past (suc k) (c ∷ bs) = spoiled_past k bs

first_at : (c : ℕ) (bs : List ℕ) → Bytes bs → (b : Bool) → whole c bs ≡ b → StandsFirst tape_code (c ∷ bs) (first_on (c ∷ bs))
first_at c bs are false w = rw w (rw w refl, rw w refl)
first_at c bs are true w =
    let fits : size c ≤ length bs = whole_fits c bs w in
    rw w (
      omega arith,
      rw w (ap (λ xs. item_of c (take (size c) bs) ∷ xs) (items_past (size c) bs)),
      rw w (spoiled_past (size c) bs),
      sym (coded_back c bs are w),
    )

pub stands_first : (bs : List ℕ) → Bytes bs → StandsFirst tape_code bs (first_on bs)
stands_first [] are = (refl, refl)
stands_first (c ∷ bs) are = first_at c bs (All-tail (λ b. ltb b 256 ≡ true) c bs are) (whole c bs) refl
