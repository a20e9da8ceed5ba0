-- Reading a tape goes on, and stays on it.
use Rattle.std.proofs.Common.{◌≡◌, ℕ, zero, suc, ◌+◌, ◌<◌, ◌≤◌, List, ◌∷◌, ◌++◌, length, get_or, take, drop, sym, ap, ◌∙◌, arith}
use Rattle.std.proofs.lemmas.Bool.{lt-ltb}
use Rattle.std.proofs.lemmas.List.{length-append, length-take-le, get_or_default}
use Rattle.std.proofs.lemmas.Grind.{flat_map-append}
use Rattle.host.specs.Codes.{all_coded}
use Rattle.host.specs.TapeLaws.{tape_laws}
use Rattle.host.specs.Tapes.{items, coded, tape_code}
use Rattle.host.specs.declared.item.Item.{Item}

-- an item that stands first takes a byte or more
pub moves : (bs : List ℕ) (x : Item) (n : ℕ) → items bs ≡ x ∷ items (drop n bs) → 1 ≤ n
moves bs x zero e = let size = ap length e in absurd (omega (arith, size))
moves bs x (suc n) e = omega arith

-- and its bytes are counted
pub counted_first : (bs : List ℕ) (x : Item) (n : ℕ) → n ≤ length bs → take n bs ≡ coded x → n ≡ length (coded x)
counted_first bs x n within first = sym (length-take-le n bs within) ∙ ap length first

-- the bytes of items that stand on a tape are not more than its bytes
pub fits_on : (bs : List ℕ) (xs : List Item) (x : Item) (more : List Item) → ((i : ℕ) → get_or bs i 0 < 256) → items bs ≡ xs ++ x ∷ more → length (all_coded tape_code xs) + length (coded x) ≤ length bs
fits_on bs xs x more bytes e =
    let p = tape_laws.parted bs (λ k d inside. lt-ltb (get_or bs k d) 256 (rw (get_or_default bs k d 0 inside) (bytes k))) in
    let whole = ap length p.parts ∙ length-append (all_coded tape_code (items bs)) p.rest in
    let split = ap length (ap (all_coded tape_code) e ∙ flat_map-append tape_code.coded xs (x ∷ more)) ∙ length-append (all_coded tape_code xs) (coded x ++ all_coded tape_code more) in
    let here = length-append (coded x) (all_coded tape_code more) in
    omega (arith, whole, split, here)
