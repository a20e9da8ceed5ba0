-- A value past 32 bits may be cut down to 2 ^ 32 while its digits are read.
use Rattle.std.proofs.Common.{◌≡◌, ℕ, ◌+◌, ◌*◌, ◌^◌, ◌<◌, ◌≤◌, min, Bool, true, false, cond, ltb, List, [], ◌∷◌, length, Some, None, Option, sym, refl, ap, ◌∙◌, ⊎_elim, mul-le-mul_left, arith}
use Rattle.std.proofs.lemmas.Bool.{cases_Bool, cases_lt}
use Rattle.std.specs.Option.{option_map}
use Rattle.numerals.specs.Natural.{worth, go_on, digits_in, capped}
use Rattle.numerals.proofs.Folds.{over}

pub by_bool : {P : Type 0} (t : Bool) → (t ≡ true → P) → (t ≡ false → P) → P
by_bool t f g = ⊎_elim f g (cases_Bool t)

-- whether each byte is a digit
abbrev in_base : ℕ → List ℕ → Option ℕ
in_base radix [] = Some (2 ^ 32)
in_base radix (b ∷ bs) = cond (ltb (worth b) radix) (in_base radix bs) None

grows : (n r d : ℕ) → 1 ≤ r → n ≤ n * r + d
grows n r d h = omega (arith, mul-le-mul_left n h)

past : (radix n : ℕ) (bs : List ℕ) → 1 ≤ radix → 2 ^ 32 ≤ n → option_map capped (go_on radix n bs) ≡ in_base radix bs
past radix n [] h large = let e : min n (2 ^ 32) ≡ 2 ^ 32 = omega arith in ap Some e
past radix n (b ∷ bs) h large = by_bool (ltb (worth b) radix)
    (λ e. simp e (past radix (n * radix + worth b) bs h (omega (arith, grows n radix (worth b) h))))
    (λ e. simp e)

pub cut : (radix n : ℕ) (bs : List ℕ) → 1 ≤ radix → option_map capped (go_on radix (min n (2 ^ 32)) bs) ≡ option_map capped (go_on radix n bs)
cut radix n bs h = ⊎_elim
    (λ (small : n < 2 ^ 32). let e : min n (2 ^ 32) ≡ n = omega arith in ap (λ m. option_map capped (go_on radix m bs)) e)
    (λ (large : 2 ^ 32 ≤ n). let e : min n (2 ^ 32) ≡ 2 ^ 32 = omega arith in ap (λ m. option_map capped (go_on radix m bs)) e ∙ past radix (2 ^ 32) bs h (omega arith) ∙ sym (past radix n bs h large))
    (cases_lt n (2 ^ 32))

pub some_digits : (radix : ℕ) (bs : List ℕ) → 0 < length bs → digits_in radix bs ≡ go_on radix 0 bs
some_digits radix [] h = absurd (omega arith)
some_digits radix (b ∷ bs) h = refl

-- one digit more, the value cut down
abbrev pub push : ℕ → ℕ → ℕ → Option ℕ
push radix n b = option_map capped (go_on radix n (b ∷ []))

-- digits that are pushed one at a time
pub pushes : (radix n : ℕ) (bs : List ℕ) → 1 ≤ radix → n ≤ 2 ^ 32 → over (push radix) n bs ≡ option_map capped (go_on radix n bs)
pushes radix n [] h small = let e : n ≡ min n (2 ^ 32) = omega arith in ap Some e
pushes radix n (b ∷ bs) h small =
    let m = n * radix + worth b in
    by_bool (ltb (worth b) radix)
    (λ e. simp e (pushes radix (min m (2 ^ 32)) bs h (omega arith) ∙ cut radix m bs h))
    (λ e. simp e)
