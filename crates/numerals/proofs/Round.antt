-- A number is read back from its decimal digits.
use Rattle.std.proofs.Common.{◌≡◌, ℕ, ◌+◌, ◌-◌, ◌*◌, ◌/◌, ◌%◌, ◌^◌, ◌<◌, ◌&&◌, eqb, ltb, leb, List, [], ◌∷◌, ◌++◌, get_or, Some, decimal, ap, ◌∙◌, ⊎_elim, zero-add, arith}
use Rattle.std.proofs.lemmas.Fmt.{decimal_by_steps, decimal_digit, first_decimal}
use Rattle.std.proofs.lemmas.Bool.{cond-true, cond-false, lt-ltb, le-leb, and_from, ne_eqb, cases_eq}
use Rattle.numerals.specs.Natural.{worth, go_on, natural}
use Rattle.numerals.proofs.Caps.{by_bool}

worth_digit : (d : ℕ) → d < 10 → worth (48 + d) ≡ d
worth_digit d h = cond-true (leb 48 (48 + d) && leb (48 + d) 57) _ _ (and_from _ _ (le-leb 48 (48 + d) (omega arith)) (le-leb (48 + d) 57 (omega arith))) ∙ (let e : 48 + d - 48 ≡ d = omega arith in e)

-- one more digit at the end
go_push : (r n m : ℕ) (ds : List ℕ) (c : ℕ) → worth c < r → go_on r n ds ≡ Some m → go_on r n (ds ++ c ∷ []) ≡ Some (m * r + worth c)
go_push r n m [] c h e = let same : n ≡ m = cc in cond-true _ _ _ (lt-ltb (worth c) r h) ∙ ap (λ k. Some (k * r + worth c)) same
go_push r n m (d ∷ ds) c h e = by_bool (ltb (worth d) r)
    (λ t. simp t (go_push r (n * r + worth d) m ds c h (simp t at e)))
    (λ t. let k = simp t at e in let z : ◌≡◌ {A = ℕ} 0 1 = cc in absurd (omega arith))

pub go_decimal : (n : ℕ) → n < 2 ^ 64 → go_on 10 0 (decimal n) ≡ Some n
go_decimal n h = decimal_by_steps (λ n ds. go_on 10 0 ds ≡ Some n)
    (λ d small. let e = worth_digit d small in rw e (cond-true (ltb d 10) _ _ (lt-ltb d 10 small) ∙ ap Some (zero-add d)))
    (λ k ds large ih.
    let small : k % 10 < 10 = omega arith in
    let e = worth_digit (k % 10) small in
    let back : k / 10 * 10 + worth (48 + k % 10) ≡ k = omega (arith, e) in
    go_push 10 0 (k / 10) ds (48 + k % 10) (omega (arith, e)) ih ∙ ap Some back)
    n h

-- no decimal but 0 begins with 0
led : (n : ℕ) (ds : List ℕ) → 48 < get_or ds 0 0 → go_on 10 0 ds ≡ Some n → natural ds ≡ Some n
led n [] h e = absurd (omega arith)
led n (d ∷ ds) h e = cond-false (eqb d 48) _ _ (ne_eqb d 48 (λ z. omega arith)) ∙ e

pub natural_decimal : (n : ℕ) → n < 2 ^ 64 → natural (decimal n) ≡ Some n
natural_decimal n h = ⊎_elim
    (λ (z : n ≡ 0). rw z (ap natural (decimal_digit 0 (omega arith))))
    (λ (z : n ≡ 0 → ⊥). led n (decimal n) (first_decimal n (omega arith) h) (go_decimal n h))
    (cases_eq n 0)
