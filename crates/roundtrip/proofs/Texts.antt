-- The texts of numbers and registers: their bytes, their kinds, and what is read from them.
use Rattle.std.proofs.Common.{◌≡◌, ℕ, suc, ◌+◌, ◌-◌, ◌/◌, ◌%◌, ◌^◌, ◌<◌, ◌≤◌, true, ◌&&◌, eqb, leb, List, [], ◌∷◌, ◌++◌, length, ℤ, pos, negsuc, Some, decimal, sym, refl, ap, ◌∙◌, subst, ⊎_elim, arith}
use lib.Signed.{mag}
use Rattle.std.specs.Option.{option_map}
use Rattle.std.specs.Fmt.{signed_decimal}
use Rattle.std.proofs.lemmas.Fmt.{decimal_by_steps, decimal_digit, decimal_step}
use Rattle.std.proofs.lemmas.Bool.{cond-true, cond-false, cases_lt, le-leb, ne_eqb, and_from, or_left}
use Rattle.lexer.specs.Shown.{kind_of, number, register, digit, register_number}
use Rattle.lexer.proofs.Again.{High}
use Rattle.listing.specs.Lines.{register_name}
use Rattle.numerals.specs.Natural.{natural}
use Rattle.numerals.specs.Integer.{integer, negative}
use Rattle.numerals.proofs.Round.{natural_decimal}

-- each byte is a digit
abbrev Digits : List ℕ → Type 0
Digits [] = Unit {0}
Digits (b ∷ bs) = (48 ≤ b) × (b ≤ 57) × Digits bs

digits_push : (ds : List ℕ) (b : ℕ) → 48 ≤ b → b ≤ 57 → Digits ds → Digits (ds ++ b ∷ [])
digits_push [] b l h k = (l, h, tt)
digits_push (d ∷ ds) b l h k = (k.0, k.1, digits_push ds b l h k.2)

some_push : (ds : List ℕ) (b : ℕ) → 0 < length (ds ++ b ∷ [])
some_push [] b = omega arith
some_push (d ∷ ds) b = omega arith

decimal_digits : (n : ℕ) → n < 2 ^ 64 → Digits (decimal n) × (0 < length (decimal n))
decimal_digits n h = decimal_by_steps (λ _ ds. Digits ds × (0 < length ds))
    (λ d small. ((omega arith, omega arith, tt), omega arith))
    (λ k ds large ih. (digits_push ds (48 + k % 10) (omega arith) (omega arith) ih.0, some_push ds (48 + k % 10)))
    n h

digits_high : (ds : List ℕ) → Digits ds → High ds
digits_high [] h = tt
digits_high (d ∷ ds) h = (omega (arith, h.0), omega (arith, h.1), digits_high ds h.2)

-- a word that is a number
pub record Number (w : List ℕ) : Type 0 where
  pub some : 0 < length w
  pub high : High w
  pub kind : kind_of w ≡ number w

digits_kind : (ds : List ℕ) → Digits ds → 0 < length ds → kind_of ds ≡ number ds
digits_kind [] h s = absurd (omega arith)
digits_kind (d ∷ ds) h s =
    cond-false _ _ _ (ne_eqb d 34 (λ e. omega (arith, h.0)))
    ∙ cond-true _ _ _ (or_left (digit d) (eqb d 45) (and_from (leb 48 d) (leb d 57) (le-leb 48 d h.0) (le-leb d 57 h.1)))

pub decimal_number : (n : ℕ) → n < 2 ^ 64 → Number (decimal n)
decimal_number n h =
    let d = decimal_digits n h in
    record { some = d.1; high = digits_high (decimal n) d.0; kind = digits_kind (decimal n) d.0 d.1 }

pub signed_number : (z : ℤ) → mag z < 2 ^ 63 → Number (signed_decimal z)
signed_number (pos n) h = decimal_number n (omega arith)
signed_number (negsuc n) h = record { some = omega arith; high = (omega arith, omega arith, (decimal_number (suc n) (omega arith)).high); kind = refl }

no_minus : (ds : List ℕ) → Digits ds → 0 < length ds → integer ds ≡ option_map pos (natural ds)
no_minus [] h s = absurd (omega arith)
no_minus (d ∷ ds) h s = cond-false _ _ _ (ne_eqb d 45 (λ e. omega (arith, h.0)))

-- an integer is read back from its text
pub integer_signed : (z : ℤ) → mag z < 2 ^ 63 → integer (signed_decimal z) ≡ Some z
integer_signed (pos n) h =
    let d = decimal_digits n (omega arith) in
    no_minus (decimal n) d.0 d.1 ∙ ap (option_map pos) (natural_decimal n (omega arith))
integer_signed (negsuc n) h = ap (option_map negative) (natural_decimal (suc n) (omega arith))

-- a word that is the name of the register r
pub record Names (r : ℕ) (w : List ℕ) : Type 0 where
  pub some : 0 < length w
  pub high : High w
  pub kind : kind_of w ≡ register w
  pub is : register_number w ≡ Some r

short : (r : ℕ) → r < 10 → Names r (114 ∷ (48 + r) ∷ [])
short r h =
    let is : digit (48 + r) ≡ true = and_from (leb 48 (48 + r)) (leb (48 + r) 57) (le-leb 48 (48 + r) (omega arith)) (le-leb (48 + r) 57 (omega arith)) in
    let back : 48 + r - 48 ≡ r = omega arith in
    record { some = omega arith; high = (omega arith, omega arith, (omega arith, omega arith, tt)); kind = simp is; is = cond-true _ _ _ is ∙ ap Some back }

long : (r : ℕ) → 10 ≤ r → r < 16 → Names r (114 ∷ 49 ∷ (38 + r) ∷ [])
long r l h =
    let is : (leb 48 (38 + r) && leb (38 + r) 53) ≡ true = and_from (leb 48 (38 + r)) (leb (38 + r) 53) (le-leb 48 (38 + r) (omega arith)) (le-leb (38 + r) 53 (omega arith)) in
    let back : 38 + r - 38 ≡ r = omega arith in
    record { some = omega arith; high = (omega arith, omega arith, (omega arith, omega arith, (omega arith, omega arith, tt))); kind = simp is; is = cond-true _ _ _ is ∙ ap Some back }

pub register_named : (r : ℕ) → r < 16 → Names r (register_name r)
register_named r h = ⊎_elim
    (λ (low : r < 10). subst (λ l. Names r (114 ∷ l)) (sym (decimal_digit r low)) (short r low))
    (λ (high : 10 ≤ r).
    let one : r / 10 ≡ 1 = omega arith in
    let last : 48 + r % 10 ≡ 38 + r = omega arith in
    let is : decimal r ≡ 49 ∷ (38 + r) ∷ [] = decimal_step r high (omega arith) ∙ ap (λ d. d ++ (48 + r % 10) ∷ []) (ap decimal one ∙ decimal_digit 1 (omega arith)) ∙ ap (λ x. 49 ∷ x ∷ []) last in
    subst (λ l. Names r (114 ∷ l)) (sym is) (long r high h))
    (cases_lt r 10)
