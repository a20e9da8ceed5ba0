-- Numbers above 2 ^ 32 are out of every range.
use Rattle.std.proofs.Common.{◌≡◌, ℕ, ◌^◌, ◌<◌, ◌≤◌, true, ltb, leb, Some, None, Option, sym, refl, ap, ap₂, ◌∙◌, ◌&&◌, ⊎_elim, arith}
use Rattle.std.proofs.lemmas.Bool.{and_parts, cases_lt, cond-false, ltb-true, leb-true, lt-ltb, le-ltb, le-leb, lt-leb}
use Rattle.std.specs.Option.{option_map}
use Rattle.lexer.proofs.Split.{by_bool}
use Rattle.numerals.specs.Natural.{capped}
use Rattle.permit.specs.Rights.{Rights}
use Rattle.permit_text.specs.declared.setting.Setting.{Setting}
use Rattle.permit_text.specs.declared.setting.Setting.TheVariants.{Register, Segment, Stack}
use Rattle.permit_text.specs.Files.{after_setting}
use Rattle.permit_text.specs.Settings.{capped_setting, in_range}

below : (n bound : ℕ) → bound ≤ 2 ^ 32 → ltb (capped n) bound ≡ ltb n bound
below n bound h = ⊎_elim
    (λ (l : n < bound). lt-ltb (capped n) bound (omega arith) ∙ sym (lt-ltb n bound l))
    (λ (g : bound ≤ n). le-ltb (capped n) bound (omega arith) ∙ sym (le-ltb n bound g))
    (cases_lt n bound)

at_most : (n bound : ℕ) → bound < 2 ^ 32 → leb (capped n) bound ≡ leb n bound
at_most n bound h = ⊎_elim
    (λ (g : bound < n). lt-leb (capped n) bound (omega arith) ∙ sym (lt-leb n bound g))
    (λ (l : n ≤ bound). le-leb (capped n) bound (omega arith) ∙ sym (le-leb n bound l))
    (cases_lt bound n)

small : (n bound : ℕ) → n < bound → bound ≤ 2 ^ 32 → capped n ≡ n
small n bound h k = omega arith

ranges : (s : Setting) → in_range (capped_setting s) ≡ in_range s
ranges (Register r l) = ap₂ ◌&&◌ (below r 16 (omega arith)) (below l 3 (omega arith))
ranges (Segment s l) = ap₂ ◌&&◌ (below s 2 (omega arith)) (below l 3 (omega arith))
ranges (Stack n) = at_most n 1048576 (omega arith)

same : (s : Setting) → in_range s ≡ true → capped_setting s ≡ s
same (Register r l) e = let p = and_parts _ _ e in ap₂ Register (small r 16 (ltb-true r 16 p.0) (omega arith)) (small l 3 (ltb-true l 3 p.1) (omega arith))
same (Segment s l) e = let p = and_parts _ _ e in ap₂ Segment (small s 2 (ltb-true s 2 p.0) (omega arith)) (small l 3 (ltb-true l 3 p.1) (omega arith))
same (Stack n) e = let k = leb-true n 1048576 e in ap Stack (small n 1048577 (omega arith) (omega arith))

of_setting : (line : ℕ) (s : Setting) (p : Rights) → after_setting line (Some (capped_setting s)) p ≡ after_setting line (Some s) p
of_setting line s p = by_bool (in_range s)
    (λ e. ap (λ t. after_setting line (Some t) p) (same s e))
    (λ e. cond-false _ _ _ (ranges s ∙ e) ∙ sym (cond-false _ _ _ e))

-- a setting by numbers that are cut down does what it does by its own
pub as_capped : (line : ℕ) (o : Option Setting) (p : Rights) → after_setting line (option_map capped_setting o) p ≡ after_setting line o p
as_capped line None p = refl
as_capped line (Some s) p = of_setting line s p
