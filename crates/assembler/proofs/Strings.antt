-- The pieces of a string.
use Rattle.std.proofs.Common.{◌≡◌, ℕ, ◌+◌, ◌-◌, ◌<◌, ◌≤◌, Bool, true, false, cond, ◌&&◌, eqb, List, [], ◌∷◌, length, get_or, take, drop, is_some, IfSome, Some, None, Ok, Err, Option, sym, refl, ap, ◌∙◌, arith}
use Rattle.std.specs.Option.{option_map, unwrap_or}
use Rattle.std.proofs.lemmas.List.{take_rest}
use Rattle.std.proofs.lemmas.Bool.{cond-true, cond_both, eq-eqb, false≢true}
use Rattle.std.specs.Bool.{then_some}
use Rattle.std.specs.Str.{bytes_eq}
use Rattle.lexer.specs.Escape.{escaped_as}
use Rattle.executable.specs.Check.{ask}
use Rattle.lexer.specs.Shown.{string}
use Rattle.assembler.specs.Operands.{a_string}
use Rattle.assembler.specs.Reading.{placed}
use Rattle.assembler.specs.declared.question.Question.TheVariants as question
use Rattle.assembler.specs.Characters.{in_front, plain_character, before, first_character, until_quote, characters}

-- a character in front of others, and as many bytes less
front : (o : Option ℕ) (left after : List ℕ) (v : ℕ) → Some (v, after) ≡ before left o → (in_front o (until_quote left) ≡ in_front (Some v) (until_quote after)) × (length after ≤ length left)
front None left after v e = let n : ◌≡◌ {A = ℕ} 0 1 = cc in absurd (omega arith)
front (Some x) left after v e =
    let pair : ◌≡◌ {A = ℕ × List ℕ} (v, after) (x, left) = cc in
    let is : after ≡ left = ap (λ p. p.1) pair in
    let same : v ≡ x = ap (λ p. p.0) pair in
    (cc, omega (arith, ap length is))

-- a string that begins with a character has it in front of those after it
pub splits_some : (rest after : List ℕ) (v : ℕ) → Some (v, after) ≡ first_character rest → (until_quote rest ≡ in_front (Some v) (until_quote after)) × (length after < length rest)
splits_some [] after v e = let n : ◌≡◌ {A = ℕ} 0 1 = cc in absurd (omega arith)
splits_some (b ∷ []) after v e = let n : ◌≡◌ {A = ℕ} 0 1 = cc in absurd (omega arith)
splits_some (b ∷ c ∷ rest) after v e = go (eqb b 34) (eqb b 92) e where
  go : (p q : Bool) → Some (v, after) ≡ cond p None (cond q (before rest (escaped_as c)) (before (c ∷ rest) (plain_character b)))
      → (cond p None (cond q (in_front (escaped_as c) (until_quote rest)) (in_front (plain_character b) (until_quote (c ∷ rest)))) ≡ in_front (Some v) (until_quote after)) × (length after < length (b ∷ c ∷ rest))
  go true q e = let n : ◌≡◌ {A = ℕ} 0 1 = cc in absurd (omega arith)
  go false true e = let f = front (escaped_as c) rest after v e in (f.0, omega (arith, f.1))
  go false false e = let f = front (plain_character b) (c ∷ rest) after v e in (f.0, omega (arith, f.1))

-- a string with no character in front is counted to its end where the closing quote is all of it, and else is no string
pub splits_none : (rest : List ℕ) (n : ℕ) → None ≡ first_character rest → then_some (bytes_eq rest (34 ∷ [])) n ≡ option_map (λ cs. n + length cs) (until_quote rest)
splits_none [] n e = refl
splits_none (b ∷ []) n e = go (eqb b 34) where
  go : (p : Bool) → then_some (p && true) n ≡ option_map (λ (cs : List ℕ). n + length cs) (cond p (Some []) None)
  go true = let z : n ≡ n + length {A = ℕ} [] = omega arith in ap Some z
  go false = refl
splits_none (b ∷ c ∷ rest) n e = go (eqb b 34) (eqb b 92) e where
  none : (o : Option ℕ) (left : List ℕ) → None ≡ before left o → None ≡ option_map (λ (cs : List ℕ). n + length cs) (in_front o (until_quote left))
  none None left e = refl
  none (Some x) left e = let n : ◌≡◌ {A = ℕ} 0 1 = cc in absurd (omega arith)

  go : (p q : Bool) → None ≡ cond p None (cond q (before rest (escaped_as c)) (before (c ∷ rest) (plain_character b)))
      → then_some (p && false) n ≡ option_map (λ (cs : List ℕ). n + length cs) (cond p None (cond q (in_front (escaped_as c) (until_quote rest)) (in_front (plain_character b) (until_quote (c ∷ rest)))))
  go true q e = refl
  go false true e = none (escaped_as c) rest e
  go false false e = none (plain_character b) (c ∷ rest) e

-- a string with no character in front is at its end
pub is_closed : (rest : List ℕ) → None ≡ first_character rest → is_some (until_quote rest) ≡ true → until_quote rest ≡ Some []
is_closed rest e s = go (bytes_eq rest (34 ∷ [])) (until_quote rest) (splits_none rest 0 e) s where
  go : (b : Bool) (o : Option (List ℕ)) → then_some b 0 ≡ option_map (λ (cs : List ℕ). 0 + length cs) o → is_some o ≡ true → o ≡ Some []
  go b None e s = absurd (false≢true s)
  go b (Some []) e s = refl
  go true (Some (x ∷ cs)) e s = let z : 0 ≡ 0 + length (x ∷ cs) = cc in absurd (omega arith)
  go false (Some (x ∷ cs)) e s = let n : ◌≡◌ {A = ℕ} 0 1 = cc in absurd (omega arith)

-- one character more is counted
pub count_more : (n v : ℕ) (o : Option (List ℕ)) → option_map (λ cs. n + length cs) (in_front (Some v) o) ≡ option_map (λ cs. n + 1 + length cs) o
count_more n v None = refl
count_more n v (Some cs) = let e : n + (length (v ∷ cs)) ≡ n + 1 + length cs = omega arith in ap Some e

pub count_start : (o : Option (List ℕ)) → option_map (λ cs. 0 + length cs) o ≡ option_map length o
count_start None = refl
count_start (Some cs) = let e : 0 + length cs ≡ length cs = omega arith in ap Some e

pub past_opening : (w : List ℕ) → 0 < length w → get_or w 0 0 ≡ 34 → characters w ≡ until_quote (take (length w - 1) (drop 1 w))
past_opening [] h e = absurd (omega arith)
past_opening (b ∷ bs) h e = cond-true _ _ _ (eq-eqb b 34 e) ∙ sym (ap until_quote (take_rest (b ∷ bs) 1))

-- a string has fewer characters than bytes
front_short : (o : Option ℕ) (m : Option (List ℕ)) (n k : ℕ) → IfSome m (λ cs. length cs < n) → n < k → IfSome (in_front o m) (λ cs. length cs < k)
front_short None m n k h l = tt
front_short (Some c) None n k h l = tt
front_short (Some c) (Some cs) n k h l = omega arith

until_short : (rest : List ℕ) → IfSome (until_quote rest) (λ cs. length cs < length rest)
until_short [] = tt
until_short (b ∷ []) = cond_both (eqb b 34) (Some []) None (λ r. IfSome r (λ cs. length cs < length (b ∷ []))) (λ _. omega arith) (λ _. tt)
until_short (b ∷ c ∷ rest) =
    cond_both (eqb b 34) None (cond (eqb b 92) (in_front (escaped_as c) (until_quote rest)) (in_front (plain_character b) (until_quote (c ∷ rest)))) (λ r. IfSome r (λ cs. length cs < length (b ∷ c ∷ rest)))
    (λ _. tt)
    (λ _. cond_both (eqb b 92) (in_front (escaped_as c) (until_quote rest)) (in_front (plain_character b) (until_quote (c ∷ rest))) (λ r. IfSome r (λ cs. length cs < length (b ∷ c ∷ rest)))
    (λ _. front_short (escaped_as c) (until_quote rest) (length rest) (length (b ∷ c ∷ rest)) (until_short rest) (omega arith))
    (λ _. front_short (plain_character b) (until_quote (c ∷ rest)) (length (c ∷ rest)) (length (b ∷ c ∷ rest)) (until_short (c ∷ rest)) (omega arith)))

short_length : (o : Option (List ℕ)) (n : ℕ) → IfSome o (λ cs. length cs < n) → IfSome (option_map length o) (λ k. k < n)
short_length None n h = tt
short_length (Some cs) n h = h

pub characters_short : (w : List ℕ) → IfSome (option_map length (characters w)) (λ k. k < length w)
characters_short [] = tt
characters_short (b ∷ bs) = cond_both (eqb b 34) (until_quote bs) None (λ r. IfSome (option_map length r) (λ k. k < length (b ∷ bs)))
    (λ _. short_length (until_quote bs) (length (b ∷ bs)) (weaker (until_quote bs) (length bs) (length (b ∷ bs)) (until_short bs) (omega arith)))
    (λ _. tt) where
      weaker : (o : Option (List ℕ)) (n k : ℕ) → IfSome o (λ cs. length cs < n) → n < k → IfSome o (λ cs. length cs < k)
      weaker None n k h l = tt
      weaker (Some cs) n k h l = omega arith

-- a quoted word whose characters were counted has the form of a string, and no other has
pub string_counted : (w : List ℕ) (k : ℕ) → Some k ≡ option_map length (characters w) → Ok (characters w) ≡ placed a_string (string w) (Some (unwrap_or (characters w) []))
string_counted w k e = go (characters w) e where
  go : (o : Option (List ℕ)) → Some k ≡ option_map length o → Ok o ≡ ask (is_some o) question.Form (Ok (Some (unwrap_or o [])))
  go None e = absurd (false≢true (sym (ap is_some e)))
  go (Some cs) e = refl

pub string_uncounted : (w : List ℕ) → None ≡ option_map length (characters w) → Err question.Form ≡ placed a_string (string w) (Some (unwrap_or (characters w) []))
string_uncounted w e = go (characters w) e where
  go : (o : Option (List ℕ)) → None ≡ option_map length o → Err question.Form ≡ ask (is_some o) question.Form (Ok (Some (unwrap_or o [])))
  go None e = refl
  go (Some cs) e = absurd (false≢true (ap is_some e))
