-- A list that two machines are asked, and its end.
use Rattle.std.proofs.Common.{◌≡◌, ℕ, ◌+◌, List, [], ◌∷◌, ◌≤◌, ◌<◌, length, drop, get_or, Some, None, Option, inl, inr, refl, sym, ap, ◌∙◌, subst}
use Rattle.std.proofs.lemmas.List.{drop_all, drop_more}
use Rattle.runs.specs.Compared.{Both, met, first_answered, second_answered, second_wanted, both_after, End, end_at, AfterBoth, Compared, OneEnd}
use Rattle.runs.specs.declared.comparison.Outcome.TheVariants.{Same, PermitFault, Different}
use Rattle.runs.specs.declared.comparison.Pairing.{Pairing}

-- a request to which both answer as they have to goes on with the rest
compared_more : (x : Pairing) (xs : List Pairing) (at : ℕ) (b here : Both) (e : End) → (second_answered x b).answer ≡ second_wanted x b → None ≡ met (first_answered x b).answer → here ≡ both_after x b
    → Compared xs (at + 1) here e → Compared (x ∷ xs) at b e
compared_more x xs at b here e agree none after rest =
    let more : Compared xs (at + 1) (both_after x b) e = subst (λ (k : Both). Compared xs (at + 1) k e) after rest in
    inl (agree, subst (λ (m : Option ℕ). AfterBoth m at (both_after x b) e (Compared xs (at + 1) (both_after x b) e)) none more)

-- a permit fault ends it
compared_fault : (x : Pairing) (xs : List Pairing) (at n : ℕ) (b here : Both) → (second_answered x b).answer ≡ second_wanted x b → Some n ≡ met (first_answered x b).answer → here ≡ both_after x b
    → Compared (x ∷ xs) at b (end_at (PermitFault at n) here)
compared_fault x xs at n b here agree some after =
    inl (agree, subst (λ (m : Option ℕ). AfterBoth m at (both_after x b) (end_at (PermitFault at n) here) (Compared xs (at + 1) (both_after x b) (end_at (PermitFault at n) here))) some (ap (end_at (PermitFault at n)) after))

-- and so does another answer
compared_other : (x : Pairing) (xs : List Pairing) (at : ℕ) (b here : Both) → ((second_answered x b).answer ≡ second_wanted x b → ⊥) → here ≡ both_after x b → Compared (x ∷ xs) at b (end_at (Different at) here)
compared_other x xs at b here other after = inr (other, ap (end_at (Different at)) after)

-- the same from a place of a list on
pub more_here : (xs : List Pairing) (i : ℕ) (d : Pairing) (b here : Both) (e : End) → i < length xs → (second_answered (get_or xs i d) b).answer ≡ second_wanted (get_or xs i d) b → None ≡ met (first_answered (get_or xs i d) b).answer
    → here ≡ both_after (get_or xs i d) b → Compared (drop (i + 1) xs) (i + 1) here e → Compared (drop i xs) i b e
more_here xs i d b here e in_list agree none after rest =
    subst (λ (ys : List Pairing). Compared ys i b e) (sym (drop_more xs i d in_list)) (compared_more (get_or xs i d) (drop (i + 1) xs) i b here e agree none after rest)

pub fault_here : (xs : List Pairing) (i n : ℕ) (d : Pairing) (b here : Both) → i < length xs → (second_answered (get_or xs i d) b).answer ≡ second_wanted (get_or xs i d) b → Some n ≡ met (first_answered (get_or xs i d) b).answer
    → here ≡ both_after (get_or xs i d) b → Compared (drop i xs) i b (end_at (PermitFault i n) here)
fault_here xs i n d b here in_list agree some after =
    subst (λ (ys : List Pairing). Compared ys i b (end_at (PermitFault i n) here)) (sym (drop_more xs i d in_list)) (compared_fault (get_or xs i d) (drop (i + 1) xs) i n b here agree some after)

pub other_here : (xs : List Pairing) (i : ℕ) (d : Pairing) (b here : Both) → i < length xs → ((second_answered (get_or xs i d) b).answer ≡ second_wanted (get_or xs i d) b → ⊥)
    → here ≡ both_after (get_or xs i d) b → Compared (drop i xs) i b (end_at (Different i) here)
other_here xs i d b here in_list other after =
    subst (λ (ys : List Pairing). Compared ys i b (end_at (Different i) here)) (sym (drop_more xs i d in_list)) (compared_other (get_or xs i d) (drop (i + 1) xs) i b here other after)

pub all_here : (xs : List Pairing) (i : ℕ) (b : Both) → length xs ≤ i → Compared (drop i xs) i b (end_at Same b)
all_here xs i b past = subst (λ (ys : List Pairing). Compared ys i b (end_at Same b)) (sym (drop_all i xs past)) refl

-- after both answers there is one end
one_after : (m : Option ℕ) (at : ℕ) (b : Both) (e f : End) (here there : Type 0) → AfterBoth m at b e here → AfterBoth m at b f there → (here → there → f ≡ e) → f ≡ e
one_after None at b e f here there a c rest = rest a c
one_after (Some n) at b e f here there a c rest = c ∙ sym a

one_from : (xs : List Pairing) (at : ℕ) (b : Both) (e f : End) → Compared xs at b e → Compared xs at b f → f ≡ e
one_from [] at b e f is so = so ∙ sym is
one_from (x ∷ xs) at b e f (inl is) (inl so) =
    one_after (met (first_answered x b).answer) at (both_after x b) e f (Compared xs (at + 1) (both_after x b) e) (Compared xs (at + 1) (both_after x b) f) is.1 so.1 (one_from xs (at + 1) (both_after x b) e f)
one_from (x ∷ xs) at b e f (inl is) (inr so) = absurd (so.0 is.0)
one_from (x ∷ xs) at b e f (inr is) (inl so) = absurd (is.0 so.0)
one_from (x ∷ xs) at b e f (inr is) (inr so) = so.1 ∙ sym is.1

-- a list and a start have one end
pub one_end : (xs : List Pairing) (b : Both) → OneEnd xs b
one_end xs b e f is so = one_from xs 0 b e f is so
