-- One more change in a list of changes.
use Rattle.std.proofs.Common.{◌≡◌, ℕ, ◌+◌, ◌<◌, Bool, true, false, not, cond, eqb, List, [], ◌∷◌, ◌++◌, map, filter, length, codes, decimal, sym, ap, ◌∙◌, arith, length-append, append_assoc, append-nil}
use Rattle.std.specs.List.{flat_map, range_with_len}
use Rattle.std.proofs.lemmas.Bool.{cond-false, ne_eqb}
use Rattle.std.proofs.lemmas.List.Elements.{filter-append}
use Rattle.std.proofs.lemmas.List.{map-append}
use Rattle.std.proofs.lemmas.List.FromFn.{map-range_with_len_more}
use Rattle.std.proofs.lemmas.Grind.{flat_map-append}
use Rattle.run_pages.specs.Dumps.{registers}
use Rattle.run_pages.specs.Changes.{Held, has_changed, change_text, change_texts, after_comma, comma_joined, parted, with_change}

-- a change has a text
text_length : (h : Held) → 0 < length (change_text h)
text_length h = omega (arith, length-append h.name (32 ∷ (decimal h.before ++ (codes " -> " ++ decimal h.after))))

joined_length : (h : Held) (hs : List Held) → 0 < length (comma_joined (map change_text (h ∷ hs)))
joined_length h hs = omega (arith, text_length h, length-append (change_text h) (flat_map after_comma (map change_text hs)))

-- a list with something in it gets a comma
parted_long : (list : List ℕ) → 0 < length list → parted list ≡ list ++ codes ", "
parted_long list h = cond-false (eqb (length list) 0) list (list ++ codes ", ") (ne_eqb (length list) 0 (λ e. omega arith))

regroup : (a b c t : List ℕ) → ((a ++ b) ++ c) ++ t ≡ a ++ (b ++ ((c ++ t) ++ []))
regroup a b c t = simp (append_assoc, append-nil)

-- one more text
one_more : (hs : List Held) (t : List ℕ) → parted (comma_joined (map change_text hs)) ++ t ≡ comma_joined (map change_text hs ++ t ∷ [])
one_more [] t = sym (append-nil t)
one_more (h ∷ hs) t =
    let more = map change_text hs in
    ap (λ l. l ++ t) (parted_long (comma_joined (map change_text (h ∷ hs))) (joined_length h hs)) ∙ regroup (change_text h) (flat_map after_comma more) (codes ", ") t
    ∙ ap (λ l. change_text h ++ l) (sym (flat_map-append after_comma more (t ∷ [])))

chosen : (b : Bool) (hs : List Held) (h : Held)
    → cond b (comma_joined (map change_text hs)) (parted (comma_joined (map change_text hs)) ++ change_text h) ≡ comma_joined (map change_text (hs ++ cond (not b) (h ∷ []) []))
chosen true hs h = ap (λ l. comma_joined (map change_text l)) (sym (append-nil hs))
chosen false hs h = one_more hs (change_text h) ∙ ap comma_joined (sym (map-append change_text hs (h ∷ [])))

-- one more place, changed or not
pub with_more : (hs : List Held) (h : Held) → with_change (comma_joined (change_texts hs)) h ≡ comma_joined (change_texts (hs ++ h ∷ []))
with_more hs h =
    chosen (eqb h.before h.after) (filter has_changed hs) h ∙ ap (λ l. comma_joined (map change_text l)) (sym (filter-append has_changed hs (h ∷ [])))

-- one more register
pub register_more : (f : ℕ → Held) (n : ℕ) (before after : List ℕ) → before ≡ comma_joined (change_texts (map f (range_with_len 0 n))) → after ≡ with_change before (f n)
    → after ≡ comma_joined (change_texts (map f (range_with_len 0 (n + 1))))
register_more f n before after e w =
    w ∙ ap (λ l. with_change l (f n)) e ∙ with_more (map f (range_with_len 0 n)) (f n)
    ∙ ap (λ l. comma_joined (change_texts l)) (sym (map-range_with_len_more f 0 n n (omega arith)))

-- and the flags, behind all registers
pub flags_more : (f : ℕ → Held) (h : Held) (n : ℕ) (before after : List ℕ) → n ≡ 16 → before ≡ comma_joined (change_texts (map f (range_with_len 0 n))) → after ≡ with_change before h
    → after ≡ comma_joined (change_texts (map f registers ++ h ∷ []))
flags_more f h n before after all e w =
    w ∙ ap (λ l. with_change l h) (e ∙ ap (λ k. comma_joined (change_texts (map f (range_with_len 0 k)))) all) ∙ with_more (map f registers) h
