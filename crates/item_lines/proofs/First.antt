-- What stands first in a text of lines.
use Rattle.std.proofs.Common.{◌≡◌, refl, ℕ, zero, suc, ◌+◌, ◌/◌, ◌%◌, ◌<◌, ◌^◌, not, true, eqb, List, [], ◌∷◌, ◌++◌, length, get_or, take, drop, Some, None, Option, subst, codes, decimal, ap, sym, ◌∙◌, arith, append_assoc, ◌==◌}
use Rattle.std.specs.List.{list_all, position_or_len}
use Rattle.std.proofs.lemmas.Bool.{ne_eqb, eqb-true, and_parts, and_from}
use Rattle.std.proofs.lemmas.Fmt.{decimal_by_steps}
use Rattle.std.proofs.lemmas.List.Folds.{list_all-append}
use Rattle.std.proofs.Math.Seq.{drop-cons, take-append_seam}
use Rattle.std.proofs.lemmas.List.{take-append-drop, length-take-le, length-append}
use Rattle.std.proofs.lemmas.List.Sums.{passes_at_first}
use Rattle.std.specs.Int.{w64, to_be_bytes}
use Rattle.hex.specs.Hex.{encode_with, encode_lower, lower_digits}
use Rattle.host.specs.Ranges.{InRange}
use Rattle.host.specs.declared.item.Item.{Item}
use Rattle.host.specs.declared.item.Item.TheVariants.{Number, Real, Character}
use Rattle.item_lines.specs.Lines.{item_text, item_line}
use Rattle.item_lines.specs.Texts.{NoneFirst, Tells}
use Rattle.std.specs.List.{slice_index}

-- a text without a line end
abbrev pub InLine : List ℕ → Type 0
InLine bs = list_all (λ b. not (eqb b 10)) bs ≡ true

-- a line end stands where it is the first
pub ends_at : (t more : List ℕ) → InLine t → position_or_len (λ b. b == 10) (t ++ 10 ∷ more) ≡ length t
ends_at [] more h = refl
ends_at (b ∷ t) more h =
    let parts = and_parts (not (eqb b 10)) (list_all (λ b. not (eqb b 10)) t) h in
    let rest = ends_at t more parts.1 in
    simp parts.0 (omega arith)

joined : (xs ys : List ℕ) → InLine xs → InLine ys → InLine (xs ++ ys)
joined xs ys h k = list_all-append (λ b. not (eqb b 10)) xs ys ∙ and_from _ _ h k

decimal_in_line : (n : ℕ) → n < 2 ^ 64 → InLine (decimal n)
decimal_in_line n h = decimal_by_steps (λ _ ds. InLine ds)
    (λ d small. and_from _ true (ap not (ne_eqb (48 + d) 10 (λ e. omega arith))) refl)
    (λ k ds large ih. joined ds _ ih (and_from _ true (ap not (ne_eqb (48 + k % 10) 10 (λ e. omega arith))) refl)) n h

digit_in_line : (i : ℕ) → not (eqb (slice_index lower_digits i) 10) ≡ true
digit_in_line zero = refl
digit_in_line (suc zero) = refl
digit_in_line (suc (suc zero)) = refl
digit_in_line (suc (suc (suc zero))) = refl
digit_in_line (suc (suc (suc (suc zero)))) = refl
digit_in_line (suc (suc (suc (suc (suc zero))))) = refl
digit_in_line (suc (suc (suc (suc (suc (suc zero)))))) = refl
digit_in_line (suc (suc (suc (suc (suc (suc (suc zero))))))) = refl
digit_in_line (suc (suc (suc (suc (suc (suc (suc (suc zero)))))))) = refl
digit_in_line (suc (suc (suc (suc (suc (suc (suc (suc (suc zero))))))))) = refl
digit_in_line (suc (suc (suc (suc (suc (suc (suc (suc (suc (suc zero)))))))))) = refl
digit_in_line (suc (suc (suc (suc (suc (suc (suc (suc (suc (suc (suc zero))))))))))) = refl
digit_in_line (suc (suc (suc (suc (suc (suc (suc (suc (suc (suc (suc (suc zero)))))))))))) = refl
digit_in_line (suc (suc (suc (suc (suc (suc (suc (suc (suc (suc (suc (suc (suc zero))))))))))))) = refl
digit_in_line (suc (suc (suc (suc (suc (suc (suc (suc (suc (suc (suc (suc (suc (suc zero)))))))))))))) = refl
digit_in_line (suc (suc (suc (suc (suc (suc (suc (suc (suc (suc (suc (suc (suc (suc (suc zero))))))))))))))) = refl
digit_in_line (suc (suc (suc (suc (suc (suc (suc (suc (suc (suc (suc (suc (suc (suc (suc (suc i)))))))))))))))) = refl

encoded_in_line : (bs : List ℕ) → InLine (encode_with lower_digits bs)
unfolding encode_with
encoded_in_line [] = refl
encoded_in_line (b ∷ bs) = and_from _ _ (digit_in_line (b / 16)) (and_from _ _ (digit_in_line (b % 16)) (encoded_in_line bs))

pub item_in_line : (x : Item) → InRange x → InLine (item_text x)
item_in_line (Number n) h = joined (codes "number ") (decimal n) refl (decimal_in_line n (omega (arith, h)))
item_in_line (Real b) h = joined (codes "real 0x") (encode_lower (to_be_bytes w64 b)) refl (encoded_in_line (to_be_bytes w64 b))
item_in_line (Character c) h = joined (codes "character ") (decimal c) refl (decimal_in_line c (omega (arith, h)))

-- where the first line of a text ends
abbrev pub first_end : List ℕ → ℕ
first_end text = position_or_len (λ b. b == 10) text

parted : (x : Item) (more : List ℕ) → item_line x ++ more ≡ item_text x ++ 10 ∷ more
parted x more = simp (append_assoc)

-- an item's line in front ends behind its text
pub line_first : (text : List ℕ) (x : Item) (more : List ℕ) → InRange x → text ≡ item_line x ++ more → first_end text ≡ length (item_text x)
line_first text x more h e = ap first_end (e ∙ parted x more) ∙ ends_at (item_text x) more (item_in_line x h)

-- a text in which no line ends begins with no item's line
pub no_end : (text : List ℕ) → first_end text ≡ length text → NoneFirst text
no_end text all x more h e =
    let at = line_first text x more h e in
    let size = ap length (e ∙ parted x more) ∙ length-append (item_text x) (10 ∷ more) in
    omega (arith, at, size, all)

-- a text whose first line is no item's begins with no item's line
pub no_item : (text : List ℕ) (n : ℕ) (o : Option Item) → n ≡ first_end text → o ≡ None → Tells (take n text) o → NoneFirst text
no_item text n o first none tells x more h e =
    let at = first ∙ line_first text x more h e in
    let told = subst (Tells (take n text)) none tells in
    told x h (ap (λ n. take n text) at ∙ ap (take (length (item_text x))) (e ∙ parted x more) ∙ take-append_seam (item_text x) (10 ∷ more))

-- where a line end stands in a text
cut_at : (text : List ℕ) (n : ℕ) → n < length text → get_or text n 0 ≡ 10 → text ≡ take n text ++ 10 ∷ drop (n + 1) text
cut_at text n inside end =
    let more = drop-cons text n 0 inside in
    let next : suc n ≡ n + 1 = omega arith in
    sym (take-append-drop n text) ∙ ap (λ t. take n text ++ t) (more ∙ ap (λ b. b ∷ drop (suc n) text) end ∙ ap (λ k. 10 ∷ drop k text) next)

-- a text whose first line is an item's begins with that item's line
pub an_item : (text : List ℕ) (n : ℕ) (o : Option Item) (x : Item) → n ≡ first_end text → n < length text → o ≡ Some x → Tells (take n text) o
    → InRange x × (n + 1 ≡ length (item_line x)) × (text ≡ item_line x ++ drop (n + 1) text)
an_item text n o x first inside some tells =
    let told = (subst (Tells (take n text)) some tells).1 in
    let passes = passes_at_first (λ b. b == 10) text 0 (let within : first_end text < length text = omega (arith, first) in within) in
    let end : get_or text n 0 ≡ 10 = ap (λ k. get_or text k 0) first ∙ eqb-true (get_or text (first_end text) 0) 10 passes in
    let cut = cut_at text n inside end ∙ ap (λ t. t ++ 10 ∷ drop (n + 1) text) told ∙ sym (parted x (drop (n + 1) text)) in
    let size : length (take n text) ≡ n = length-take-le n text (omega arith) in
    let long = length-append (item_text x) (10 ∷ []) in
    let same = ap length told in
    ((subst (Tells (take n text)) some tells).0, omega (arith, size, long, same), cut)
