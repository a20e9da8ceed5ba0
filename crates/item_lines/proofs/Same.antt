-- Items whose lines are the same are the same.
use Rattle.std.proofs.Common.{◌≡◌, ◌≢◌, refl, ℕ, List, [], ◌∷◌, ◌++◌, length, take, ap, sym, ◌∙◌, append_assoc, arith}
use Rattle.std.specs.List.{All}
use Rattle.std.proofs.Math.Seq.{take-append_seam}
use Rattle.std.proofs.lemmas.List.{append_cancel_left}
use Rattle.std.proofs.lemmas.List.Elements.{All-head, All-tail}
use Rattle.host.specs.Ranges.{InRange}
use Rattle.host.specs.declared.item.Item.{Item}
use Rattle.item_lines.specs.Lines.{item_text, item_line, item_lines}
use Rattle.item_lines.specs.Reading.{item_in}
use Rattle.item_lines.specs.Texts.{NoneFirst}
use Rattle.item_lines.proofs.First.{line_first, no_end}
use Rattle.item_lines.proofs.Found.{found}

-- items of one text are one item
same_item : (x y : Item) → InRange x → InRange y → item_text x ≡ item_text y → x ≡ y
same_item x y h k e = let f = found x h in let g = found y k in let t : item_in (item_text x) ≡ item_in (item_text y) = ap item_in e in cc

-- the text of an item is what stands before the first line end
text_first : (text : List ℕ) (x : Item) (more : List ℕ) → text ≡ item_line x ++ more → take (length (item_text x)) text ≡ item_text x
text_first text x more e =
    let parted : item_line x ++ more ≡ item_text x ++ 10 ∷ more = simp (append_assoc) in
    ap (take (length (item_text x))) (e ∙ parted) ∙ take-append_seam (item_text x) (10 ∷ more)

-- a text begins with one item's line
same_first : (text : List ℕ) (x y : Item) (more rest : List ℕ) → InRange x → InRange y → text ≡ item_line x ++ more → text ≡ item_line y ++ rest → (x ≡ y) × (more ≡ rest)
same_first text x y more rest h k e f =
    let long = sym (line_first text x more h e) ∙ line_first text y rest k f in
    let same = same_item x y h k (sym (text_first text x more e) ∙ ap (λ n. take n text) long ∙ text_first text y rest f) in
    (same, append_cancel_left (item_line x) more rest (sym e ∙ f ∙ ap (λ z. item_line z ++ rest) (sym same)))

-- where the lines of items are those of other items and a rest that begins with no item's line, there is no rest and the items are the same
pub same_items : (xs ys : List Item) (rest : List ℕ) → All InRange xs → All InRange ys → NoneFirst rest → item_lines xs ++ rest ≡ item_lines ys → (xs ≡ ys) × (rest ≡ [])
same_items [] [] rest h k none e = (refl, e)
same_items [] (y ∷ ys) rest h k none e = absurd (none y (item_lines ys) (All-head InRange y ys k) e)
same_items (x ∷ xs) [] rest h k none e = absurd (no_end [] refl x (item_lines xs ++ rest) (All-head InRange x xs h) (sym e ∙ append_assoc (item_line x) (item_lines xs) rest))
same_items (x ∷ xs) (y ∷ ys) rest h k none e =
    let first = same_first (item_lines (y ∷ ys)) x y (item_lines xs ++ rest) (item_lines ys) (All-head InRange x xs h) (All-head InRange y ys k) (sym e ∙ append_assoc (item_line x) (item_lines xs) rest) refl in
    let later = same_items xs ys rest (All-tail InRange x xs h) (All-tail InRange y ys k) none first.1 in
    (cc, later.1)

-- behind the lines of items nothing is left of the lines of others, so they are the same items
pub only_items : (text : List ℕ) (xs ys : List Item) (rest : List ℕ) → All InRange xs → All InRange ys → text ≡ item_lines xs ++ rest → length rest ≡ 0 → text ≡ item_lines ys → xs ≡ ys
only_items text xs ys [] h k e none f = (same_items xs ys [] h k (no_end [] refl) (sym e ∙ f)).0
only_items text xs ys (b ∷ rest) h k e none f = absurd (omega (arith, none))

-- and what begins with no item's line is not left
pub no_rest : (text : List ℕ) (xs ys : List Item) (rest : List ℕ) → All InRange xs → All InRange ys → text ≡ item_lines xs ++ rest → NoneFirst rest → text ≡ item_lines ys → rest ≢ [] → ⊥
no_rest text xs ys rest h k e none f some = some (same_items xs ys rest h k none (sym e ∙ f)).1
