-- The pieces of a line, joined in another order.
use Rattle.std.proofs.Common.{◌≡◌, ℕ, ◌+◌, ◌<◌, ◌≤◌, List, [], ◌∷◌, ◌++◌, length, get_or, take, codes, decimal, sym, ap, ◌∙◌, append_assoc}
use Rattle.std.specs.List.{flat_map}
use Rattle.std.proofs.lemmas.List.{take_more, take_all, flat_map_more}
use Rattle.assembler.specs.Questions.{number_of}
use Rattle.assembler.specs.declared.label.Label.{Label}
use Rattle.assembler.specs.declared.question.Refusal.{Refusal}
use Rattle.report.specs.Lines.{line, label_line, refusal_line}
use Rattle.report.specs.Meanings.{meaning_of}

six_pieces : (a b c d e f : List ℕ) → a ++ (b ++ (c ++ (d ++ (e ++ (f ++ 10 ∷ []))))) ≡ line (a ++ (b ++ (c ++ (d ++ (e ++ f)))))
six_pieces a b c d e f = simp (append_assoc)

pub four_lines : (a k b l c m d n : List ℕ)
    → a ++ (k ++ (10 ∷ (b ++ (l ++ (10 ∷ (c ++ (m ++ (10 ∷ (d ++ (n ++ 10 ∷ [])))))))))) ≡ line (a ++ k) ++ (line (b ++ l) ++ (line (c ++ m) ++ line (d ++ n)))
four_lines a k b l c m d n = simp (append_assoc)

-- what is written of a refusal
pub refusal_text : (r : Refusal) (n : ℕ) (m : List ℕ) → n ≡ number_of r.question → m ≡ meaning_of r.question
    → codes "refused " ++ (decimal n ++ (codes " line " ++ (decimal r.origin.line ++ (codes ": " ++ (m ++ 10 ∷ []))))) ≡ refusal_line r
refusal_text r n m e f =
    ap (λ x. codes "refused " ++ (decimal x ++ (codes " line " ++ (decimal r.origin.line ++ (codes ": " ++ (m ++ 10 ∷ [])))))) e
    ∙ ap (λ x. codes "refused " ++ (decimal (number_of r.question) ++ (codes " line " ++ (decimal r.origin.line ++ (codes ": " ++ (x ++ 10 ∷ [])))))) f
    ∙ six_pieces (codes "refused ") (decimal (number_of r.question)) (codes " line ") (decimal r.origin.line) (codes ": ") (meaning_of r.question)

-- one more label's line
pub label_more : (text numbers page after : List ℕ) (ls : List Label) (i : ℕ) (d : Label) → i < length ls → page ≡ numbers ++ flat_map (label_line text) (take i ls)
    → after ≡ page ++ label_line text (get_or ls i d) → after ≡ numbers ++ flat_map (label_line text) (take (i + 1) ls)
label_more text numbers page after ls i d h inv e =
    e ∙ ap (λ x. x ++ label_line text (get_or ls i d)) inv ∙ flat_map_more (label_line text) numbers (take i ls) (get_or ls i d)
    ∙ ap (λ l. numbers ++ flat_map (label_line text) l) (sym (take_more ls i d h))

-- all labels' lines
pub labels_all : (text numbers page : List ℕ) (ls : List Label) (i : ℕ) → length ls ≤ i → page ≡ numbers ++ flat_map (label_line text) (take i ls) → page ≡ numbers ++ flat_map (label_line text) ls
labels_all text numbers page ls i h inv = inv ∙ ap (λ l. numbers ++ flat_map (label_line text) l) (take_all i ls h)
