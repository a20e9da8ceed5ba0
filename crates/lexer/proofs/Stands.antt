-- Where the parts of a text stand in it.
use Rattle.std.proofs.Common.{◌≡◌, ℕ, suc, ◌+◌, ◌-◌, ◌<◌, ◌≤◌, ◌||◌, eqb, ltb, cond, All, List, [], ◌∷◌, ◌++◌, length, get_or, take, drop, is_some, sym, refl, ap, ◌∙◌, subst, append_assoc, append-nil, length-append, arith}
use Rattle.std.proofs.lemmas.Bool.{cond-true, cond-false, cond_both, lt-ltb, le-ltb}
use Rattle.std.proofs.lemmas.List.{take-append-drop, drop_at, take_at, drop-drop, length-take-le, take_all}
use Rattle.std.proofs.lemmas.List.Elements.{All-cons}
use Rattle.lexer.specs.declared.inside.Inside.TheVariants.{Gap, Plain, Quoted, Taken}
use Rattle.lexer.specs.Divided.{rejoined}
use Rattle.lexer.specs.Parts.{StandsAt, WordFirst}
use Rattle.lexer.specs.Shown.{Shown, bytes_of, kind_of, digit, register_number, told_words}
use Rattle.lexer.specs.Shown.Shown.{name, register, number, string}
use Rattle.lexer.specs.Text.{on_first, lines_of, numbered, code_of, CodeLine, code_line, blank, blanks, onward, spelled, word_left}
use Rattle.lexer.proofs.Split.{by_bool, all_blanks, before_is}
use Rattle.lexer.proofs.Divides.{lined}

-- a part of what stands in a text stands in it
pub part_stands : (text : List ℕ) (p : ℕ) (a b c : List ℕ) → StandsAt text p (a ++ (b ++ c)) → StandsAt text (p + length a) b
part_stands text p a b c s =
    let t = drop p text in
    let n = length (a ++ (b ++ c)) in
    let long = length-append a (b ++ c) in
    let long' = length-append b c in
    let whole : t ≡ a ++ (b ++ (c ++ drop n t)) = sym (take-append-drop n t) ∙ ap (λ l. l ++ drop n t) s.same ∙ append_assoc a (b ++ c) (drop n t) ∙ ap (λ l. a ++ l) (append_assoc b c (drop n t)) in
    let past : drop (p + length a) text ≡ b ++ (c ++ drop n t) = sym (drop-drop (length a) p text) ∙ ap (drop (length a)) whole ∙ drop_at a (b ++ (c ++ drop n t)) (length a) refl in
    record { within = omega (arith, s.within); same = ap (take (length b)) past ∙ take_at b (c ++ drop n t) (length b) refl }

pub first_stands : (text : List ℕ) (p : ℕ) (a b : List ℕ) → StandsAt text p (a ++ b) → StandsAt text p a
first_stands text p a b s = subst (λ q. StandsAt text q a) (let e : p + 0 ≡ p = omega arith in e) (part_stands text p [] a b s)

pub last_stands : (text : List ℕ) (p : ℕ) (a b : List ℕ) → StandsAt text p (a ++ b) → StandsAt text (p + length a) b
last_stands text p a b s = part_stands text p a b [] (subst (λ l. StandsAt text p (a ++ l)) (sym (append-nil b)) s)

pub front_stands : (text : List ℕ) (p k : ℕ) (w : List ℕ) → StandsAt text p w → StandsAt text p (take k w)
front_stands text p k w s = first_stands text p (take k w) (drop k w) (subst (StandsAt text p) (sym (take-append-drop k w)) s)

-- the place past the first word of some code that begins at p
abbrev past : ℕ → List ℕ → ℕ
past p code = cond (ltb (blanks code) (length code)) (p + blanks code + word_left Gap (drop (blanks code) code)) p

-- the first word of some code, and what follows it
pub word_stands : (text : List ℕ) (p k : ℕ) (code word rest : List ℕ) → WordFirst code k word rest → StandsAt text p code → StandsAt text (p + k) word × StandsAt text (p + k + length word) rest
word_stands text p k code word rest f s =
    let long : length (take k code) ≡ k = length-take-le k code (omega (arith, f.some)) in
    let here : StandsAt text (p + k) (word ++ rest) = subst (λ i. StandsAt text (p + i) (word ++ rest)) long (last_stands text p (take k code) (word ++ rest) (subst (StandsAt text p) f.whole s)) in
    (first_stands text (p + k) word rest here, last_stands text (p + k) word rest here)

-- so the next word begins past the first
pub past_first : (p k : ℕ) (code word rest : List ℕ) → WordFirst code k word rest → p + k + length word ≡ past p code
past_first p k code word rest f =
    let some : blanks code < length code = omega (arith, f.some, f.skipped) in
    sym (cond-true _ _ _ (lt-ltb _ _ some) ∙ ap (λ i. p + i + word_left Gap (drop i code)) (sym f.skipped) ∙ ap (λ n. p + k + n) (sym f.long))

-- what follows the first word is what is left past it
past_rest : (k : ℕ) (code word rest : List ℕ) → WordFirst code k word rest → drop (k + length word) code ≡ rest
past_rest k code word rest f =
    let long : length (take k code) ≡ k = length-take-le k code (omega (arith, f.some)) in
    let front : drop k code ≡ word ++ rest = ap (drop k) f.whole ∙ drop_at (take k code) (word ++ rest) k long in
    sym (drop-drop (length word) k code) ∙ ap (drop (length word)) front ∙ drop_at word rest (length word) refl

-- the same from the place of the code and the place past the word
pub rest_first : (p k : ℕ) (code word rest : List ℕ) → WordFirst code k word rest → rest ≡ drop (p + k + length word - p) code
rest_first p k code word rest f = sym (past_rest k code word rest f) ∙ ap (λ i. drop i code) (let e : k + length word ≡ p + k + length word - p = omega arith in e)

-- where the place stays, so does what is left
pub rest_none : (p : ℕ) (code : List ℕ) → code ≡ drop (p - p) code
rest_none p code = ap (λ i. drop i code) (let e : 0 ≡ p - p = omega arith in e)

-- and the words that are told are the first and those that are told of what follows it
pub told_first : (n p k : ℕ) (code word rest : List ℕ) → WordFirst code k word rest → told_words n p code (spelled Gap code) ≡ (n, p + k, kind_of word) ∷ told_words n (p + k + length word) rest (spelled Gap rest)
told_first n p k code word rest f =
    let left : drop (k + length word) code ≡ rest = past_rest k code word rest f in
    ap (told_words n p code) f.words
    ∙ ap (λ i. (n, p + i, kind_of word) ∷ told_words n (p + i + length word) (drop (i + length word) code) (spelled Gap rest)) (sym f.skipped)
    ∙ ap (λ l. (n, p + k, kind_of word) ∷ told_words n (p + k + length word) l (spelled Gap rest)) left

pub past_none : (p : ℕ) (code : List ℕ) → spelled Gap code ≡ [] → past p code ≡ p
past_none p code e = cond-false _ _ _ (le-ltb _ _ (all_blanks code e))

-- a word of any kind shows all its bytes
pub kind_bytes : (w : List ℕ) → bytes_of (kind_of w) ≡ w
kind_bytes w =
    let P : Shown → Type 0 = λ v. bytes_of v ≡ w in
    cond_both (eqb (get_or w 0 0) 34) (string w) _ P (λ _. refl)
    (λ _. cond_both (digit (get_or w 0 0) || eqb (get_or w 0 0) 45) (number w) _ P (λ _. refl)
    (λ _. cond_both (is_some (register_number w)) (register w) (name w) P (λ _. refl) (λ _. refl)))

-- no line has more words than bytes
on_first_few : (b n : ℕ) (ws : List (List ℕ)) → length ws ≤ suc n → length (on_first b ws) ≤ suc n
on_first_few b n [] h = omega arith
on_first_few b n (w ∷ ws) h = h

few_each : (bs : List ℕ) → (length (spelled Gap bs) ≤ length bs) × (length (spelled Plain bs) ≤ suc (length bs)) × (length (spelled Quoted bs) ≤ suc (length bs)) × (length (spelled Taken bs) ≤ suc (length bs))
few_each [] = (omega arith, omega arith, omega arith, omega arith)
few_each (b ∷ bs) =
    let (gap, plain, quoted, taken) = few_each bs in (
      by_bool (blank b)
          (λ e. simp e (omega arith))
          (λ e. simp e (on_first_few b (length bs) (spelled (onward Gap b) bs) (cond_both (eqb b 34) Quoted Plain (λ p. length (spelled p bs) ≤ suc (length bs)) (λ _. quoted) (λ _. plain)))),
      by_bool (blank b)
          (λ e. simp e (omega arith))
          (λ e. simp e (let h = on_first_few b (length bs) (spelled Plain bs) plain in omega arith)),
      (let h = on_first_few b (length bs) (spelled (onward Quoted b) bs) (cond_both (eqb b 34) Plain _ (λ p. length (spelled p bs) ≤ suc (length bs)) (λ _. plain) (λ _. cond_both (eqb b 92) Taken Quoted (λ p. length (spelled p bs) ≤ suc (length bs)) (λ _. taken) (λ _. quoted))) in omega arith),
      (let h = on_first_few b (length bs) (spelled Quoted bs) quoted in omega arith),
    )

pub few_words : (bs : List ℕ) → length (spelled Gap bs) ≤ length bs
few_words bs = (few_each bs).0

code_stands : (text : List ℕ) (p : ℕ) (l : List ℕ) → StandsAt text p l → StandsAt text p (code_of l)
code_stands text p l s = rw before_is (front_stands text p _ l s)

-- what stands before the comment of each line of a text stands at the line's place
-- a line stands in a text
abbrev pub Stand : List ℕ → CodeLine → Type 0
Stand text l = StandsAt text l.place l.code

lines_from : (text : List ℕ) (n p : ℕ) (ls : List (List ℕ)) → StandsAt text p (rejoined ls) → All (Stand text) (numbered n p ls)
lines_from text n p [] s = λ k d h. absurd (omega arith)
lines_from text n p (l ∷ []) s =
    let none : All (Stand text) [] = λ k d h. absurd (omega arith) in
    All-cons (Stand text) (code_line n p l) [] (code_stands text p l s) none
lines_from text n p (l ∷ m ∷ ls) s =
    let more = rejoined (m ∷ ls) in
    let e : p + length (l ++ 10 ∷ []) ≡ p + length l + 1 = omega (arith, length-append l (10 ∷ [])) in
    let after : StandsAt text (p + length l + 1) more = subst (λ q. StandsAt text q more) e (last_stands text p (l ++ 10 ∷ []) more (subst (StandsAt text p) (sym (append_assoc l (10 ∷ []) more)) s)) in
    All-cons (Stand text) (code_line n p l) (numbered (n + 1) (p + length l + 1) (m ∷ ls)) (code_stands text p l (first_stands text p l (10 ∷ more) s)) (lines_from text (n + 1) (p + length l + 1) (m ∷ ls) after)

pub lines_stand : (text : List ℕ) → All (λ l. StandsAt text l.place l.code) (numbered 1 0 (lines_of text))
lines_stand text = lines_from text 1 0 (lines_of text) (subst (StandsAt text 0) (sym (lined text).whole) (record { within = omega arith; same = take_all (length text) text (omega arith) }))
