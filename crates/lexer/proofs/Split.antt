-- A line is its first word and the words of what is left; a text is its first line and the lines of what is left.
use Rattle.std.proofs.Common.{◌≡◌, ℕ, suc, ◌+◌, ◌<◌, ◌≤◌, Bool, true, false, not, eqb, List, [], ◌∷◌, ◌++◌, length, take, drop, Some, None, Option, Bor, sym, refl, ap, ap₂, ◌∙◌, subst, ⊎_elim, arith}
use Rattle.std.proofs.lemmas.Bool.{cond_both, cases_Bool, cases_lt}
use Rattle.std.proofs.lemmas.List.{at_drop_all, length-take-le, take-append-drop, take_rest}
use Rattle.lexer.specs.declared.inside.Inside.{Inside}
use Rattle.lexer.specs.declared.inside.Inside.TheVariants.{Gap, Plain, Quoted, Taken}
use Rattle.std.specs.List.{before_first, position_or_len}
use Rattle.std.specs.Slice.{IsGetRangeResult}
use Rattle.lexer.specs.Cursor.{lines_left}
use Rattle.lexer.specs.Parts.{WordFirst}
use Rattle.lexer.specs.Text.{on_first, lines_of, blank, blanks, onward, spelled, word_left, before, numbered, CodeLine, code_of}
use Rattle.lexer.specs.Text.{first_line as first_told_line}

pub by_bool : {P : Type 0} (t : Bool) → (t ≡ true → P) → (t ≡ false → P) → P
by_bool t f g = ⊎_elim f g (cases_Bool t)

-- the first place at which a byte is no blank
pub blanks_position : (bs : List ℕ) → blanks bs ≡ position_or_len (λ b. not (blank b)) bs
blanks_position [] = refl
blanks_position (b ∷ bs) = by_bool (blank b)
    (λ e. let more = blanks_position bs in simp e (omega arith))
    (λ e. simp e)

pub gap_blanks : (bs : List ℕ) → spelled Gap bs ≡ spelled Gap (drop (blanks bs) bs)
gap_blanks [] = refl
gap_blanks (b ∷ bs) = by_bool (blank b) (λ e. simp e (gap_blanks bs)) (λ e. simp e)

-- from a place: the rest of its word, and then the words of what is left
abbrev pub Splits : Inside → List ℕ → Type 0
Splits p bs = spelled p bs ≡ take (word_left p bs) bs ∷ spelled Gap (drop (word_left p bs) bs)

grown : (b : ℕ) (p : Inside) (bs : List ℕ) → Splits p bs → on_first b (spelled p bs) ≡ (b ∷ take (word_left p bs) bs) ∷ spelled Gap (drop (word_left p bs) bs)
grown b p bs h = ap (on_first b) h

pub word_split : (bs : List ℕ) → Splits Plain bs × Splits Quoted bs × Splits Taken bs
word_split [] = (refl, refl, refl)
word_split (b ∷ bs) =
    let ih = word_split bs in (
      by_bool (blank b) (λ e. simp e) (λ e. simp e (grown b Plain bs ih.0)),
      grown b (onward Quoted b) bs (cond_both (eqb b 34) Plain _ (λ q. Splits q bs) (λ _. ih.0) (λ _. cond_both (eqb b 92) Taken Quoted (λ q. Splits q bs) (λ _. ih.2) (λ _. ih.1))),
      grown b Quoted bs ih.1,
    )

pub gap_split : (b : ℕ) (bs : List ℕ) → blank b ≡ false → Splits Gap (b ∷ bs)
gap_split b bs e = simp e (grown b (onward Gap b) bs (cond_both (eqb b 34) Quoted Plain (λ q. Splits q bs) (λ _. (word_split bs).1) (λ _. (word_split bs).0)))

-- what is left past k bytes begins with a word
abbrev pub FirstAt : List ℕ → ℕ → Type 0
FirstAt bs k = spelled Gap bs ≡ take (word_left Gap (drop k bs)) (drop k bs) ∷ spelled Gap (drop (word_left Gap (drop k bs)) (drop k bs))

pub first_word : (bs : List ℕ) → blanks bs < length bs → FirstAt bs (blanks bs)
first_word [] h = absurd (omega arith)
first_word (b ∷ bs) h = by_bool (blank b)
    (λ e. let k : blanks bs < length bs = (let k = simp e at h in omega arith) in simp e (first_word bs k))
    (λ e. let z : blanks (b ∷ bs) ≡ 0 = simp e in subst (FirstAt (b ∷ bs)) (sym z) (gap_split b bs e))

-- lines
pub one_line : (bs : List ℕ) → length bs ≤ length (before 10 bs) → lines_of bs ≡ before 10 bs ∷ []
one_line [] h = refl
one_line (b ∷ bs) h = by_bool (eqb b 10)
    (λ e. let k = simp e at h in absurd (omega arith))
    (λ e. let k : length bs ≤ length (before 10 bs) = (let k = simp e at h in omega arith) in simp e (ap (on_first b) (one_line bs k)))

pub first_line : (bs : List ℕ) → length (before 10 bs) < length bs → lines_of bs ≡ before 10 bs ∷ lines_of (drop (suc (length (before 10 bs))) bs)
first_line [] h = absurd (omega arith)
first_line (b ∷ bs) h = by_bool (eqb b 10)
    (λ e. simp e)
    (λ e. let k : length (before 10 bs) < length bs = (let k = simp e at h in omega arith) in simp e (ap (on_first b) (first_line bs k)))

pub before_is : (c : ℕ) (bs : List ℕ) → before c bs ≡ before_first (λ b. eqb b c) bs
before_is c [] = refl
before_is c (b ∷ bs) =
    let n = position_or_len (λ b. eqb b c) bs in
    let one : 1 + n ≡ suc n = omega arith in
    by_bool (eqb b c) (λ e. simp e) (λ e. simp e (ap (λ l. b ∷ l) (before_is c bs) ∙ sym (ap (λ i. take i (b ∷ bs)) one)))

pub no_word : (bs : List ℕ) → length bs ≤ blanks bs → spelled Gap bs ≡ []
no_word bs h = gap_blanks bs ∙ at_drop_all (spelled Gap) bs (blanks bs) h

-- a word is cut off: k blanks are passed over, and the word has n bytes
pub word_first : (code : List ℕ) (k n : ℕ) (from word rest : List ℕ) → (k ≡ blanks code) × (k < length code) → from ≡ drop k code → n ≡ word_left Gap from → n ≤ length from → word ≡ take n from → rest ≡ drop n from → WordFirst code k word rest
word_first code k n from word rest h from_is n_is short word_is rest_is =
    let one = first_word code (omega (arith, h.0, h.1)) in
    let from' : from ≡ drop (blanks code) code = from_is ∙ ap (λ i. drop i code) h.0 in
    let n' : n ≡ word_left Gap (drop (blanks code) code) = n_is ∙ ap (word_left Gap) from' in
    record {
      skipped = h.0;
      some = h.1;
      whole = sym (ap (λ l. take k code ++ l) (ap₂ ◌++◌ word_is rest_is ∙ take-append-drop n from ∙ from_is) ∙ take-append-drop k code);
      words = rw (word_is, rest_is, n', from') one;
      long = ap length word_is ∙ length-take-le n from short ∙ n_is ∙ ap (word_left Gap) from_is;
    }

-- where no word is left, only blanks are
pub all_blanks : (bs : List ℕ) → spelled Gap bs ≡ [] → length bs ≤ blanks bs
all_blanks bs e = ⊎_elim
    (λ (h : blanks bs < length bs). let one = first_word bs h in absurd (cc))
    (λ (h : length bs ≤ blanks bs). h)
    (cases_lt (blanks bs) (length bs))

-- one line on: what is left begins past the byte after it
pub next_line : (rest line : List ℕ) (r : Option (Bor (List ℕ))) → line ≡ before 10 rest → IsGetRangeResult rest (length line + 1) (length rest) r → lines_of rest ≡ line ∷ lines_left r
next_line rest line None is (none, some) = ⊎_elim
    (λ (h : length rest < length line + 1). rw is (one_line rest (omega (arith, ap length is))))
    (λ (h : length rest < length rest). absurd (omega arith))
    none
next_line rest line (Some left) is (got, some) =
    let one = first_line rest (omega (arith, got.0, ap length is)) in
    let past : left.now ≡ drop (suc (length line)) rest = got.2 ∙ take_rest rest (length line + 1) ∙ ap (λ i. drop i rest) (let e : length line + 1 ≡ suc (length line) = omega arith in e) in
    rw (past, is) one

-- the same with numbers and places
abbrev pub coded : ℕ → ℕ → List ℕ → CodeLine
coded n p code = record { number = n; place = p; code = code }

pub next_numbered : (n p : ℕ) (lines more : List (List ℕ)) (line code : List ℕ) → lines ≡ line ∷ more → code ≡ code_of line → numbered n p lines ≡ coded n p code ∷ numbered (n + 1) (p + (length line + 1)) more
next_numbered n p lines more line code is code_is = ap (numbered n p) is ∙ ap (λ c. coded n p c ∷ numbered (n + 1) (p + length line + 1) more) (sym code_is) ∙ ap (λ q. coded n p code ∷ numbered (n + 1) q more) (let e : p + length line + 1 ≡ p + (length line + 1) = omega arith in e)

pub next_told : (n p : ℕ) (lines more : List (List ℕ)) (line code : List ℕ) → lines ≡ line ∷ more → code ≡ code_of line → ◌≡◌ {A = Option CodeLine} (Some (coded n p code)) (first_told_line n p lines)
next_told n p lines more line code is code_is = ap (λ c. Some (coded n p c)) code_is ∙ sym (ap (first_told_line n p) is)
