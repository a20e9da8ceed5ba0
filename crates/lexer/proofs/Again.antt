-- What was joined is parted again.
use Rattle.std.proofs.Common.{◌≡◌, ℕ, ◌<◌, ◌≤◌, false, eqb, List, [], ◌∷◌, ◌++◌, length, sym, refl, ap, ◌∙◌, arith}
use Rattle.std.specs.List.{flat_map}
use Rattle.std.proofs.lemmas.Bool.{cond-false, ne_eqb, or_from}
use Rattle.lexer.specs.declared.inside.Inside.TheVariants.{Gap, Plain, Quoted}
use Rattle.lexer.specs.Text.{on_first, lines_of, blank, spelled, before, words_of}

-- a line is a list of words; a blank stands before each but the first, and byte 10 ends it
abbrev after_blank : List ℕ → List ℕ
after_blank word = 32 ∷ word

abbrev pub blank_joined : List (List ℕ) → List ℕ
blank_joined [] = []
blank_joined (word ∷ more) = word ++ flat_map after_blank more

abbrev pub line_text : List (List ℕ) → List ℕ
line_text line = blank_joined line ++ 10 ∷ []

-- each byte is above the blank, the quote and the hash, and at most 126
abbrev pub High : List ℕ → Type 0
High [] = Unit {0}
High (b ∷ bs) = (36 ≤ b) × (b ≤ 126) × High bs

-- each word has a byte, and only such bytes
abbrev pub AllHigh : List (List ℕ) → Type 0
AllHigh [] = Unit {0}
AllHigh (w ∷ ws) = (0 < length w) × High w × AllHigh ws

abbrev pub EachHigh : List (List (List ℕ)) → Type 0
EachHigh [] = Unit {0}
EachHigh (ws ∷ wss) = AllHigh ws × EachHigh wss

-- the lines of a text that each line of words ends
abbrev pub closing : List (List (List ℕ)) → List (List ℕ)
closing [] = [] ∷ []
closing (ws ∷ wss) = blank_joined ws ∷ closing wss

no_blank : (b : ℕ) → 36 ≤ b → blank b ≡ false
no_blank b h = or_from (eqb b 32) (eqb b 9) (ne_eqb b 32 (λ e. omega arith)) (ne_eqb b 9 (λ e. omega arith))

in_plain : (b : ℕ) (bs : List ℕ) → 36 ≤ b → spelled Plain (b ∷ bs) ≡ on_first b (spelled Plain bs)
in_plain b bs h = cond-false _ _ _ (no_blank b h)

in_gap : (b : ℕ) (bs : List ℕ) → 36 ≤ b → spelled Gap (b ∷ bs) ≡ on_first b (spelled Plain bs)
in_gap b bs h = cond-false _ _ _ (no_blank b h) ∙ ap (λ p. on_first b (spelled p bs)) (cond-false (eqb b 34) Quoted Plain (ne_eqb b 34 (λ e. omega arith)))

-- a word in front of what begins with no word
plain_word : (w rest : List ℕ) (ws : List (List ℕ)) → High w → spelled Plain rest ≡ [] ∷ ws → spelled Plain (w ++ rest) ≡ w ∷ ws
plain_word [] rest ws h e = e
plain_word (b ∷ w) rest ws h e = in_plain b (w ++ rest) h.0 ∙ ap (on_first b) (plain_word w rest ws h.2 e)

gap_word : (w rest : List ℕ) (ws : List (List ℕ)) → 0 < length w → High w → spelled Plain rest ≡ [] ∷ ws → spelled Gap (w ++ rest) ≡ w ∷ ws
gap_word [] rest ws s h e = absurd (omega arith)
gap_word (b ∷ w) rest ws s h e = in_gap b (w ++ rest) h.0 ∙ ap (on_first b) (plain_word w rest ws h.2 e)

-- further words, each after a blank
more_again : (ws : List (List ℕ)) → AllHigh ws → spelled Plain (flat_map after_blank ws) ≡ [] ∷ ws
more_again [] h = refl
more_again (w ∷ ws) h = ap (λ l. [] ∷ l) (gap_word w (flat_map after_blank ws) ws h.0 h.1 (more_again ws h.2))

words_again : (ws : List (List ℕ)) → AllHigh ws → spelled Gap (blank_joined ws) ≡ ws
words_again [] h = refl
words_again (w ∷ ws) h = gap_word w (flat_map after_blank ws) ws h.0 h.1 (more_again ws h.2)

-- bytes of which none is c
abbrev Without : ℕ → List ℕ → Type 0
Without c [] = Unit {0}
Without c (b ∷ bs) = (b ≡ c → ⊥) × Without c bs

without_append : (c : ℕ) (xs ys : List ℕ) → Without c xs → Without c ys → Without c (xs ++ ys)
without_append c [] ys h k = k
without_append c (x ∷ xs) ys h k = (h.0, without_append c xs ys h.1 k)

high_without : (c : ℕ) (w : List ℕ) → c < 36 → High w → Without c w
high_without c [] l h = tt
high_without c (b ∷ w) l h = ((λ e. omega (arith, h.0)), high_without c w l h.2)

more_without : (c : ℕ) (ws : List (List ℕ)) → c < 36 → (c ≡ 32 → ⊥) → AllHigh ws → Without c (flat_map after_blank ws)
more_without c [] l s h = tt
more_without c (w ∷ ws) l s h = ((λ e. s (sym e)), without_append c w (flat_map after_blank ws) (high_without c w l h.1) (more_without c ws l s h.2))

joined_without : (c : ℕ) (ws : List (List ℕ)) → c < 36 → (c ≡ 32 → ⊥) → AllHigh ws → Without c (blank_joined ws)
joined_without c [] l s h = tt
joined_without c (w ∷ ws) l s h = without_append c w (flat_map after_blank ws) (high_without c w l h.1) (more_without c ws l s h.2)

before_none : (c : ℕ) (bs : List ℕ) → Without c bs → before c bs ≡ bs
before_none c [] h = refl
before_none c (b ∷ bs) h = cond-false _ _ _ (ne_eqb b c h.0) ∙ ap (λ l. b ∷ l) (before_none c bs h.1)

-- the words of a line of joined words are those words
pub words_of_joined : (ws : List (List ℕ)) → AllHigh ws → words_of (blank_joined ws) ≡ ws
words_of_joined ws h = ap (spelled Gap) (before_none 35 (blank_joined ws) (joined_without 35 ws (omega arith) (λ e. omega arith) h)) ∙ words_again ws h

line_first : (l rest : List ℕ) → Without 10 l → lines_of ((l ++ 10 ∷ []) ++ rest) ≡ l ∷ lines_of rest
line_first [] rest h = refl
line_first (b ∷ l) rest h = cond-false _ _ _ (ne_eqb b 10 h.0) ∙ ap (on_first b) (line_first l rest h.1)

-- the lines of a text of joined lines are those lines, and an empty one
pub lines_again : (wss : List (List (List ℕ))) → EachHigh wss → lines_of (flat_map line_text wss) ≡ closing wss
lines_again [] h = refl
lines_again (ws ∷ wss) h = line_first (blank_joined ws) (flat_map line_text wss) (joined_without 10 ws (omega arith) (λ e. omega arith) h.0) ∙ ap (λ l. blank_joined ws ∷ l) (lines_again wss h.1)
