-- The lines of a text divide it, and the words of a line divide the line.
use Rattle.std.proofs.Common.{◌≡◌, ℕ, true, false, eqb, List, [], ◌∷◌, ◌++◌, sym, refl, ap, ◌∙◌, subst}
use Rattle.std.proofs.lemmas.Bool.{cond-true, cond-false, eqb-true, true≢false}
use Rattle.std.proofs.lemmas.List.{append_assoc}
use Rattle.lexer.specs.declared.inside.Inside.{Inside}
use Rattle.lexer.specs.declared.inside.Inside.TheVariants.{Gap, Plain, Quoted, Taken}
use Rattle.lexer.specs.Divided.{rejoined, Lined, NoBlank, Apart, Inner, Whole, Divided}
use Rattle.lexer.specs.Divided.Whole.{plain, quoted, unclosed, cut}
use Rattle.lexer.specs.Text.{on_first, lines_of, blank, onward, spelled}
use Rattle.lexer.proofs.Split.{by_bool}

-- a byte in front of the first line is one in front of the text
rejoined_more : (b : ℕ) (l : List ℕ) (ls : List (List ℕ)) → rejoined ((b ∷ l) ∷ ls) ≡ b ∷ rejoined (l ∷ ls)
rejoined_more b l [] = refl
rejoined_more b l (m ∷ ls) = refl

-- a text has a first line
lines_some : (t : List ℕ) → (l : List ℕ) × (ls : List (List ℕ)) × (lines_of t ≡ l ∷ ls) × Lined t (l ∷ ls)
lines_some [] = ([], [], refl, record { whole = refl; apart = (tt, tt) })
lines_some (b ∷ bs) =
    let (l, ls, is, d) = lines_some bs in
    by_bool (eqb b 10)
    (λ e. ([], l ∷ ls, cond-true _ _ _ e ∙ ap (λ m. [] ∷ m) is, record { whole = ap (λ m. 10 ∷ m) d.whole ∙ ap (λ c. c ∷ bs) (sym (eqb-true b 10 e)); apart = (tt, d.apart) }))
    (λ e. (b ∷ l, ls, cond-false _ _ _ e ∙ ap (on_first b) is, record { whole = rejoined_more b l ls ∙ ap (λ m. b ∷ m) d.whole; apart = ((e, d.apart.0), d.apart.1) }))

-- the lines of a text divide it
pub lined : (t : List ℕ) → Lined t (lines_of t)
lined t = let (l, ls, is, d) = lines_some t in subst (Lined t) (sym is) d

-- a blank in front changes no words
blank_front : (b : ℕ) (bs : List ℕ) (ws : List (List ℕ)) → blank b ≡ true → Divided bs ws → Divided (b ∷ bs) ws
blank_front b bs [] e d = (e, d)
blank_front b bs (w ∷ ws) e d = (b ∷ d.0, d.1, ap (λ l. b ∷ l) d.2, (e, d.3), d.4, d.5)

inner_more : (b : ℕ) (bs : List ℕ) → eqb b 34 ≡ false → eqb b 92 ≡ false → Inner bs → Inner (b ∷ bs)
inner_more b [] q s h = (q, s)
inner_more b (c ∷ bs) q s h = simp s (q, h)

inner_taken : (b c : ℕ) (bs : List ℕ) → eqb b 92 ≡ true → Inner bs → Inner (b ∷ c ∷ bs)
inner_taken b c bs s h = simp s h

-- more bytes between a quote and what followed it
deeper : (front w rest : List ℕ) → ((bs : List ℕ) → Inner bs → Inner (front ++ bs)) → Whole (34 ∷ w) rest → Whole (34 ∷ (front ++ w)) rest
deeper front w rest f (plain b bs is q n a) = absurd (true≢false (let e : 34 ≡ b = cc in ap (λ c. eqb c 34) e ∙ q))
deeper front w rest f (quoted inner tail is i n a) =
    let e : w ≡ inner ++ 34 ∷ tail = cc in
    quoted (front ++ inner) tail (ap (λ l. 34 ∷ (front ++ l)) e ∙ ap (λ l. 34 ∷ l) (sym (append_assoc front inner (34 ∷ tail)))) (f inner i) n a
deeper front w rest f (unclosed inner is i r) =
    let e : w ≡ inner = cc in
    unclosed (front ++ inner) (ap (λ l. 34 ∷ (front ++ l)) e) (f inner i) r
deeper front w rest f (cut inner is i r) =
    let e : w ≡ inner ++ 92 ∷ [] = cc in
    cut (front ++ inner) (ap (λ l. 34 ∷ (front ++ l)) e ∙ ap (λ l. 34 ∷ l) (sym (append_assoc front inner (92 ∷ [])))) (f inner i) r

-- what is left of a word that is in no quoted part
abbrev Bare : List ℕ → List ℕ → Type 0
Bare w rest = NoBlank w × Apart rest

-- what is left of a word after a quote
abbrev Open : List ℕ → List ℕ → Type 0
Open w rest = Whole (34 ∷ w) rest

-- what is left of a word after a backslash in a quoted part
abbrev Escaped : List ℕ → List ℕ → Type 0
Escaped [] rest = rest ≡ []
Escaped (b ∷ w) rest = Open w rest

after_backslash : (b : ℕ) (w rest : List ℕ) → eqb b 92 ≡ true → Escaped w rest → Whole (34 ∷ b ∷ w) rest
after_backslash b [] rest e h = cut [] (ap (λ c. 34 ∷ c ∷ []) (eqb-true b 92 e)) tt h
after_backslash b (c ∷ w) rest e h = deeper (b ∷ c ∷ []) w rest (λ bs. inner_taken b c bs e) h

-- from a state: what is left of a word, and words that divide the rest
record Led (E : List ℕ → List ℕ → Type 0) (p : Inside) (bs : List ℕ) : Type 0 where
  word : List ℕ
  rest : List ℕ
  more : List (List ℕ)
  spells : spelled p bs ≡ word ∷ more
  parts : bs ≡ word ++ rest
  ends : E word rest
  divided : Divided rest more

-- at the end of the line
led_last : (E : List ℕ → List ℕ → Type 0) (p : Inside) → spelled p [] ≡ [] ∷ [] → E [] [] → Led E p []
led_last E p is e = record { word = []; rest = []; more = []; spells = is; parts = refl; ends = e; divided = tt }

-- one byte more in front
led_more : (E F : List ℕ → List ℕ → Type 0) (b : ℕ) (p q : Inside) (bs : List ℕ) → spelled q (b ∷ bs) ≡ on_first b (spelled p bs) → ((w rest : List ℕ) → E w rest → F (b ∷ w) rest) → Led E p bs → Led F q (b ∷ bs)
led_more E F b p q bs is f l = record { word = b ∷ l.word; rest = l.rest; more = l.more; spells = is ∙ ap (on_first b) l.spells; parts = ap (λ m. b ∷ m) l.parts; ends = f l.word l.rest l.ends; divided = l.divided }

led_divided : (bs : List ℕ) → Led Whole Gap bs → Divided bs (spelled Gap bs)
led_divided bs l = subst (Divided bs) (sym l.spells) ([], l.rest, l.parts, tt, l.ends, l.divided)

in_gap : (b : ℕ) (bs : List ℕ) → Divided bs (spelled Gap bs) → Led Bare Plain bs → Led Open Quoted bs → Divided (b ∷ bs) (spelled Gap (b ∷ bs))
in_gap b bs gap bare open' = by_bool (blank b)
    (λ e. simp e (blank_front b bs (spelled Gap bs) e gap))
    (λ e. let to : spelled Gap (b ∷ bs) ≡ on_first b (spelled (onward Gap b) bs) = cond-false _ _ _ e in
    by_bool (eqb b 34)
    (λ q. led_divided (b ∷ bs) (led_more Open Whole b Quoted Gap bs (to ∙ ap (λ p. on_first b (spelled p bs)) (cond-true (eqb b 34) Quoted Plain q)) (λ w rest h. subst (λ c. Whole (c ∷ w) rest) (sym (eqb-true b 34 q)) h) open'))
    (λ q. led_divided (b ∷ bs) (led_more Bare Whole b Plain Gap bs (to ∙ ap (λ p. on_first b (spelled p bs)) (cond-false (eqb b 34) Quoted Plain q)) (λ w rest h. plain b w refl q (e, h.0) h.1) bare)))

in_plain : (b : ℕ) (bs : List ℕ) → Divided bs (spelled Gap bs) → Led Bare Plain bs → Led Bare Plain (b ∷ bs)
in_plain b bs gap bare = by_bool (blank b)
    (λ e. record { word = []; rest = b ∷ bs; more = spelled Gap bs; spells = cond-true _ _ _ e; parts = refl; ends = (tt, e); divided = blank_front b bs (spelled Gap bs) e gap })
    (λ e. led_more Bare Bare b Plain Plain bs (cond-false _ _ _ e) (λ w rest h. ((e, h.0), h.1)) bare)

in_quoted : (b : ℕ) (bs : List ℕ) → Led Bare Plain bs → Led Open Quoted bs → Led Escaped Taken bs → Led Open Quoted (b ∷ bs)
in_quoted b bs bare open' escaped = by_bool (eqb b 34)
    (λ q. led_more Bare Open b Plain Quoted bs (ap (λ p. on_first b (spelled p bs)) (cond-true (eqb b 34) Plain _ q)) (λ w rest h. quoted [] w (ap (λ c. 34 ∷ c ∷ w) (eqb-true b 34 q)) tt h.0 h.1) bare)
    (λ q. by_bool (eqb b 92)
    (λ s. led_more Escaped Open b Taken Quoted bs (ap (λ p. on_first b (spelled p bs)) (cond-false (eqb b 34) Plain _ q ∙ cond-true (eqb b 92) Taken Quoted s)) (λ w rest h. after_backslash b w rest s h) escaped)
    (λ s. led_more Open Open b Quoted Quoted bs (ap (λ p. on_first b (spelled p bs)) (cond-false (eqb b 34) Plain _ q ∙ cond-false (eqb b 92) Taken Quoted s)) (λ w rest h. deeper (b ∷ []) w rest (λ cs. inner_more b cs q s) h) open'))

from_each : (bs : List ℕ) → Divided bs (spelled Gap bs) × Led Bare Plain bs × Led Open Quoted bs × Led Escaped Taken bs
from_each [] = (tt, led_last Bare Plain refl (tt, tt), led_last Open Quoted refl (unclosed [] refl tt refl), led_last Escaped Taken refl refl)
from_each (b ∷ bs) =
    let (gap, bare, open', escaped) = from_each bs in (
      in_gap b bs gap bare open',
      in_plain b bs gap bare,
      in_quoted b bs bare open' escaped,
      led_more Open Escaped b Quoted Taken bs refl (λ w rest h. h) open',
    )

-- the words of a line divide it
pub divides : (line : List ℕ) → Divided line (spelled Gap line)
divides line = (from_each line).0
