-- What the lines of a listing put into the executable.
use Rattle.std.proofs.Common.{◌≡◌, ℕ, ◌+◌, ◌^◌, ◌<◌, cond, List, [], ◌∷◌, ◌++◌, map, Some, None, codes, refl, ap, ◌∙◌}
use Rattle.std.proofs.lemmas.List.{append-nil}
use Rattle.executable.specs.declared.segment.Segment.TheVariants.{Code, Constants}
use Rattle.lexer.proofs.Again.{AllHigh, EachHigh, closing}
use Rattle.listing.proofs.Room.{Words}
use Rattle.listing.specs.Lines.{blank_joined, number_line, word_line}
use Rattle.assembler.specs.Labels.{name_in}
use Rattle.assembler.specs.Emit.{line_says, put_by, words_from, uses, is_lost, lost_from, start_by, start_from}
use Rattle.assembler.specs.Statements.{Meant, code, constant, stack, end}
use Rattle.assembler.specs.declared.label.Label.{Label}
use Rattle.assembler.specs.declared.mnemonic.Mnemonic.TheVariants.{Uint32, Stack, End}
use Rattle.roundtrip.proofs.Coded.{word_says}
use Rattle.roundtrip.proofs.Runs.{line_says_is}
use Rattle.roundtrip.proofs.Says.{says_constant, says_end, says_stack}
use Rattle.roundtrip.proofs.Shown.{each_append}

-- the line of each word puts that word and nothing else
record Puts (f : ℕ → List (List ℕ)) : Type 0 where
  mean : ℕ → Meant
  high : (w : ℕ) → w < 2 ^ 32 → AllHigh (f w)
  says : (w : ℕ) → w < 2 ^ 32 → line_says (blank_joined (f w)) ≡ Some (mean w)
  puts : (t : List ℕ) (ls : List Label) (w : ℕ) → put_by (name_in t) ls (Some (mean w)) ≡ w ∷ []
  uses : (w : ℕ) → uses (Some (mean w)) ≡ None
  goes : (t : List ℕ) (ls : List Label) (w d : ℕ) → start_by (name_in t) ls (Some (mean w)) d ≡ d

code_puts : Puts (word_line Code)
code_puts = record {
  mean = code;
  high = λ w h. (word_says w h).says.high;
  says = λ w h. line_says_is (word_line Code w) (word_says w h).mnemonic (code w) (word_says w h).says;
  puts = λ t ls w. refl;
  uses = λ w. refl;
  goes = λ t ls w d. refl;
}

constant_puts : Puts (word_line Constants)
constant_puts = record {
  mean = constant;
  high = λ w h. (says_constant w h).high;
  says = λ w h. line_says_is (word_line Constants w) Uint32 (constant w) (says_constant w h);
  puts = λ t ls w. refl;
  uses = λ w. refl;
  goes = λ t ls w d. refl;
}

module _ (f : ℕ → List (List ℕ)) (each : Puts f) where
  high_each : (ws : List ℕ) → Words ws → EachHigh (map f ws)
  high_each [] h = tt
  high_each (w ∷ ws) h = (each.high w h.0, high_each ws h.1)

  module _ (t : List ℕ) (ls : List Label) (rest : List (List (List ℕ))) where
    words_each : (ws : List ℕ) → Words ws → words_from (name_in t) ls (closing (map f ws ++ rest)) ≡ ws ++ words_from (name_in t) ls (closing rest)
    words_each [] h = refl
    words_each (w ∷ ws) h =
        let more = words_from (name_in t) ls (closing (map f ws ++ rest)) in
        ap (λ o. put_by (name_in t) ls o ++ more) (each.says w h.0) ∙ ap (λ x. x ++ more) (each.puts t ls w) ∙ ap (λ l. w ∷ l) (words_each ws h.1)

    lost_each : (ws : List ℕ) (n : ℕ) → Words ws → ((k : ℕ) → lost_from (name_in t) ls k (closing rest) ≡ None) → lost_from (name_in t) ls n (closing (map f ws ++ rest)) ≡ None
    lost_each [] n h e = e n
    lost_each (w ∷ ws) n h e =
        let more = lost_from (name_in t) ls (n + 1) (closing (map f ws ++ rest)) in
        ap (λ o. cond (is_lost (name_in t) ls (uses o)) (Some n) more) (each.says w h.0) ∙ ap (λ o. cond (is_lost (name_in t) ls o) (Some n) more) (each.uses w) ∙ lost_each ws (n + 1) h.1 e

    start_each : (ws : List ℕ) → Words ws → start_from (name_in t) ls (closing (map f ws ++ rest)) ≡ start_from (name_in t) ls (closing rest)
    start_each [] h = refl
    start_each (w ∷ ws) h =
        let more = start_from (name_in t) ls (closing (map f ws ++ rest)) in
        ap (λ o. start_by (name_in t) ls o more) (each.says w h.0) ∙ each.goes t ls w more ∙ start_each ws h.1

module _ (s first : ℕ) (cs ks : List ℕ) (hs : s < 2 ^ 20) (hf : first < 2 ^ 20) (hc : Words cs) (hk : Words ks) where
  last_says : line_says (blank_joined (number_line (codes "end") first)) ≡ Some (end first)
  last_says = line_says_is (number_line (codes "end") first) End (end first) (says_end first hf)

  first_says : line_says (blank_joined (number_line (codes "stack") s)) ≡ Some (stack s)
  first_says = line_says_is (number_line (codes "stack") s) Stack (stack s) (says_stack s hs)

  pub high_all : EachHigh (number_line (codes "stack") s ∷ (map (word_line Code) cs ++ (map (word_line Constants) ks ++ (number_line (codes "end") first ∷ []))))
  high_all = (
    (says_stack s hs).high,
    each_append (map (word_line Code) cs) (map (word_line Constants) ks ++ (number_line (codes "end") first ∷ [])) (high_each (word_line Code) code_puts cs hc)
        (each_append (map (word_line Constants) ks) (number_line (codes "end") first ∷ []) (high_each (word_line Constants) constant_puts ks hk) ((says_end first hf).high, tt)),
  )

  module _ (t : List ℕ) (ls : List Label) where
    -- the words of the lines are the code words and the constants
    pub words_all : words_from (name_in t) ls (closing (number_line (codes "stack") s ∷ (map (word_line Code) cs ++ (map (word_line Constants) ks ++ (number_line (codes "end") first ∷ []))))) ≡ cs ++ ks
    words_all =
        let last = number_line (codes "end") first ∷ [] in
        ap (λ o. put_by (name_in t) ls o ++ words_from (name_in t) ls (closing (map (word_line Code) cs ++ (map (word_line Constants) ks ++ last)))) first_says
        ∙ words_each (word_line Code) code_puts t ls (map (word_line Constants) ks ++ last) cs hc
        ∙ ap (λ l. cs ++ l) (words_each (word_line Constants) constant_puts t ls last ks hk ∙ ap (λ o. ks ++ (put_by (name_in t) ls o ++ [])) last_says ∙ append-nil ks)

    -- no line uses a label
    pub lost_all : (n : ℕ) → lost_from (name_in t) ls n (closing (number_line (codes "stack") s ∷ (map (word_line Code) cs ++ (map (word_line Constants) ks ++ (number_line (codes "end") first ∷ []))))) ≡ None
    lost_all n =
        let last = number_line (codes "end") first ∷ [] in
        ap (λ o. cond (is_lost (name_in t) ls (uses o)) (Some n) (lost_from (name_in t) ls (n + 1) (closing (map (word_line Code) cs ++ (map (word_line Constants) ks ++ last))))) first_says
        ∙ lost_each (word_line Code) code_puts t ls (map (word_line Constants) ks ++ last) cs (n + 1) hc
        (λ k. lost_each (word_line Constants) constant_puts t ls last ks k hk
        (λ m. ap (λ o. cond (is_lost (name_in t) ls (uses o)) (Some m) (lost_from (name_in t) ls (m + 1) ([] ∷ []))) last_says))

    -- the first instruction is that of the last line
    pub start_all : start_from (name_in t) ls (closing (number_line (codes "stack") s ∷ (map (word_line Code) cs ++ (map (word_line Constants) ks ++ (number_line (codes "end") first ∷ []))))) ≡ first
    start_all =
        let last = number_line (codes "end") first ∷ [] in
        ap (λ o. start_by (name_in t) ls o (start_from (name_in t) ls (closing (map (word_line Code) cs ++ (map (word_line Constants) ks ++ last))))) first_says
        ∙ start_each (word_line Code) code_puts t ls (map (word_line Constants) ks ++ last) cs hc
        ∙ start_each (word_line Constants) constant_puts t ls last ks hk
        ∙ ap (λ o. start_by (name_in t) ls o (start_from (name_in t) ls ([] ∷ []))) last_says
