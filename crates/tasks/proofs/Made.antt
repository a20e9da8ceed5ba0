-- What building a text gives where there is room for every text.
use Rattle.std.proofs.Common.{◌≡◌, ℕ, List, length, take, drop, Ok, Err, Result, IfOk, IfErr, refl, sym, ap, ◌∙◌, subst, arith}
use Rattle.std.proofs.lemmas.List.{take_at}
use Rattle.executable.specs.Check.{checked}
use Rattle.assembler.specs.Assembled.{Assembled, good, bad, assembled, answer_of, labels_of, output_of}
use Rattle.assembler.specs.declared.label.Label.{Label}
use Rattle.assembler.specs.declared.question.Refusal.{Refusal}
use Rattle.builder.specs.Built.{text_labels, text_parts, summary_of, labels_left}
use Rattle.builder.specs.Standing.{ExactlyFirstOfAll}
use Rattle.builder.specs.declared.summary.Summary.{Summary}
use Rattle.builder.proofs.Called.{labels_left_are, summed}
use Rattle.builder.proofs.Sound.{Sound, sound}
use Rattle.tasks.specs.Assembling.{made_of, made, numbers_in, Makes}
use Rattle.tasks.specs.declared.assembling.TheConstants.{LABEL_ENTRIES, LONGEST_EXECUTABLE}

-- the numbers that the lines say of an executable of some length
lines_say : (t : List ℕ) (n : ℕ) → Ok (numbers_in t n) ≡ summary_of t (Ok n)
lines_say t n = summed t (Ok n) n (text_parts t) (numbers_in t n) refl refl refl

-- an executable that was written stands at the begin of the output, the check accepts it, and its numbers are those of the lines
stands : (t o o' : List ℕ) (s : Summary) (x : Assembled) → Sound t x → Ok s ≡ summary_of t (answer_of x) → o' ≡ output_of x o
    → (made_of x ≡ Ok (record { bytes = take s.length o'; labels = labels_of x })) × (checked (take s.length o') ≡ Ok (text_parts t)) × (s ≡ numbers_in t (length (take s.length o'))) × (labels_of x ≡ text_labels t)
stands t o o' s (good bytes ls) sound told written =
    let said : Ok s ≡ Ok (numbers_in t (length bytes)) = told ∙ sym (lines_say t (length bytes)) in
    let same : s ≡ numbers_in t (length bytes) = cc in
    let size : s.length ≡ length bytes = ap (λ k. k.length) same in
    let front : take s.length o' ≡ bytes = ap (take s.length) written ∙ take_at bytes (drop (length bytes) o) s.length (sym size) in (
      ap (λ b. Ok (record { bytes = b; labels = ls })) (sym front),
      ap checked front ∙ sound.1,
      same ∙ ap (λ b. numbers_in t (length b)) (sym front),
      sound.0,
    )
stands t o o' s (bad q k ls) sound told written = let z : ◌≡◌ {A = ℕ} 0 1 = cc in absurd (omega arith)

refused : (t : List ℕ) (r : Refusal) (x : Assembled) → Err r ≡ summary_of t (answer_of x) → made_of x ≡ Err r
refused t r (good bytes ls) told = let z : ◌≡◌ {A = ℕ} 0 1 = cc in absurd (omega arith)
refused t r (bad q n ls) told =
    let is : Refusal = record { question = q; origin = record { line = n } } in
    let same : is ≡ r = cc in ap Err same

module _ (t : List ℕ) (cap room : ℕ) (entries : cap ≡ LABEL_ENTRIES) (longest : room ≡ LONGEST_EXECUTABLE) where
  abbrev lent : Assembled
  lent = assembled t LABEL_ENTRIES LONGEST_EXECUTABLE

  whole : assembled t cap room ≡ lent
  whole = ap (λ n. assembled t n room) entries ∙ ap (assembled t LABEL_ENTRIES) longest

  pub makes : (r : Result Summary Refusal) (o o' : List ℕ) (ls : List Label) → r ≡ summary_of t (answer_of (assembled t cap room)) → ls ≡ labels_left t (answer_of (assembled t cap room)) → o' ≡ output_of (assembled t cap room) o
      → IfOk r (λ s. Makes t (take s.length o') s ls)
  makes (Ok s) o o' ls told entered written =
      let is = stands t o o' s lent (sound t LABEL_ENTRIES LONGEST_EXECUTABLE) (told ∙ ap (λ x. summary_of t (answer_of x)) whole) (written ∙ ap (λ x. output_of x o) whole) in
      let labels : labels_of lent ≡ ls = sym (entered ∙ sym (labels_left_are t cap room) ∙ ap labels_of whole) in
      record {
        made = is.0 ∙ ap (λ l. Ok (record { bytes = take s.length o'; labels = l })) labels;
        accepted = is.1;
        numbers = is.2;
        labels = sym labels ∙ is.3;
      }
  makes (Err q) o o' ls told entered written = tt

  pub refuses : (r : Result Summary Refusal) → r ≡ summary_of t (answer_of (assembled t cap room)) → IfErr r (λ q. made t ≡ Err q)
  refuses (Ok s) told = tt
  refuses (Err q) told = refused t q lent (told ∙ ap (λ x. summary_of t (answer_of x)) whole)

  pub first_of_all : (r : Result Summary Refusal) → ExactlyFirstOfAll t cap room r → ExactlyFirstOfAll t LABEL_ENTRIES LONGEST_EXECUTABLE r
  first_of_all r h = subst (λ n. ExactlyFirstOfAll t n LONGEST_EXECUTABLE r) entries (subst (λ n. ExactlyFirstOfAll t cap n r) longest h)
