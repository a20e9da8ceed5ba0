-- What a line that is not refused has got a yes to.
use Rattle.std.proofs.Common.{◌≡◌, ℕ, ◌+◌, ◌≤◌, Bool, true, false, cond, List, [], ◌∷◌, ◌++◌, Some, None, Option, refl, ap, ◌∙◌, arith}
use Rattle.std.proofs.lemmas.Bool.{leb-true}
use Rattle.assembler.specs.Labels.{name_in}
use Rattle.assembler.specs.Lines.{Parts, named, statement_in}
use Rattle.assembler.specs.Operands.{right_count, right_form, right_range}
use Rattle.assembler.specs.Questions.{asked, first_no, refusal_in, of_operands, in_order, code_words, data_words, after}
use Rattle.assembler.specs.declared.label.Label.{Label}
use Rattle.assembler.specs.declared.mnemonic.Mnemonic.{Mnemonic}
use Rattle.assembler.specs.Progress.{Progress}
use Rattle.assembler.specs.declared.question.Question.{Question}
use Rattle.assembler.specs.declared.question.Question.TheVariants as question
use Rattle.builder.specs.Source.{count_by}
use Rattle.builder.proofs.Said.{Right, stated_by, said_is, word_count}

yes : (a : Bool) (rest : Option Question) (q : Question) → cond a rest (Some q) ≡ None → (a ≡ true) × (rest ≡ None)
yes true rest q e = (refl, e)
yes false rest q e = let z : ◌≡◌ {A = ℕ} 0 1 = cc in absurd (omega arith)

-- the questions past the first ones
past : (f : Question → Bool) (qs rs : List Question) → first_no f (qs ++ rs) ≡ None → first_no f rs ≡ None
past f [] rs e = e
past f (q ∷ qs) rs e = past f qs rs (yes (f q) (first_no f (qs ++ rs)) q e).1

-- the first question past some others
pub asks : (f : Question → Bool) (qs : List Question) (q : Question) (rs : List Question) → first_no f (qs ++ q ∷ rs) ≡ None → f q ≡ true
asks f qs q rs e = (yes (f q) (first_no f rs) q (past f qs (q ∷ rs) e)).0

right_by : (o : Option Mnemonic) (l : Parts) → of_operands right_count l o ≡ true → of_operands right_form l o ≡ true → of_operands right_range l o ≡ true → Right o l.operands
right_by None l a b c = tt
right_by (Some m) l a b c = (a, b, c)

-- a line's operands are right, it stands in order, its statement is known, and there are few words with it
pub record Passing (pr : Progress) (l : Parts) : Type 0 where
  pub right : Right (named l.next) l.operands
  pub order : in_order pr l ≡ true
  pub says : statement_in l ≡ stated_by (named l.next) l.operands
  pub few : (after pr l).code + (after pr l).pool ≤ 65536
  pub counts : (after pr l).code + (after pr l).pool ≡ pr.code + pr.pool + count_by (named l.next) l.operands

pub passing : (t : List ℕ) (cap : ℕ) (ls : List Label) (pr : Progress) (l : Parts) → refusal_in (name_in t) cap ls pr l ≡ None → Passing pr l
passing t cap ls pr l ok =
    let f = asked (name_in t) cap ls pr l in
    let front = question.Label ∷ question.LabelRoom ∷ question.Waiting ∷ question.Name ∷ [] in
    let count = asks f (front ++ question.Order ∷ []) question.Count (question.Form ∷ question.Range ∷ question.Words ∷ []) ok in
    let form = asks f (front ++ question.Order ∷ question.Count ∷ []) question.Form (question.Range ∷ question.Words ∷ []) ok in
    let range = asks f (front ++ question.Order ∷ question.Count ∷ question.Form ∷ []) question.Range (question.Words ∷ []) ok in
    let words = asks f (front ++ question.Order ∷ question.Count ∷ question.Form ∷ question.Range ∷ []) question.Words [] ok in
    let right = right_by (named l.next) l count form range in
    let says = said_is (named l.next) l.operands right in
    let h = leb-true (pr.code + pr.pool + (code_words (statement_in l) + data_words (statement_in l))) 65536 words in
    let n : code_words (statement_in l) + data_words (statement_in l) ≡ count_by (named l.next) l.operands = ap (λ o. code_words o + data_words o) says ∙ word_count (named l.next) l.operands in
    record {
      right = right;
      order = asks f front question.Order (question.Count ∷ question.Form ∷ question.Range ∷ question.Words ∷ []) ok;
      says = says;
      few = omega arith;
      counts = omega arith;
    }
