-- What is told of a text is what its lines say, or the first question of all with a no.
use Rattle.std.proofs.Common.{◌≡◌, ℕ, List, length, Some, Err, Result, refl, sym, ap, ◌∙◌}
use Rattle.assembler.specs.declared.label.Label.{Label}
use Rattle.assembler.specs.declared.question.Refusal.{Refusal}
use Rattle.builder.specs.Standing.{ExactlyFirstOfAll}
use Rattle.builder.specs.declared.summary.Summary.{Summary}
use Rattle.reply.specs.Replies.{done}
use Rattle.tasks.specs.Assembling.{Makes, fact_lines}
use Rattle.tasks.specs.declared.assembling.TheConstants.{LABEL_ENTRIES, LONGEST_EXECUTABLE}
use Rattle.text_replies.specs.Assembled.{Assembly, assembly_by, assembly, refusal_of, TellsFirst}

-- where a refusal is told, its question is the first, on its line
pub tells_refusal : (t : List ℕ) (r : Refusal) (a : Assembly) → a ≡ refusal_of r.question r.origin.line → ExactlyFirstOfAll t LABEL_ENTRIES LONGEST_EXECUTABLE (Err r) → TellsFirst t a
tells_refusal t r a is exact = record {
  refused = λ q n h.
      let both : ◌≡◌ {A = Result Summary Refusal} (Err r) (Err (record { question = q; origin = record { line = n } })) = (exact q n).1 h in
      let same : r ≡ record { question = q; origin = record { line = n } } = cc in
      is ∙ ap (λ x. refusal_of x.question x.origin.line) same;
  only = λ e. (r.question, (r.origin.line, (exact r.question r.origin.line).0 refl));
}

-- the page of the facts of an executable is the one that the lines of the text say
pub facts_told : (t page bytes : List ℕ) (s : Summary) (ls : List Label) → Makes t bytes s ls → page ≡ fact_lines s (length ls) → record { reply = done page; executable = Some bytes } ≡ assembly t
facts_told t page bytes s ls makes is =
    let with_page : List ℕ → Assembly = λ p. record { reply = done p; executable = Some bytes } in
    ap with_page (is ∙ ap (λ x. fact_lines x (length ls)) makes.numbers) ∙ sym (ap (assembly_by t) makes.made)
