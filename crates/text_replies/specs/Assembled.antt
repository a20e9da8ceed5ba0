-- What the command assemble prints and writes.
use Rattle.std.specs.Prelude.{◌≡◌, ℕ, List, length, Some, None, Option, option_map, Ok, Err, Result}
use Rattle.assembler.specs.Questions.{number_of}
use Rattle.assembler.specs.declared.question.Question.{Question}
use Rattle.assembler.specs.declared.question.Refusal.{Refusal}
use Rattle.builder.specs.Standing.{FirstOfAll}
use Rattle.reply.specs.Replies.{Reply, done, refused_at, shown}
use Rattle.tasks.specs.Assembling.{Made, fact_lines, made, numbers_in}
use Rattle.tasks.specs.declared.assembling.TheConstants.{LABEL_ENTRIES, LONGEST_EXECUTABLE}
use Rattle.text_replies.specs.declared.assembling.Assembly as code

-- what is told, and the bytes of the executable, if one is made
pub record Assembly : Type 0 where
  pub reply : Reply
  pub executable : Option (List ℕ)

abbrev pub shown_assembly : code.Assembly → Assembly
shown_assembly a = record { reply = shown a.reply; executable = option_map (λ bytes. bytes.items) a.executable }

-- the refusal of a text by a question and a line; no executable is made
abbrev pub refusal_of : Question → ℕ → Assembly
refusal_of q n = record { reply = refused_at (number_of q) n; executable = None }

-- the facts of the executable by the lines of the text, or the question with a no and its line
abbrev pub assembly_by : List ℕ → Result Made Refusal → Assembly
assembly_by t (Ok m) = record { reply = done (fact_lines (numbers_in t (length m.bytes)) (length m.labels)); executable = Some m.bytes }
assembly_by t (Err r) = refusal_of r.question r.origin.line

abbrev pub assembly : List ℕ → Assembly
assembly t = assembly_by t (made t)

-- what is told of a text is the refusal by the first question of all with a no, on its line; only where there is such a question no executable is made
pub record TellsFirst (t : List ℕ) (a : Assembly) : Type 0 where
  pub refused : (q : Question) (n : ℕ) → FirstOfAll t LABEL_ENTRIES LONGEST_EXECUTABLE q n → a ≡ refusal_of q n
  pub only : a.executable ≡ None → (q : Question) × ((n : ℕ) × FirstOfAll t LABEL_ENTRIES LONGEST_EXECUTABLE q n)
