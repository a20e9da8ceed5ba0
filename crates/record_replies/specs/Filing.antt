-- Making a record, and what is told of it.
use Rattle.std.specs.Prelude.{ℕ, List, [], Some, None, Option, Ok, Err, Result, option_map}
use Rattle.assembler.specs.Questions.{number_of as question_number}
use Rattle.assembler.specs.declared.question.Refusal as question
use Rattle.play.specs.Whole.{Outcome}
use Rattle.record.specs.Filing.{Inputs, Made, filed, shown_made}
use Rattle.record.specs.declared.file.FileError.{FileError}
use Rattle.record.specs.declared.file.FileError.TheVariants.{Source, Permit, Run, Memory}
use Rattle.reply.specs.Permits.{refused_permit}
use Rattle.reply.specs.Replies as reply
use Rattle.reply.specs.Replies.{Reply, done, undone, refused, refused_at}
use Rattle.reply.specs.Runs.{outcome_page, refused_run}
use Rattle.record_replies.specs.declared.filing.Filing as code

-- what is told, and the record, where one is made
pub record Filing : Type 0 where
  pub reply : Reply
  pub made : Option Made

-- an answer of the code
abbrev pub shown_filing : code.Filing → Filing
shown_filing f = record { reply = reply.shown f.reply; made = option_map shown_made f.made }

-- a run that was taken is told by what it came to
abbrev pub taken : Outcome → Reply
taken o = done (outcome_page o)

-- a source that is not assembled, by the number of the question that got a no, and the line
abbrev pub refused_source : question.Refusal → Reply
refused_source r = refused_at (question_number r.question) r.origin.line

-- why no record is made; a permit is told by its name, and want of memory by nothing
abbrev pub not_made : List ℕ → FileError → Reply
not_made name (Source r) = refused_source r
not_made name (Permit e) = refused_permit name e
not_made name (Run q) = refused_run q
not_made name Memory = undone []

-- a record that is made is told by its run
abbrev pub made_filing : Made → Filing
made_filing m = record { reply = taken m.outcome; made = Some m }

-- no record, told by a reply
abbrev pub no_filing : Reply → Filing
no_filing r = record { reply = r; made = None }

-- by what is made, or why it is not
abbrev pub filing_of : List ℕ → Result Made FileError → Filing
filing_of name (Ok m) = made_filing m
filing_of name (Err e) = no_filing (not_made name e)

-- what making a record comes to
abbrev pub filing : List ℕ → Inputs → Filing
filing name i = filing_of name (filed i)
