-- The permit of a file that may be given.
use Rattle.std.specs.Prelude.{ℕ, List, Some, None, Option, Ok, Err, Result}
use Rattle.permit.specs.Rights.{Rights, rights_of, new_rights}
use Rattle.permit.specs.declared.permit.Permit.{Permit}
use Rattle.permit_text.specs.Files.{permit_in}
use Rattle.permit_text.specs.declared.error.PermitError.{PermitError}
use Rattle.reply.specs.Permits.{refused_permit}
use Rattle.reply.specs.Replies.{Reply, shown}
use Rattle.reply.specs.declared.named.Named.{Named}
use Rattle.reply.specs.declared.reply.Reply as code

-- the rights of a permit file with a name, or the reply where it is refused
abbrev pub rights_or_reply : List ℕ → Result Rights PermitError → Result Rights Reply
rights_or_reply name (Ok rights) = Ok rights
rights_or_reply name (Err e) = Err (refused_permit name e)

unfoldable pub permit_of : Named → Result Rights Reply
permit_of file = rights_or_reply file.name.now (permit_in file.bytes.now)

-- those of a new permit where no file is given
abbrev pub permit_given : Option Named → Result Rights Reply
permit_given None = Ok new_rights
permit_given (Some file) = permit_of file

-- an answer of the code
abbrev pub shown_permit : Result Permit code.Reply → Result Rights Reply
shown_permit (Ok permit) = Ok (rights_of permit)
shown_permit (Err r) = Err (shown r)
