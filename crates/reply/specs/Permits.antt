-- What is told of a permit file that is not read.
use Rattle.std.specs.Prelude.{ℕ, List, [], ◌++◌, codes, decimal, Some, None, Option}
use Rattle.permit_text.specs.Errors.{line_of, number_of}
use Rattle.permit_text.specs.declared.error.PermitError.{PermitError}
use Rattle.reply.specs.Replies.{Reply, line, undone}
use Rattle.sentences.specs.Pages.{line_refusal_page}

-- by its name, the line that is refused, and the number, if it has one
abbrev pub permit_page : List ℕ → ℕ → Option ℕ → List ℕ
permit_page name l (Some n) = line_refusal_page n l ++ (codes "in the permit " ++ line name)
permit_page name l None =
    codes "refused line " ++ (decimal l ++ (line [] ++ (codes "no setting stands there in the permit " ++ (name ++ line (codes "; karma help run tells the settings")))))

abbrev pub refused_permit : List ℕ → PermitError → Reply
refused_permit name e = undone (permit_page name (line_of e) (number_of e))
