-- What the commands tape show and tape make print and write.
use Rattle.std.specs.Prelude.{◌≡◌, ℕ, List, [], ◌++◌, codes, decimal, Some, None, Option, option_map, Ok, Err, Result, Vec}
use Rattle.std.specs.Global.{Global}
use Rattle.item_lines.specs.Made.{Makes, MakesAgain}
use Rattle.item_lines.specs.Tapes.{tape_lines}
use Rattle.item_lines.specs.declared.make.MakeError.{MakeError}
use Rattle.item_lines.specs.declared.make.MakeError.TheVariants.{Line, TooMany, Memory}
use Rattle.reply.specs.Replies.{Reply, done, line, refused, shown, undone}
use Rattle.text_replies.specs.declared.tapes.Taping as code

-- the lines of the items on a tape
abbrev pub tape_shown : List ℕ → Reply
tape_shown tape = done (tape_lines tape)

-- what is told, and the bytes of the tape, if one is made
pub record Taping : Type 0 where
  pub reply : Reply
  pub tape : Option (List ℕ)

abbrev pub shown_taping : code.Taping → Taping
shown_taping t = record { reply = shown t.reply; tape = option_map (λ bytes. bytes.items) t.tape }

-- by its number, the line of a text with a name that is no item's
abbrev pub bad_line_page : List ℕ → ℕ → List ℕ
bad_line_page name n =
    codes "refused line " ++ (decimal n ++ (line [] ++ (codes "it is no item's line in " ++ (name ++ line (codes "; karma help tape tells how items are written")))))

-- no tape is made, and this is told
abbrev pub no_tape : Reply → Option Taping
no_tape r = Some (record { reply = r; tape = None })

-- of a tape nothing is told; none where there is no memory
abbrev pub taping_by : List ℕ → Result (Vec ℕ Global) MakeError → Option Taping
taping_by name (Ok v) = Some (record { reply = done []; tape = Some v.items })
taping_by name (Err (Line n)) = no_tape (undone (bad_line_page name n))
taping_by name (Err TooMany) = no_tape (refused 46)
taping_by name (Err Memory) = None

-- there is an answer of making a tape of the text, and that is what is told
pub record Tells (name text : List ℕ) (t : code.Taping) : Type 0 where
  pub answer : Result (Vec ℕ Global) MakeError
  pub makes : Makes text answer
  pub again : MakesAgain text answer
  pub told : Some (shown_taping t) ≡ taping_by name answer
