-- How far the first pass has come, and what a line adds.
use Rattle.std.specs.Prelude.{ℕ, Bool, is_some, Option}
use Rattle.std.specs.Option.{unwrap_or}
use Rattle.assembler.specs.declared.label.Label.{Label}
use Rattle.assembler.specs.declared.progress.Progress as rust
use Rattle.assembler.specs.declared.progress.Judged as judged
use Rattle.assembler.specs.declared.sizes.Sizes.{Sizes}

-- the words of code and of constants
abbrev pub counted : Sizes → ℕ × ℕ
counted s = (s.code, s.constants)

-- what the lines so far leave behind, besides their labels
pub record Progress : Type 0 where
  -- a label waits: no command or constant has come after it
  pub waiting : Bool
  -- there was a label, command or constant
  pub begun : Bool
  -- there was a `stack`
  pub stacked : Bool
  -- there was a `uint32` or `string`
  pub constants : Bool
  -- there was an `end`
  pub ended : Bool
  -- how many code words there are
  pub code : ℕ
  -- how many constant words there are
  pub pool : ℕ
  -- the initial stack pointer
  pub stack : ℕ

-- the progress that the pass keeps; where there was no `stack`, the initial stack pointer is 1,048,575
abbrev pub progress_of : rust.Progress → Progress
progress_of p = record {
  waiting = p.waiting;
  begun = p.begun;
  stacked = is_some p.stack;
  constants = p.constants;
  ended = p.ended;
  code = p.sizes.code;
  pool = p.sizes.constants;
  stack = unwrap_or p.stack 1048575;
}

-- what a line adds: its label's entry, and the progress after it
pub record Judged : Type 0 where
  pub label : Option Label
  pub progress : Progress

-- what a line adds, as the pass keeps it
abbrev pub judged_as : judged.Judged → Judged
judged_as j = record { label = j.label; progress = progress_of j.progress }
