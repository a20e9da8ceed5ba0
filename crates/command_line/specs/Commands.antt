-- The command that the words after the program's name give.
use Rattle.std.specs.Prelude.{List, [], ◌∷◌, codes, Option, Some, None, Result, Ok, Err, if◌then◌else◌}
use Rattle.std.specs.Option.{ok_or}
use Rattle.std.specs.Str.{bytes_eq}
use Rattle.command_line.specs.Reading.{options_in}
use Rattle.command_line.specs.Results.{◌>>=◌}
use Rattle.command_line.specs.Topics.{topic_of}
use Rattle.command_line.specs.Words.{Word}
use Rattle.command_line.specs.declared.command.Command.{Command}
use Rattle.command_line.specs.declared.command.Command.TheVariants as command
use Rattle.command_line.specs.declared.misuse.Misuse.{Misuse}
use Rattle.command_line.specs.declared.misuse.Misuse.TheVariants.{NoCommand, UnknownCommand, OtherOperands, NoFirst, NoSecond}
use Rattle.command_line.specs.declared.topic.Topic.{Topic}
use Rattle.command_line.specs.declared.topic.Topic.TheVariants as topic

-- the command of a topic that takes these operands and no options
abbrev pub plain_command : Topic → List Word → Option Command
plain_command topic.Assemble (source ∷ executable ∷ []) = Some (command.Assemble source executable)
plain_command topic.List (executable ∷ []) = Some (command.List executable)
plain_command topic.Check (executable ∷ listing ∷ []) = Some (command.Check executable listing)
plain_command topic.Same (first ∷ second ∷ []) = Some (command.Same first second)
plain_command topic.Tape (verb ∷ tape ∷ []) = if bytes_eq verb.now (codes "show") then Some (command.ShowTape tape) else None
plain_command topic.Tape (verb ∷ text ∷ tape ∷ []) = if bytes_eq verb.now (codes "make") then Some (command.MakeTape text tape) else None
plain_command topic.File (folder ∷ source ∷ readings ∷ permit ∷ []) = Some (command.File folder source readings permit)
plain_command topic.Replay (folder ∷ []) = Some (command.Replay folder)
plain_command topic.Help [] = Some (command.Help None)
plain_command topic.Help (word ∷ []) = Some (command.Help (Some word))
plain_command topic words = None

-- a run with options
abbrev pub run_in : Word → List Word → Result Command Misuse
run_in executable words = do
  g ← options_in topic.Run words
  Ok (command.Run executable g.options)

-- a comparison needs both permits
abbrev pub comparison_in : Word → List Word → Result Command Misuse
comparison_in executable words = do
  g ← options_in topic.Compare words
  first ← ok_or g.first NoFirst
  second ← ok_or g.second NoSecond
  Ok (command.Compare executable first second g.options)

-- the command of a topic that the words after it give
abbrev pub operands_in : Topic → List Word → Result Command Misuse
operands_in topic.Run (executable ∷ words) = run_in executable words
operands_in topic.Compare (executable ∷ words) = comparison_in executable words
operands_in topic words = ok_or (plain_command topic words) (OtherOperands topic)

-- the command that words give
abbrev pub command_in : List Word → Result Command Misuse
command_in [] = Err NoCommand
command_in (name ∷ words) = do
  topic ← ok_or (topic_of name.now) (UnknownCommand name)
  operands_in topic words
