-- The sentences that tell a misuse.
use Rattle.std.specs.Prelude.{ℕ, List, ◌++◌, codes}
use Rattle.command_line.specs.Topics.{word_of}
use Rattle.command_line.specs.declared.misuse.Misuse.{Misuse}
use Rattle.command_line.specs.declared.misuse.Misuse.TheVariants.{NoCommand, UnknownCommand, OtherOperands, UnknownOption, NoValue, NoNumber, Twice, NoFirst, NoSecond}

-- what is wrong, and what to write
abbrev pub misuse_text : Misuse → List ℕ
misuse_text NoCommand = codes "karma: no command; karma help lists the commands"
misuse_text (UnknownCommand word) = codes "karma: no command '" ++ (word.now ++ codes "'; karma help lists the commands")
misuse_text (OtherOperands command) =
    codes "karma: these are not the operands of " ++ (word_of command ++ (codes "; karma help " ++ (word_of command ++ codes " tells them")))
misuse_text (UnknownOption command word) =
    codes "karma: " ++ (word_of command ++ (codes " has no option '" ++ (word.now ++ (codes "'; karma help " ++ (word_of command ++ codes " lists its options")))))
misuse_text (NoValue option) = codes "karma: " ++ (option.now ++ codes " needs a value; write it as the next word")
misuse_text (NoNumber option word) =
    codes "karma: " ++ (option.now ++ (codes " needs a number and not '" ++ (word.now ++ codes "'; write one without a sign, as 1000 or 0x3e8")))
misuse_text (Twice option) = codes "karma: " ++ (option.now ++ codes " stands twice; write it once")
misuse_text NoFirst = codes "karma: compare needs --first PERMIT"
misuse_text NoSecond = codes "karma: compare needs --second PERMIT"
