-- What the command help prints. Byte 10 ends each line.
use Rattle.std.specs.Prelude.{◌≡◌, ℕ, List, ◌∷◌, ◌++◌, codes, Some, None, Option, MatchBool}
use Rattle.std.specs.Str.{bytes_eq}
use Rattle.command_line.specs.Help.{IsHelp, IsOverview, IsUsage}
use Rattle.command_line.specs.Texts.{misuse_text}
use Rattle.command_line.specs.Topics.{topic_of}
use Rattle.command_line.specs.Words.{Word}
use Rattle.command_line.specs.declared.misuse.Misuse.TheVariants.{UnknownCommand}
use Rattle.command_line.specs.declared.topic.Topic.{Topic}
use Rattle.reply.specs.Replies.{Reply, done, line, undone}
use Rattle.sentences.specs.Pages.{all_questions}

-- what the tool is
pub record TellsTool (r : Reply) : Type 0 where
  pub text : List ℕ
  pub overview : IsOverview text
  pub told : r ≡ done (line text)

-- what each number asks
abbrev pub numbers : Reply
numbers = done all_questions

-- how a command is written and, after an empty line, what it does
pub record TellsTopic (command : Topic) (r : Reply) : Type 0 where
  pub written : List ℕ
  pub usage : IsUsage command written
  pub text : List ℕ
  pub help : IsHelp command text
  pub told : r ≡ done (written ++ (10 ∷ 10 ∷ line text))

-- a word names no command
abbrev pub unknown : Word → Reply
unknown w = undone (line (misuse_text (UnknownCommand w)))

-- the command that a word names, if it names one
abbrev pub TellsNamed : Word → Option Topic → Reply → Type 0
TellsNamed w (Some command) r = TellsTopic command r
TellsNamed w None r = r ≡ unknown w

-- the numbers, or what the word names
abbrev pub TellsOfWord : Word → Reply → Type 0
TellsOfWord w r = MatchBool (bytes_eq w.now (codes "numbers")) (r ≡ numbers) (TellsNamed w (topic_of w.now) r)

-- without a word, the tool
abbrev pub Helps : Option Word → Reply → Type 0
Helps None r = TellsTool r
Helps (Some w) r = TellsOfWord w r
