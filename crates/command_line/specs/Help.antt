-- What the texts of `karma help` tell.
use Rattle.std.specs.Prelude.{◌≡◌, ℕ, Bool, false, ◌||◌, List, [], ◌∷◌, ◌++◌, codes, IsTrue, is_some, filter, nat_eq}
use Rattle.std.specs.List.{list_all, starts_with}
use Rattle.command_line.specs.Names.{spelling_of, every_option, option_named}
use Rattle.command_line.specs.Topics.{word_of, topics}
use Rattle.command_line.specs.declared.topic.Topic.{Topic}

-- whether a word stands somewhere in a text
abbrev pub mentions : List ℕ → List ℕ → Bool
mentions word [] = false
mentions word (b ∷ text) = starts_with nat_eq (b ∷ text) word || mentions word text

-- what is written of a command before its operands
abbrev pub call_of : Topic → List ℕ
call_of command = codes "karma " ++ word_of command

-- of all options, a text mentions those that a command has
abbrev pub HasOptions : Topic → List ℕ → Type 0
HasOptions command text = filter (λ o. mentions (spelling_of o) text) every_option ≡ filter (λ o. is_some (option_named command (spelling_of o))) every_option

-- a command's usage begins with the command, and mentions its options
pub record IsUsage (command : Topic) (text : List ℕ) : Type 0 where
  pub begins : IsTrue (starts_with nat_eq text (call_of command))
  pub options : HasOptions command text

-- a command's help mentions its options and its exit status
pub record IsHelp (command : Topic) (text : List ℕ) : Type 0 where
  pub options : HasOptions command text
  pub status : IsTrue (mentions (codes "Exit status: 0 where ") text)

-- the overview mentions each command
abbrev pub IsOverview : List ℕ → Type 0
IsOverview text = IsTrue (list_all (λ t. mentions (call_of t) text) topics)
