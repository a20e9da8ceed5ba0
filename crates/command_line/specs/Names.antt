-- The options by their words, and which options a command has.
use Rattle.std.specs.Prelude.{ℕ, List, [], ◌∷◌, codes, Option, find}
use Rattle.std.specs.Str.{bytes_eq}
use Rattle.command_line.specs.declared.option_name.NumberOption.TheVariants.{Budget, Cells, Writes, Trace}
use Rattle.command_line.specs.declared.option_name.OptionName.{OptionName}
use Rattle.command_line.specs.declared.option_name.OptionName.TheVariants as option
use Rattle.command_line.specs.declared.option_name.Switch.TheVariants.{Dump, Quiet}
use Rattle.command_line.specs.declared.option_name.WordOption.TheVariants.{Readings, Results, Permit, First, Second}
use Rattle.command_line.specs.declared.topic.Topic.{Topic}
use Rattle.command_line.specs.declared.topic.Topic.TheVariants.{Run, Compare}

-- the word of an option
abbrev pub spelling_of : OptionName → List ℕ
spelling_of (option.Word Readings) = codes "--readings"
spelling_of (option.Word Results) = codes "--results"
spelling_of (option.Word Permit) = codes "--permit"
spelling_of (option.Word First) = codes "--first"
spelling_of (option.Word Second) = codes "--second"
spelling_of (option.Number Budget) = codes "--budget"
spelling_of (option.Number Cells) = codes "--cells"
spelling_of (option.Number Writes) = codes "--writes"
spelling_of (option.Number Trace) = codes "--trace"
spelling_of (option.Switch Dump) = codes "--dump"
spelling_of (option.Switch Quiet) = codes "--quiet"

abbrev pub every_option : List OptionName
every_option =
    option.Word Readings ∷ option.Word Results ∷ option.Word Permit ∷ option.Word First ∷ option.Word Second ∷ option.Number Budget
    ∷ option.Number Cells ∷ option.Number Writes ∷ option.Number Trace ∷ option.Switch Dump ∷ option.Switch Quiet ∷ []

abbrev pub options_of : Topic → List OptionName
options_of Run =
    option.Word Readings ∷ option.Word Results ∷ option.Word Permit ∷ option.Number Budget ∷ option.Number Cells ∷ option.Number Writes
    ∷ option.Number Trace ∷ option.Switch Dump ∷ option.Switch Quiet ∷ []
options_of Compare =
    option.Word First ∷ option.Word Second ∷ option.Word Readings ∷ option.Word Results ∷ option.Number Budget ∷ option.Number Cells
    ∷ option.Number Writes ∷ option.Number Trace ∷ option.Switch Dump ∷ option.Switch Quiet ∷ []
options_of command = []

-- the option of a command that a word gives
abbrev pub option_named : Topic → List ℕ → Option OptionName
option_named command word = find (λ o. bytes_eq (spelling_of o) word) (options_of command)
