-- Options, read word by word.
use Rattle.std.specs.Prelude.{ℕ, List, [], ◌∷◌, Option, Result, Ok, Err, if◌then◌else◌}
use Rattle.std.specs.Option.{ok_or, option_map}
use Rattle.numerals.specs.Natural.{natural, capped}
use Rattle.command_line.specs.Given.{nothing, has, with_word, with_number, with_switch}
use Rattle.command_line.specs.Names.{option_named}
use Rattle.command_line.specs.Results.{◌>>=◌}
use Rattle.command_line.specs.Words.{Word}
use Rattle.command_line.specs.declared.given.Given.{Given}
use Rattle.command_line.specs.declared.misuse.Misuse.{Misuse}
use Rattle.command_line.specs.declared.misuse.Misuse.TheVariants.{UnknownOption, NoValue, NoNumber, Twice}
use Rattle.command_line.specs.declared.option_name.OptionName.{OptionName}
use Rattle.command_line.specs.declared.option_name.OptionName.TheVariants as option
use Rattle.command_line.specs.declared.reading.Reading.{Reading}
use Rattle.command_line.specs.declared.reading.Reading.TheVariants as reading
use Rattle.command_line.specs.declared.topic.Topic.{Topic}

-- after the word of an option: a value comes next, unless the option has none
abbrev pub opened : Given → Word → OptionName → Reading
opened g w (option.Word o) = reading.Word g o w
opened g w (option.Number o) = reading.Number g o w
opened g w (option.Switch o) = reading.Between (with_switch g o)

-- each option at most once
abbrev pub once : Given → Word → OptionName → Result Reading Misuse
once g w o = if has g o then Err (Twice w) else Ok (opened g w o)

-- after a word where an option is to stand
abbrev pub after_option : Topic → Given → Word → Result Reading Misuse
after_option command g w = ok_or (option_named command w.now) (UnknownOption command w) >>= once g w

-- the number of a word, as far as it matters
abbrev pub number_in : List ℕ → Option ℕ
number_in w = option_map capped (natural w)

-- after one more word
abbrev pub after_word : Topic → Reading → Word → Result Reading Misuse
after_word command (reading.Between g) w = after_option command g w
after_word command (reading.Word g o option) w = Ok (reading.Between (with_word g o w))
after_word command (reading.Number g o option) w = ok_or (number_in w.now) (NoNumber option w) >>= (λ n. Ok (reading.Between (with_number g o n)))

-- when no word is left: a value must not be missing
abbrev pub end_of : Reading → Result Given Misuse
end_of (reading.Between g) = Ok g
end_of (reading.Word g o option) = Err (NoValue option)
end_of (reading.Number g o option) = Err (NoValue option)

-- what words give after what was read before
abbrev pub read_on : Topic → Reading → List Word → Result Given Misuse
read_on command r [] = end_of r
read_on command r (w ∷ ws) = after_word command r w >>= (λ q. read_on command q ws)

-- what the options of a command give
abbrev pub options_in : Topic → List Word → Result Given Misuse
options_in command words = read_on command (reading.Between nothing) words
