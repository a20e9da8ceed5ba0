-- What options give.
use Rattle.std.specs.Prelude.{ℕ, Bool, true, false, Some, None, is_some}
use Rattle.command_line.specs.Words.{Word}
use Rattle.command_line.specs.declared.given.Given.{Given}
use Rattle.command_line.specs.declared.option_name.NumberOption.{NumberOption}
use Rattle.command_line.specs.declared.option_name.NumberOption.TheVariants.{Budget, Cells, Writes, Trace}
use Rattle.command_line.specs.declared.option_name.OptionName.{OptionName}
use Rattle.command_line.specs.declared.option_name.OptionName.TheVariants as option
use Rattle.command_line.specs.declared.option_name.Switch.{Switch}
use Rattle.command_line.specs.declared.option_name.Switch.TheVariants.{Dump, Quiet}
use Rattle.command_line.specs.declared.option_name.WordOption.{WordOption}
use Rattle.command_line.specs.declared.option_name.WordOption.TheVariants.{Readings, Results, Permit, First, Second}

abbrev pub nothing : Given
nothing = record {
  options = record {
    readings = None;
    results = None;
    permit = None;
    budget = None;
    cells = None;
    writes = None;
    trace = None;
    dump = false;
    quiet = false;
  };
  first = None;
  second = None;
}

-- whether an option has been given
abbrev pub has : Given → OptionName → Bool
has g (option.Word Readings) = is_some g.options.readings
has g (option.Word Results) = is_some g.options.results
has g (option.Word Permit) = is_some g.options.permit
has g (option.Word First) = is_some g.first
has g (option.Word Second) = is_some g.second
has g (option.Number Budget) = is_some g.options.budget
has g (option.Number Cells) = is_some g.options.cells
has g (option.Number Writes) = is_some g.options.writes
has g (option.Number Trace) = is_some g.options.trace
has g (option.Switch Dump) = g.options.dump
has g (option.Switch Quiet) = g.options.quiet

abbrev pub with_word : Given → WordOption → Word → Given
with_word g Readings w = record g { options = record g.options { readings = Some w } }
with_word g Results w = record g { options = record g.options { results = Some w } }
with_word g Permit w = record g { options = record g.options { permit = Some w } }
with_word g First w = record g { first = Some w }
with_word g Second w = record g { second = Some w }

abbrev pub with_number : Given → NumberOption → ℕ → Given
with_number g Budget n = record g { options = record g.options { budget = Some n } }
with_number g Cells n = record g { options = record g.options { cells = Some n } }
with_number g Writes n = record g { options = record g.options { writes = Some n } }
with_number g Trace n = record g { options = record g.options { trace = Some n } }

abbrev pub with_switch : Given → Switch → Given
with_switch g Dump = record g { options = record g.options { dump = true } }
with_switch g Quiet = record g { options = record g.options { quiet = true } }
