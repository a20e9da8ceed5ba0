use Rattle.std.proofs.Common.{◌≡◌, drop}
use Rattle.command_line.specs.Reading.{options_in, read_on}
use Rattle.command_line.proofs.reading.read_options.Given as goal

abbrev pub invariant-loop-word : goal.invariant-loop-word
invariant-loop-word l = options_in l.command l.words ≡ read_on l.command l.reading (drop l.word-index l.words)
