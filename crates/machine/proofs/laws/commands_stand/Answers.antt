use Rattle.machine.proofs.Returns.{come_back, undone}
use Rattle.machine.proofs.Sequences.{sequences}
use Rattle.machine.proofs.laws.commands_stand.Goals as goal

pub returns-clause-sequences : goal.returns-clause-sequences
returns-clause-sequences c = sequences

pub returns-clause-returns : goal.returns-clause-returns
returns-clause-returns c = come_back

pub returns-clause-undone : goal.returns-clause-undone
returns-clause-undone c = undone
