use Rattle.std.proofs.Common.{refl}
use Rattle.std.specs.Fmt.{digits}
use Rattle.assembler.specs.Mnemonics.{mnemonic_of}
use Rattle.machine.specs.Step.{stepped}
use Rattle.figures.specs.Figures.{Figures}
use Rattle.figures.proofs.figures.Goals as goal

all : Figures
unfolding digits mnemonic_of stepped
all = record { mov = refl; lc = refl; calli = refl; halt = refl; mov_line = refl; lc_line = refl; calli_line = refl; halt_line = refl; jmp_bits = refl; jmp_bits_line = refl; jmp_bits_run = λ c. refl; quotient = refl; no_quotient = refl; divi_runs = λ m. refl; divi_faults = λ m. refl; shli_runs = λ m. refl; shli_faults = λ m. refl; calls = λ m. refl; returns = λ m. refl; goes_on = λ m. refl; assembles = refl; lists = refl }

pub returns-clause-figures : goal.returns-clause-figures
returns-clause-figures c = all
