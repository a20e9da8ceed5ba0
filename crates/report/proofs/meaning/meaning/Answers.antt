use Rattle.std.proofs.Common.{sym, ap}
use Rattle.report.specs.Meanings.{meaning_of}
use Rattle.report.proofs.meaning.meaning.Goals as goal

pub returns-in-Text : goal.returns-in-Text
returns-in-Text c = ap meaning_of (sym c.in-Text.is)

pub returns-in-Label : goal.returns-in-Label
returns-in-Label c = ap meaning_of (sym c.in-Label.is)

pub returns-in-LabelRoom : goal.returns-in-LabelRoom
returns-in-LabelRoom c = ap meaning_of (sym c.in-LabelRoom.is)

pub returns-in-Waiting : goal.returns-in-Waiting
returns-in-Waiting c = ap meaning_of (sym c.in-Waiting.is)

pub returns-in-Name : goal.returns-in-Name
returns-in-Name c = ap meaning_of (sym c.in-Name.is)

pub returns-in-Order : goal.returns-in-Order
returns-in-Order c = ap meaning_of (sym c.in-Order.is)

pub returns-in-Count : goal.returns-in-Count
returns-in-Count c = ap meaning_of (sym c.in-Count.is)

pub returns-in-Form : goal.returns-in-Form
returns-in-Form c = ap meaning_of (sym c.in-Form.is)

pub returns-in-Range : goal.returns-in-Range
returns-in-Range c = ap meaning_of (sym c.in-Range.is)

pub returns-in-Words : goal.returns-in-Words
returns-in-Words c = ap meaning_of (sym c.in-Words.is)

pub returns-in-End : goal.returns-in-End
returns-in-End c = ap meaning_of (sym c.in-End.is)

pub returns-in-Defined : goal.returns-in-Defined
returns-in-Defined c = ap meaning_of (sym c.in-Defined.is)

pub returns-in-Output : goal.returns-in-Output
returns-in-Output c = ap meaning_of (sym c.in-Output.is)
