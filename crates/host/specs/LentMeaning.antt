-- What a host over lent units means.
use Rattle.bounded.specs.Held.{entries}
use Rattle.host.specs.declared.lent_host.LentHost.{LentHost}
use Rattle.host.specs.Codes.{Code}
use Rattle.host.specs.Meaning.{Meaning}

-- what waits is read from the input, and what was written from the entries of the list
abbrev pub lent_meaning : {X : Type 0} {b : _} → Code X → LentHost X b → Meaning
lent_meaning c h = record { waiting = c.items h.input.now; spoiled = c.spoiled h.input.now; written = c.items (entries h.output); left = h.left }
