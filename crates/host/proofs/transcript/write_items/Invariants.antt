use Rattle.std.proofs.Common.{◌≡◌, ◌+◌, length, take, drop}
use Rattle.host.specs.LentMeaning.{lent_meaning}
use Rattle.host.proofs.transcript.write_items.Given as goal

abbrev pub invariant-loop-item : goal.invariant-loop-item
invariant-loop-item g l = record {
  written : (lent_meaning g.U.CodeUnit.code l.host).written ≡ take l.item-index l.items;
  left : l.host.left + l.item-index ≡ length l.items;
  rest : drop l.host.output.len l.host.output.items.now ≡ drop l.host.output.len l.initial.host.output.items.now;
  lender : l.host.output.items.ghost_name ≡ l.initial.host.output.items.ghost_name;
}
