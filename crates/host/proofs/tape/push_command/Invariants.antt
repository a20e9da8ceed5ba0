use Rattle.std.proofs.Common.{◌≡◌, ◌∷◌, take, Ok}
use Rattle.host.proofs.Pushes.{Behind}
use Rattle.host.proofs.tape.push_command.Given as goal

abbrev pub invariant-loop-byte : goal.invariant-loop-byte
invariant-loop-byte l = record {
  behind : Behind l.fn.list (l.command ∷ take l.byte-index l.operand) l.list (Ok tt);
  lender : l.list.items.ghost_name ≡ l.fn.list.items.ghost_name;
}
