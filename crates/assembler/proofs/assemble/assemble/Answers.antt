use Rattle.std.proofs.Common.{length, sym, subst}
use Rattle.bounded.specs.Held.{room}
use Rattle.assembler.specs.First.{ExactlyFirstNo}
use Rattle.assembler.proofs.Firsthand.{exactly}
use Rattle.assembler.proofs.assemble.assemble.Goals as goal

pub returns : goal.returns
returns c =
    let t = c.args.text.now in
    let cap = room c.args.labels.now in
    let len = length c.args.out.now in
    let says = c.assemble_text.ensures in
    record {
      value = says.value;
      labels = says.labels;
      output = says.output;
      rest = says.rest;
      first = subst (ExactlyFirstNo t cap len) (sym says.value) (exactly t cap len);
    }
