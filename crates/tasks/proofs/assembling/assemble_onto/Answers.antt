use Rattle.std.proofs.Common.{length}
use Rattle.bounded.specs.Held.{entries, room}
use Rattle.tasks.proofs.Entries.{has_room}
use Rattle.tasks.proofs.Made.{makes, refuses, first_of_all}
use Rattle.tasks.proofs.assembling.assemble_onto.Goals as goal

pub returns : goal.returns
returns c =
    let told = c.build.ensures in
    let t = c.args.text.now in
    let cap = room c.args.labels.now in
    let space = length c.args.out.now in
    record {
      made = makes t cap space c.requires.entries c.requires.out c.build.result c.args.out.now c.build.new.out (entries c.build.new.labels) told.value told.labels told.output;
      refused = refuses t cap space c.requires.entries c.requires.out c.build.result told.value;
      first = first_of_all t cap space c.requires.entries c.requires.out c.build.result told.first;
      room = has_room t cap space c.build.result c.requires.entries c.requires.out told.value;
    }
