use Rattle.std.proofs.Common.{length}
use Rattle.listing.proofs.Prints.{listed_page, listed_within, refused_page}
use Rattle.listing.proofs.Room.{Bytes}
use Rattle.listing.proofs.printout.list_taken.Goals as goal

pub returns-clause-listed : goal.returns-clause-listed
returns-clause-listed c =
    listed_page c.args.input.now c.args.page.now c.list.new.out c.if-input-gt-MOST.false c.list.ensures.output c.list.result c.list.ensures.value c.list.ensures.first

pub returns-clause-within : goal.returns-clause-within
returns-clause-within c =
    listed_within c.args.input.now (length c.args.page.now) c.list.result c.list.ensures.value c.list.ensures.first

pub returns-clause-refused : goal.returns-clause-refused
returns-clause-refused c =
    let typed : Bytes c.args.input.now = λ i. (c.type_inv.input i).fits in
    refused_page c.args.input.now c.args.page.now c.list.result typed c.if-input-gt-MOST.false c.requires c.list.ensures.value c.list.ensures.first
