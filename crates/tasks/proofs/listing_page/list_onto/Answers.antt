use Rattle.tasks.proofs.Whole.{lists, refuses}
use Rattle.tasks.proofs.listing_page.list_onto.Goals as goal

pub returns : goal.returns
returns c =
    let told = c.list.ensures in
    record {
      listed = lists c.args.executable.now c.args.page.now c.list.new.out (λ i. (c.type_inv.executable i).fits) c.requires c.list.result told.value told.output;
      refused = refuses c.args.executable.now c.args.page.now c.list.new.out (λ i. (c.type_inv.executable i).fits) c.requires c.list.result told.value;
    }
