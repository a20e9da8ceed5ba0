use Rattle.std.proofs.Common.{◌≡◌, ◌≤◌, length, take, codes, ap, ◌∙◌, arith, rules}
use Rattle.listing.specs.Printout.{refused_text}
use Rattle.listing.proofs.Prints.{on_page}
use Rattle.listing.proofs.Room.{number_short}
use Rattle.listing.proofs.printout.put_refusal.Goals as goal

pub returns : goal.returns
returns c =
    let n = c.from.result in
    let short = number_short (codes "refused") n (omega arith) c.from.type_inv in
    let new = c.new-writer.ensures in
    let after = c.put_number_line.new.writer in
    let both = on_page c.args.page.now (refused_text n) c.new-writer.result after new.output new.length c.put_number_line.ensures (omega (arith, short, c.requires)) (omega arith) in
    let text : take after.len after.out.now ≡ refused_text c.args.number = both.0 ∙ ap refused_text c.from.ensures in
    let within : after.len ≤ length c.args.page.now = both.1 in
    search rules
