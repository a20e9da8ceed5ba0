use Rattle.executable.specs.Check.{contents}
use Rattle.listing.proofs.Answered.{refused_27, written}
use Rattle.listing.proofs.Room.{Bytes}
use Rattle.listing.proofs.list.list.Goals as goal

pub returns-then-length-out : goal.returns-then-length-out
returns-then-length-out c =
    let typed : Bytes c.args.bytes.now = λ i. (c.type_inv.bytes i).fits in
    let checked = c.in_ok-executable.ensures in
    let a = refused_27 c.args.bytes.now (contents c.in_ok-executable.executable) checked.value checked.first typed c.args.out.now c.put_listing-length.result c.put_listing-length.ensures.ends c.if-length-out.true in
    record { value = a.value; output = a.output; first = a.first }

pub returns : goal.returns
returns c =
    let typed : Bytes c.args.bytes.now = λ i. (c.type_inv.bytes i).fits in
    let checked = c.in_ok-executable.ensures in
    let a = written c.args.bytes.now (contents c.in_ok-executable.executable) checked.value checked.first typed c.args.out.now c.put_listing.new.out c.put_listing-length.result c.put_listing.result c.put_listing-length.ensures.ends c.if-length-out.false c.put_listing.ensures in
    record { value = a.value; output = a.output; first = a.first }
