use Rattle.std.proofs.Common.{◌≡◌, ◌∙◌, length, drop, Ok, Err, ap, arith, rules}
use Rattle.host.specs.Rooms.{room_for}
use Rattle.host.specs.Tapes.{items}
use Rattle.item_lines.proofs.Made.{shown_read, not_made, made_again}
use Rattle.item_lines.proofs.make.make_tape.Goals as goal

pub returns-in_err-items-clause-back : goal.returns-in_err-items-clause-back
returns-in_err-items-clause-back c bs bytes clean shown =
    not_made bs c.in_err-items.field-0.0 c.from_residual.result (shown_read c.args.text.now (Err c.in_err-items.field-0.0) c.in_err-items.ensures.back bs bytes clean shown) c.from_residual.ensures.1

pub returns-then-len-gt-MOST-clause-back : goal.returns-then-len-gt-MOST-clause-back
returns-then-len-gt-MOST-clause-back c bs bytes clean shown =
    let same : c.in_ok-items.items.items ≡ items bs = shown_read c.args.text.now (Ok c.in_ok-items.items) c.in_ok-items.ensures.back bs bytes clean shown in
    omega (arith, ap length same, c.in_ok-items.items.ok.0)

pub returns-clause-back : goal.returns-clause-back
returns-clause-back c bs bytes clean shown =
    let same : c.in_ok-items.items.items ≡ items bs = shown_read c.args.text.now (Ok c.in_ok-items.items) c.in_ok-items.ensures.back bs bytes clean shown in
    let out = c.write_items.new.output in
    let long : length out ≡ c.in_ok-tape.tape.len = search rules in
    made_again bs c.as_slice.result.now (room_for 9 (length c.as_mut_slice.result.now) (length c.as_slice.result.now)) c.in_ok-length.length c.in_ok-tape.tape.len c.as_mut_slice.result.now out (drop (length out) c.in_ok-tape.tape.items) c.truncate.new.self.items bytes clean (c.as_slice.ensures.value ∙ same) c.in_ok-length.ensures.value c.in_ok-length.ensures.output long c.truncate.ensures.items
