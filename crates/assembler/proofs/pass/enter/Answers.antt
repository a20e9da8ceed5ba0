use Rattle.std.proofs.Common.{◌≡◌, ◌+◌, ◌<◌, true, ltb, [], ◌∷◌, length, drop, set, is_some, sym, ap, ◌∙◌, arith, length-append, length-set}
use Rattle.std.proofs.lemmas.List.{length-take-le, drop-set-lt}
use Rattle.std.proofs.lemmas.Bool.{cond-true, lt-ltb}
use Rattle.bounded.specs.Held.{entries, room}
use Rattle.assembler.specs.Assembled.{entered}
use Rattle.assembler.proofs.pass.enter.Goals as goal

pub returns-in-Some : goal.returns-in-Some
returns-in-Some c =
    let labels = c.args.labels.now in
    let after = c.push.new.self in
    let items = labels.items.now in
    let x = c.in-Some.label in
    let held : length (entries labels) ≡ labels.len = length-take-le labels.len items labels.within in
    let held' : length (entries after) ≡ after.len = length-take-le after.len after.items.now after.within in
    let short : labels.len < room labels = c.requires (ap is_some c.in-Some.is) in
    let fits : ltb (length (entries labels)) (room labels) ≡ true = lt-ltb (length (entries labels)) (room labels) (omega arith) in
    let put = c.push.ensures.entries ∙ cond-true (ltb (length (entries labels)) (room labels)) _ _ fits in
    let items_are : after.items.now ≡ set items (length (entries labels)) x = c.push.ensures.items ∙ cond-true (ltb (length (entries labels)) (length items)) _ _ fits in
    let more : after.len ≡ length (entries labels) + 1 = omega (arith, ap length put, length-append (entries labels) (x ∷ [])) in
    record {
      held = put ∙ sym (ap (entered (entries labels)) c.in-Some.is);
      room = ap length items_are ∙ length-set items (length (entries labels)) x;
      grown = omega arith;
      rest = record {
        past = ap (drop after.len) items_are ∙ drop-set-lt after.len items (length (entries labels)) x (omega arith);
        lender = c.push.ensures.lender;
      };
    }
