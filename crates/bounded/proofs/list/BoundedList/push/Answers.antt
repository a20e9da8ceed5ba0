use Rattle.std.proofs.Common.{sym, arith, rules}
use Rattle.bounded.proofs.Appends.{answer_free, appended_free, items_free, count_free, answer_full, appended_full, items_full, count_full}
use Rattle.bounded.proofs.list.BoundedList.push.Goals as goal

pub returns : goal.returns
returns g c =
    let s = c.args.self.now in
    record {
      value = sym (answer_free s.items.now s.len c.args.x (omega arith));
      entries = appended_free s.items.now s.len c.args.x (omega arith);
      items = items_free s.items.now s.len c.args.x (omega arith);
      lender = search rules;
      count = count_free s.items.now s.len c.args.x (omega arith);
    }

pub returns-then-self : goal.returns-then-self
returns-then-self g c =
    let s = c.args.self.now in
    let full = c.if-self.true in
    record {
      value = sym (answer_full s.items.now s.len c.args.x full);
      entries = appended_full s.items.now s.len c.args.x full;
      items = items_full s.items.now s.len c.args.x full;
      lender = search rules;
      count = count_full s.items.now s.len c.args.x full;
    }
