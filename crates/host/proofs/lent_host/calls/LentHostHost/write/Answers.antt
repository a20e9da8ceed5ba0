use Rattle.std.proofs.Common.{◌≡◌, ◌<◌, rules, arith}
use Rattle.host.specs.Pushed.{items_pushed}
use Rattle.host.proofs.Appends.{appended}
use Rattle.host.proofs.lent_host.calls.LentHostHost.write.Goals as goal

pub invariant_of-self : goal.invariant_of-self
invariant_of-self g c =
    let s = c.args.self.now in
    let e = c.push_item.ensures in
    let some : 0 < s.left = omega arith in
    let pushed : c.push_item.new.list.items.now ≡ items_pushed (g.U.CodeUnit.code.coded c.args.item) s.output = search (rules, e.items) in
    let a = appended g.U.CodeUnit.laws s.output c.push_item.new.list s.left c.args.item e.range some s.fits s.coded pushed e.count in
    record { fits = a.fits; coded = a.coded }

pub returns-clause-after : goal.returns-clause-after
returns-clause-after g c =
    let s = c.args.self.now in
    let e = c.push_item.ensures in
    let some : 0 < s.left = omega arith in
    let a = appended g.U.CodeUnit.laws s.output c.push_item.new.list s.left c.args.item e.range some s.fits s.coded e.items e.count in
    search (rules, a.reads)
