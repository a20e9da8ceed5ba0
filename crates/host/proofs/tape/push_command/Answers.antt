use Rattle.std.proofs.Common.{◌≡◌, ℕ, ◌+◌, ◌≤◌, List, ◌∷◌, length, Ok, ◌∙◌, subst, arith, take_all}
use Rattle.std.proofs.lemmas.List.{length-take-le}
use Rattle.bounded.specs.Held.{entries, room}
use Rattle.host.proofs.Pushes.{Behind, pushed_all, behind_next, full_or_ok}
use Rattle.host.proofs.tape.push_command.Goals as goal

pub returns-in_err-push-2 : goal.returns-in_err-push-2
returns-in_err-push-2 c =
    let l = c.loop-byte in
    let e = c.in_err-push-2.ensures in
    let s = c.args.list.now in
    let held : length (entries s) ≡ s.len = length-take-le s.len s.items.now s.within in
    let fits : s.len + length (c.args.command ∷ c.args.operand.now) ≤ room s = omega (arith, held) in
    let next = behind_next s l.list c.push-in-loop-byte.new.self c.args.command c.args.operand.now l.byte-index 0 _ c.loop-byte-test.true fits l.invariant.behind e.value e.items e.count in
    absurd (full_or_ok _ next.answer)

pub loop-byte-preserved : goal.loop-byte-preserved
loop-byte-preserved c =
    let l = c.loop-byte in
    let e = c.in_ok-push-2.ensures in
    let s = c.args.list.now in
    let held : length (entries s) ≡ s.len = length-take-le s.len s.items.now s.within in
    let fits : s.len + length (c.args.command ∷ c.args.operand.now) ≤ room s = omega (arith, held) in
    record {
      behind = behind_next s l.list c.push-in-loop-byte.new.self c.args.command c.args.operand.now l.byte-index 0 _ c.loop-byte-test.true fits l.invariant.behind e.value e.items e.count;
      lender = e.lender ∙ l.invariant.lender;
    }

pub returns-clause-items : goal.returns-clause-items
returns-clause-items c =
    let l = c.loop-byte in
    let s = c.args.list.now in
    let held : length (entries s) ≡ s.len = length-take-le s.len s.items.now s.within in
    let fits : s.len + length (c.args.command ∷ c.args.operand.now) ≤ room s = omega (arith, held) in
    let whole = take_all l.byte-index c.args.operand.now c.loop-byte-test.false in
    (pushed_all s l.list (c.args.command ∷ c.args.operand.now) (Ok tt) fits (subst (λ (us : List ℕ). Behind s (c.args.command ∷ us) l.list (Ok tt)) whole l.invariant.behind)).items
