use Rattle.std.proofs.Common.{length}
use Rattle.tasks.proofs.Sides.{told_same, told_refused}
use Rattle.tasks.proofs.sameness.compare_on.Goals as goal

pub returns-in-Ok : goal.returns-in-Ok
returns-in-Ok c =
    let told =
    told_same c.args.left.now c.args.right.now (length c.args.text.now) (length c.args.other.now) (λ i. (c.type_inv.left i).fits) (λ i. (c.type_inv.right i).fits)
    c.requires.text c.requires.other c.in-Ok.same c.in-Ok.ensures.value c.in-Ok.ensures.equal
    in
    record { answer = told.answer; listings = told.listings; same = told.same }

pub returns-in-Err-clause-answer : goal.returns-in-Err-clause-answer
returns-in-Err-clause-answer c =
    told_refused c.args.left.now c.args.right.now (length c.args.text.now) (length c.args.other.now) (λ i. (c.type_inv.left i).fits) (λ i. (c.type_inv.right i).fits)
    c.requires.text c.requires.other c.in-Err.refusal c.refused_by.result c.in-Err.ensures.value c.refused_by.ensures
