use Rattle.std.proofs.Common.{length}
use Rattle.tasks.proofs.Back.{comes_back, is_refused}
use Rattle.tasks.proofs.checking.is_rebuilt.Goals as goal

pub returns-in-Ok : goal.returns-in-Ok
returns-in-Ok c =
    let told = c.in-Ok.ensures in
    comes_back c.args.executable.now c.args.out.now c.rebuild.new.out (length c.args.text.now) (λ i. (c.type_inv.executable i).fits) c.requires.text c.requires.out c.in-Ok.field-0 c.eq.result
    told.value told.output c.eq.ensures

pub returns-in-Err : goal.returns-in-Err
returns-in-Err c =
    is_refused c.args.executable.now c.args.out.now c.rebuild.new.out (length c.args.text.now) (λ i. (c.type_inv.executable i).fits) c.requires.text c.requires.out c.in-Err.field-0
    c.in-Err.ensures.value
