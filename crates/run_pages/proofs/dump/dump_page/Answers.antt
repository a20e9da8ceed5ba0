use Rattle.std.proofs.Common.{◌++◌, string_bytes, ap, ◌∙◌}
use Rattle.runs.specs.Machines.{machine_of}
use Rattle.run_pages.specs.Dumps.{register_line}
use Rattle.run_pages.proofs.Registers.{line_more}
use Rattle.run_pages.proofs.dump.dump_page.Goals as goal

pub loop-number-preserved : goal.loop-number-preserved
loop-number-preserved c =
    let line = register_line (machine_of c.args.machine.now).core in
    let n = c.loop-number.number in
    c.in_ok-push_str.ensures.bytes ∙ ap (λ l. string_bytes c.loop-number.page ++ l) (c.as_str.ensures.value ∙ c.in_ok-line.ensures)
    ∙ ap (λ l. l ++ line n) c.loop-number.invariant ∙ line_more line n
