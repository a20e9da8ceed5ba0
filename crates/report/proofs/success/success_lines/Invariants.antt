use Rattle.std.proofs.Common.{◌≡◌, ◌++◌, take, vec_items}
use Rattle.std.specs.List.{flat_map}
use Rattle.report.specs.Lines.{label_line, number_lines}
use Rattle.report.proofs.success.success_lines.Given as goal

abbrev pub invariant-loop-label : goal.invariant-loop-label
invariant-loop-label l = vec_items l.page ≡ number_lines l.fn.summary ++ flat_map (label_line l.text) (take l.label-index l.labels)
