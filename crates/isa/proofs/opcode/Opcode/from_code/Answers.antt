use Rattle.std.proofs.Common.{◌≡◌, ap, ◌∙◌, rules}
use Rattle.std.specs.List.{slice_get}
use Rattle.std.specs.Option.{option_map}
use Rattle.isa.specs.Table.{opcode_at}
use Rattle.isa.proofs.Rows.{item_at, found_code, finds_code}
use Rattle.isa.proofs.opcode.Opcode.from_code.Goals as goal

pub returns : goal.returns
returns c =
    let n = c.args.code in
    let row : c.map.result ≡ option_map (λ r. r.now.0) c.get.result = search rules in
    let e : c.map.result ≡ opcode_at n = row ∙ item_at (λ r. r.0) c.rows.result.now c.from.result c.get.result c.get.ensures.lookup ∙ ap (λ os. slice_get os c.from.result) c.rows.ensures.opcodes ∙ ap opcode_at c.from.ensures in
    record { value = e; back = found_code n c.map.result e; finds = finds_code n c.map.result e }
