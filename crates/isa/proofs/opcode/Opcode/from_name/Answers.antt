use Rattle.std.proofs.Common.{◌≡◌, ap, ◌∙◌, rules, tests}
use Rattle.std.specs.List.{find}
use Rattle.std.specs.Str.{bytes_eq}
use Rattle.std.specs.Option.{option_map}
use Rattle.std.proofs.lemmas.Iterator.{YieldsList-from_slice}
use Rattle.std.proofs.lemmas.Iterator.Search.{find_from_yields_List}
use Rattle.isa.specs.Table.{opcodes, opcode_named}
use Rattle.isa.proofs.Rows.{of_lent, first_row, found, finds_named}
use Rattle.isa.proofs.opcode.Opcode.from_name.Goals as goal

pub returns : goal.returns
returns c =
    let w = c.args.name.now in
    let opcode : c.map.result ≡ option_map (λ r. r.now.0) c.find.result = search rules in
    let row : option_map (λ r. r.now) c.find.result ≡ find (λ r. bytes_eq r.1.now w) c.rows.result.now =
    find_from_yields_List (λ r. bytes_eq r.1.now w) _ _ c.find.result c.find.ensures.ran (YieldsList-from_slice c.rows.result.now cc) (λ x b q k. search (rules, tests)) in
    let e : c.map.result ≡ opcode_named w = opcode ∙ of_lent (λ r. r.0) c.find.result ∙ ap (option_map (λ r. r.0)) row ∙ first_row (λ n. bytes_eq n w) c.rows.result.now opcodes c.rows.ensures.opcodes c.rows.ensures.names in
    record { value = e; back = found w c.map.result e; finds = finds_named w c.map.result e }
