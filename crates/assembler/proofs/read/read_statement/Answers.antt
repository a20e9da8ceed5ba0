use Rattle.std.proofs.Common.{◌≡◌, length, sym, ap, ◌∙◌}
use Rattle.std.proofs.lemmas.List.{length-map}
use Rattle.std.proofs.lemmas.Bool.{cond-true, cond-false, eq-eqb, ne_eqb}
use Rattle.lexer.specs.Cursor.{words_in}
use Rattle.lexer.specs.Shown.{kind_of}
use Rattle.assembler.specs.Operands.{places_of}
use Rattle.assembler.specs.Reading.{operands_in}
use Rattle.assembler.specs.Statements.{read_counted}
use Rattle.assembler.proofs.Forms.{all_places}
use Rattle.assembler.proofs.read.read_statement.Goals as goal

pub returns-then-word_count-operand_count : goal.returns-then-word_count-operand_count
returns-then-word_count-operand_count c =
    let ws = words_in c.args.words.now in
    sym (cond-false _ _ _ (ne_eqb (length (operands_in c.args.words.now)) (length (places_of c.args.mnemonic)) (λ e. c.if-word_count-operand_count.true (c.word_count.ensures ∙ sym (length-map ws kind_of) ∙ e ∙ sym c.operand_count.ensures))))

pub returns : goal.returns
returns c =
    let ws = operands_in c.args.words.now in
    let n = length (places_of c.args.mnemonic) in
    let e : length ws ≡ n = length-map (words_in c.args.words.now) kind_of ∙ sym c.word_count.ensures ∙ c.if-word_count-operand_count.false ∙ c.operand_count.ensures in
    c.read_counted.ensures ∙ ap (read_counted c.args.mnemonic) (all_places n ws e) ∙ sym (cond-true _ _ _ (eq-eqb (length ws) n e))
