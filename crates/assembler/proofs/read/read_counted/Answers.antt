use Rattle.std.proofs.Common.{◌≡◌, List, [], ◌∷◌, length, Some, Err, sym, ap, ◌∙◌}
use Rattle.std.specs.Option.{unwrap_or}
use Rattle.std.proofs.lemmas.Result.{err_from_is_err_and}
use Rattle.lexer.specs.Shown.{Shown, shown}
use Rattle.assembler.specs.Characters.{characters}
use Rattle.assembler.specs.Operands.{characters_in, places_of}
use Rattle.assembler.specs.Reading.{at_places, operands_in}
use Rattle.assembler.specs.Statements.{read_counted}
use Rattle.assembler.specs.declared.mnemonic.Mnemonic.{Mnemonic}
use Rattle.assembler.specs.declared.mnemonic.Mnemonic.TheVariants.{Text}
use Rattle.assembler.proofs.Forms.{text_refused, text_read}
use Rattle.assembler.proofs.read.read_counted.Goals as goal

-- the operand of `string` at its place
at_text : (m : Mnemonic) (s : Shown) (ws : List Shown) → m ≡ Text → s ∷ [] ≡ at_places 1 ws → read_counted Text (s ∷ []) ≡ read_counted m (at_places (length (places_of m)) ws)
at_text m s ws is e = ap (read_counted Text) e ∙ ap (λ n. read_counted n (at_places (length (places_of n)) ws)) (sym is)

pub returns-in_err-part-in-Text : goal.returns-in_err-part-in-Text
returns-in_err-part-in-Text c =
    let p = err_from_is_err_and c.from_residual-in_err-part-in-Text.result c.from_residual-in_err-part-in-Text.ensures.1 in
    let s = shown c.next_operand-in-Text.result in
    rw (p.1)
    (ap Err p.2
    ∙ text_refused s c.in_err-part-in-Text.field-0.0 (Some (unwrap_or (characters_in s) [])) c.in_err-part-in-Text.ensures
    ∙ at_text c.args.mnemonic s (operands_in c.args.words.now) c.in-Text.is (ap (λ x. x ∷ []) c.next_operand-in-Text.ensures.value))

pub returns-in_ok-part-in-Text : goal.returns-in_ok-part-in-Text
returns-in_ok-part-in-Text c =
    let s = shown c.next_operand-in-Text.result in
    text_read s (characters c.in_ok-part-in-Text.part.now) c.in_ok-part-in-Text.ensures
    ∙ at_text c.args.mnemonic s (operands_in c.args.words.now) c.in-Text.is (ap (λ x. x ∷ []) c.next_operand-in-Text.ensures.value)
