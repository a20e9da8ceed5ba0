use Rattle.std.proofs.Common.{◌≡◌, List, [], ◌∷◌, length, pos, Err, sym, ap, ◌∙◌, w16, SFits, to_z, of_z, rules}
use Rattle.std.specs.Option.{unwrap_or}
use Rattle.std.proofs.lemmas.Int.{to_z-of_z}
use Rattle.std.proofs.lemmas.Result.{err_from_is_err_and}
use Rattle.isa.specs.declared.form.Form.{Form}
use Rattle.isa.specs.declared.form.Form.TheVariants.{Rr, Ri, Rm}
use Rattle.lexer.specs.Shown.{Shown, shown}
use Rattle.assembler.specs.Operands.{a_modifier, a_target, an_immediate, integer_in, label_in, natural_in, places_in}
use Rattle.assembler.specs.Reading.{at_places, aimed, operands_in, read_numbers}
use Rattle.assembler.specs.Statements.{label_by, numbers_by}
use Rattle.assembler.proofs.Forms.{two_places, three_places, second_refused, third_refused, rr_read, rm_read}
use Rattle.assembler.proofs.read.read_operands.Goals as goal

-- the operands of a form at their places
at_form : (f g : Form) (ws xs : List Shown) → f ≡ g → xs ≡ at_places (length (places_in g)) ws → read_numbers g xs ≡ read_numbers f (at_places (length (places_in f)) ws)
at_form f g ws xs is e = ap (read_numbers g) e ∙ ap (λ h. read_numbers h (at_places (length (places_in h)) ws)) (sym is)

pub returns-in_err-modifier-in-Rr-clause-value : goal.returns-in_err-modifier-in-Rr-clause-value
returns-in_err-modifier-in-Rr-clause-value c =
    let p = err_from_is_err_and c.from_residual-in_err-modifier-in-Rr.result c.from_residual-in_err-modifier-in-Rr.ensures.1 in
    let s = shown c.next_operand.result in
    let t = shown c.next_operand-in-Rr.result in
    let u = shown c.next_operand-in-Rr-2.result in
    let xs = s ∷ t ∷ u ∷ [] in
    let ws = operands_in c.args.words.now in
    let e = three_places ws (operands_in c.next_operand.new.words) (operands_in c.next_operand-in-Rr.new.words) s t u
    c.next_operand.ensures.value c.next_operand.ensures.left c.next_operand-in-Rr.ensures.value c.next_operand-in-Rr.ensures.left c.next_operand-in-Rr-2.ensures.value in
    rw (p.1)
    (ap Err p.2
    ∙ third_refused a_modifier s u c.in_ok-first-in-Rr.first.number c.in_err-modifier-in-Rr.field-0.0 (numbers_by Rr xs, label_by Rr xs) (unwrap_or (integer_in u) (pos 0)) c.in_ok-first-in-Rr.ensures
    t c.in_ok-source-in-Rr.source.number c.in_ok-source-in-Rr.ensures c.in_err-modifier-in-Rr.ensures
    ∙ at_form c.args.form Rr ws xs c.in-Rr.is e)

pub returns-in_ok-modifier-in-Rr-clause-value : goal.returns-in_ok-modifier-in-Rr-clause-value
returns-in_ok-modifier-in-Rr-clause-value c =
    let s = shown c.next_operand.result in
    let t = shown c.next_operand-in-Rr.result in
    let u = shown c.next_operand-in-Rr-2.result in
    let ws = operands_in c.args.words.now in
    let m = c.in_ok-modifier-in-Rr.modifier in
    let fits : SFits w16 m = search rules in
    let e = three_places ws (operands_in c.next_operand.new.words) (operands_in c.next_operand-in-Rr.new.words) s t u
    c.next_operand.ensures.value c.next_operand.ensures.left c.next_operand-in-Rr.ensures.value c.next_operand-in-Rr.ensures.left c.next_operand-in-Rr-2.ensures.value in
    rr_read s t c.in_ok-first-in-Rr.first.number c.in_ok-first-in-Rr.ensures u c.in_ok-source-in-Rr.source.number m (to_z w16 (of_z w16 m)) c.in_ok-source-in-Rr.ensures c.in_ok-modifier-in-Rr.ensures (to_z-of_z w16 m fits)
    ∙ at_form c.args.form Rr ws (s ∷ t ∷ u ∷ []) c.in-Rr.is e

pub returns-in_err-immediate-in-Ri-clause-value : goal.returns-in_err-immediate-in-Ri-clause-value
returns-in_err-immediate-in-Ri-clause-value c =
    let p = err_from_is_err_and c.from_residual-in_err-immediate-in-Ri.result c.from_residual-in_err-immediate-in-Ri.ensures.1 in
    let s = shown c.next_operand-in-Ri.result in
    let t = shown c.next_operand-in-Ri-2.result in
    let xs = s ∷ t ∷ [] in
    let ws = operands_in c.args.words.now in
    let e = two_places ws (operands_in c.next_operand-in-Ri.new.words) s t c.next_operand-in-Ri.ensures.value c.next_operand-in-Ri.ensures.left c.next_operand-in-Ri-2.ensures.value in
    rw (p.1)
    (ap Err p.2
    ∙ second_refused an_immediate s t c.in_ok-first-in-Ri.first.number c.in_err-immediate-in-Ri.field-0.0 (numbers_by Ri xs, label_by Ri xs) (unwrap_or (integer_in t) (pos 0)) c.in_ok-first-in-Ri.ensures
    c.in_err-immediate-in-Ri.ensures
    ∙ at_form c.args.form Ri ws xs c.in-Ri.is e)

pub returns-in_err-target-in-Rm-clause-value : goal.returns-in_err-target-in-Rm-clause-value
returns-in_err-target-in-Rm-clause-value c =
    let p = err_from_is_err_and c.from_residual-in_err-target-in-Rm.result c.from_residual-in_err-target-in-Rm.ensures.1 in
    let s = shown c.next_operand-in-Rm.result in
    let t = shown c.next_operand-in-Rm-2.result in
    let xs = s ∷ t ∷ [] in
    let ws = operands_in c.args.words.now in
    let e = two_places ws (operands_in c.next_operand-in-Rm.new.words) s t c.next_operand-in-Rm.ensures.value c.next_operand-in-Rm.ensures.left c.next_operand-in-Rm-2.ensures.value in
    rw (p.1)
    (ap Err p.2
    ∙ second_refused a_target s t c.in_ok-first-in-Rm.first.number c.in_err-target-in-Rm.field-0.0 (numbers_by Rm xs, label_by Rm xs) (unwrap_or (natural_in t) 0, label_in t) c.in_ok-first-in-Rm.ensures
    c.in_err-target-in-Rm.ensures
    ∙ at_form c.args.form Rm ws xs c.in-Rm.is e)

pub returns-in_ok-target-in-Rm-clause-value : goal.returns-in_ok-target-in-Rm-clause-value
returns-in_ok-target-in-Rm-clause-value c =
    let s = shown c.next_operand-in-Rm.result in
    let t = shown c.next_operand-in-Rm-2.result in
    let ws = operands_in c.args.words.now in
    let e = two_places ws (operands_in c.next_operand-in-Rm.new.words) s t c.next_operand-in-Rm.ensures.value c.next_operand-in-Rm.ensures.left c.next_operand-in-Rm-2.ensures.value in
    rm_read s t c.in_ok-first-in-Rm.first.number c.in_ok-first-in-Rm.ensures (aimed c.in_ok-target-in-Rm.target) c.address-address.result.value _ c.in_ok-target-in-Rm.ensures c.address-address.ensures c.label.ensures
    ∙ at_form c.args.form Rm ws (s ∷ t ∷ []) c.in-Rm.is e
