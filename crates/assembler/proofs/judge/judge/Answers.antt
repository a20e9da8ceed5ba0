use Rattle.std.proofs.Common.{◌≡◌, ℕ, ◌+◌, false, List, Bor, map, Some, None, Ok, Err, Option, Result, is_some, sym, refl, ap, ◌∙◌, subst}
use Rattle.std.specs.Option.{option_map, IfSome, IfNone}
use Rattle.std.proofs.lemmas.Result.{err_from_is_err_and}
use Rattle.lexer.specs.Cursor.{words_in}
use Rattle.lexer.specs.Shown.{shown, first_shown, kind_of}
use Rattle.lexer.specs.Text.{blanks, code_words, tail_of}
use Rattle.assembler.specs.Labels.{name_in}
use Rattle.assembler.specs.Lines.{named, parts_by, parts_of}
use Rattle.assembler.specs.Progress.{Judged, Progress, progress_of}
use Rattle.assembler.specs.declared.label.Label.{Label}
use Rattle.assembler.specs.declared.question.Question.{Question}
use Rattle.assembler.specs.Questions.{entry_of, judge_of}
use Rattle.assembler.specs.Reading.{operands_in}
use Rattle.assembler.proofs.Judges.{some_kept, plain_ok, plain_err, labelled_no, labelled_ok, labelled_err}
use Rattle.assembler.proofs.judge.judge.Goals as goal

-- the place and the name of a label
abbrev Placed : Type 0
Placed = ℕ × Bor (List ℕ)

-- what is known of a line's words once the first is taken
plain_parts : (o : Option Placed) (P : Type 0) → o ≡ None → IfNone o P → P
plain_parts o P is h = subst (λ x. IfNone x P) is h

labelled_parts : (o : Option Placed) (x : Placed) (P : Placed → Type 0) → o ≡ Some x → IfSome o P → P x
labelled_parts o x P is h = subst (λ x. IfSome x P) is h

abbrev the_judged : Option Label → Progress → Result Judged Question
the_judged e pr = Ok (record { label = e; progress = pr })

pub returns-in_err-judge_rest-in-None-default : goal.returns-in_err-judge_rest-in-None-default
returns-in_err-judge_rest-in-None-default c =
    let t = c.args.symbols.text.now in
    let cap = c.args.capacity in
    let ls = c.args.symbols.labels.now in
    let pr = progress_of c.args.progress in
    let next = option_map (λ t. shown t.word) c.take_first.result.1 in
    let ops = operands_in c.take_first.new.words in
    let whole = ap (λ b. parts_of (code_words b)) c.words-words.ensures.begins.rest in
    let at = c.args.line.place + blanks c.args.line.code.now in
    let judged = judge_of (name_in t) cap ls pr at in
    let parts = plain_parts c.take_first.result.0 _ c.in-None-default.is-0 c.take_first.ensures.plain ∙ whole in
    let is_named = c.new-heading.ensures.named ∙ sym (some_kept (λ t. shown t.word) c.take_first.result.1) in
    let p = err_from_is_err_and c.from_residual.result c.from_residual.ensures.1 in
    rw (p.1) (ap Err p.2 ∙ plain_err t cap ls pr at next ops c.in_err-judge_rest-in-None-default.field-0.0 (c.in_err-judge_rest-in-None-default.ensures (record { label = None; next = next; operands = ops }) c.new-heading.ensures.labelled is_named c.new-heading.ensures.mnemonic refl) ∙ ap judged parts)

pub returns-in_err-judge_label-in-Some-default : goal.returns-in_err-judge_label-in-Some-default
returns-in_err-judge_label-in-Some-default c =
    let t = c.args.symbols.text.now in
    let cap = c.args.capacity in
    let ls = c.args.symbols.labels.now in
    let pr = progress_of c.args.progress in
    let ws = words_in c.take_first.new.words in
    let next = first_shown false ws in
    let ops = map kind_of (tail_of ws) in
    let whole = ap (λ b. parts_of (code_words b)) c.words-words.ensures.begins.rest in
    let at = c.args.line.place + blanks c.args.line.code.now in
    let judged = judge_of (name_in t) cap ls pr at in
    let parts = labelled_parts c.take_first.result.0 (c.in-Some-default.place, c.in-Some-default.name) (λ x. parts_by (Some x.1.now) ws ≡ parts_of (words_in c.words-words.result)) c.in-Some-default.is-0 c.take_first.ensures.labelled ∙ whole in
    let p = err_from_is_err_and c.from_residual-in_err-judge_label-in-Some-default.result c.from_residual-in_err-judge_label-in-Some-default.ensures.1 in
    rw (p.1) (ap Err p.2 ∙ labelled_no t cap ls pr at c.in-Some-default.name.now next ops c.in_err-judge_label-in-Some-default.field-0.0 c.in_err-judge_label-in-Some-default.ensures ∙ ap judged parts)

pub returns-in_err-after-in-Some-default : goal.returns-in_err-after-in-Some-default
returns-in_err-after-in-Some-default c =
    let t = c.args.symbols.text.now in
    let cap = c.args.capacity in
    let ls = c.args.symbols.labels.now in
    let pr = progress_of c.args.progress in
    let ws = words_in c.take_first.new.words in
    let next = first_shown false ws in
    let ops = map kind_of (tail_of ws) in
    let whole = ap (λ b. parts_of (code_words b)) c.words-words.ensures.begins.rest in
    let at = c.args.line.place + blanks c.args.line.code.now in
    let judged = judge_of (name_in t) cap ls pr at in
    let name = c.in-Some-default.name in
    let parts = labelled_parts c.take_first.result.0 (c.in-Some-default.place, name) (λ x. parts_by (Some x.1.now) ws ≡ parts_of (words_in c.words-words.result)) c.in-Some-default.is-0 c.take_first.ensures.labelled ∙ whole in
    let h = c.new-heading-in-Some-default.ensures in
    let is_named = h.named ∙ sym (some_kept (λ t. shown t.word) c.next_word.result) ∙ ap is_some c.next_word.ensures.kind in
    let is_mnemonic = h.mnemonic ∙ ap named c.next_word.ensures.kind in
    let p = err_from_is_err_and c.from_residual-in_err-after-in-Some-default.result c.from_residual-in_err-after-in-Some-default.ensures.1 in
    rw (p.1) (ap Err p.2 ∙ labelled_err t cap ls pr at name.now next ops tt c.in_err-after-in-Some-default.field-0.0 c.in_ok-judge_label-in-Some-default.ensures (c.in_err-after-in-Some-default.ensures (parts_by (Some name.now) ws) h.labelled is_named is_mnemonic (ap (map kind_of) c.next_word.ensures.left)) ∙ ap judged parts)

pub returns-in_ok-judge_rest-in-None-default : goal.returns-in_ok-judge_rest-in-None-default
returns-in_ok-judge_rest-in-None-default c =
    let t = c.args.symbols.text.now in
    let cap = c.args.capacity in
    let ls = c.args.symbols.labels.now in
    let pr = progress_of c.args.progress in
    let next = option_map (λ t. shown t.word) c.take_first.result.1 in
    let ops = operands_in c.take_first.new.words in
    let whole = ap (λ b. parts_of (code_words b)) c.words-words.ensures.begins.rest in
    let at = c.args.line.place + blanks c.args.line.code.now in
    let judged = judge_of (name_in t) cap ls pr at in
    let parts = plain_parts c.take_first.result.0 _ c.in-None-default.is-0 c.take_first.ensures.plain ∙ whole in
    let is_named = c.new-heading.ensures.named ∙ sym (some_kept (λ t. shown t.word) c.take_first.result.1) in
    plain_ok t cap ls pr at next ops (progress_of c.in_ok-judge_rest-in-None-default.field-0) (c.in_ok-judge_rest-in-None-default.ensures (record { label = None; next = next; operands = ops }) c.new-heading.ensures.labelled is_named c.new-heading.ensures.mnemonic refl) ∙ ap judged parts

pub returns-in_ok-after-in-Some-default : goal.returns-in_ok-after-in-Some-default
returns-in_ok-after-in-Some-default c =
    let t = c.args.symbols.text.now in
    let cap = c.args.capacity in
    let ls = c.args.symbols.labels.now in
    let pr = progress_of c.args.progress in
    let ws = words_in c.take_first.new.words in
    let next = first_shown false ws in
    let ops = map kind_of (tail_of ws) in
    let whole = ap (λ b. parts_of (code_words b)) c.words-words.ensures.begins.rest in
    let at = c.args.line.place + blanks c.args.line.code.now in
    let judged = judge_of (name_in t) cap ls pr at in
    let name = c.in-Some-default.name in
    let after = progress_of c.in_ok-after-in-Some-default.after in
    let parts = labelled_parts c.take_first.result.0 (c.in-Some-default.place, name) (λ x. parts_by (Some x.1.now) ws ≡ parts_of (words_in c.words-words.result)) c.in-Some-default.is-0 c.take_first.ensures.labelled ∙ whole in
    let h = c.new-heading-in-Some-default.ensures in
    let is_named = h.named ∙ sym (some_kept (λ t. shown t.word) c.next_word.result) ∙ ap is_some c.next_word.ensures.kind in
    let is_mnemonic = h.mnemonic ∙ ap named c.next_word.ensures.kind in
    let first = c.words-words.result in
    let place : c.in-Some-default.place ≡ at = labelled_parts c.take_first.result.0 (c.in-Some-default.place, name) (λ x. x.0 ≡ first.place + blanks first.rest.now) c.in-Some-default.is-0 c.take_first.ensures.place
    ∙ ap (λ p. p + blanks first.rest.now) c.words-words.ensures.begins.place ∙ ap (λ b. c.args.line.place + blanks b) c.words-words.ensures.begins.rest in
    let entry = c.entry_of.ensures ∙ ap (λ i. entry_of i pr name.now) place in
    ap (λ e. the_judged (Some e) after) entry
    ∙ labelled_ok t cap ls pr at name.now next ops tt after c.in_ok-judge_label-in-Some-default.ensures (c.in_ok-after-in-Some-default.ensures (parts_by (Some name.now) ws) h.labelled is_named is_mnemonic (ap (map kind_of) c.next_word.ensures.left))
    ∙ ap judged parts
