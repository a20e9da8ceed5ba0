use Rattle.std.proofs.Common.{◌≡◌, ap, ◌∙◌, arith, rules}
use Rattle.std.specs.Prelude.{slice_index}
use Rattle.std.specs.Option.{unwrap_or}
use Rattle.std.proofs.lemmas.List.FromFn.{fill_by_all}
use Rattle.std.proofs.lemmas.List.Edits.{fill_by_more}
use Rattle.std.proofs.lemmas.Option.{unwrap_or-slice_get}
use Rattle.executable.specs.Bytes.{words_of}
use Rattle.runs.proofs.loading.fill.Goals as goal

pub loop-index-preserved : goal.loop-index-preserved
loop-index-preserved c =
    let word : c.unwrap_or.result ≡ slice_index (words_of c.args.words.now) c.loop-index.index = c.unwrap_or.ensures ∙ ap (λ o. unwrap_or o 0) c.word_at.ensures ∙ unwrap_or-slice_get (words_of c.args.words.now) c.loop-index.index 0 in
    (search rules, rw word (fill_by_more (λ a. slice_index (words_of c.args.words.now) a) c.loop-index.cells c.loop-index.index 0 (search rules) c.loop-index.invariant.1))

pub returns : goal.returns
returns c = fill_by_all (λ a. slice_index (words_of c.args.words.now) a) c.loop-index.cells _ 0 c.loop-index.invariant.0 (λ k h. c.loop-index.invariant.1 k (omega (arith, h, c.loop-index-test.false)))
