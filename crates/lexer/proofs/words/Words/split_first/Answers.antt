use Rattle.std.proofs.Common.{◌+◌, refl, ap}
use Rattle.lexer.proofs.Stands.{word_stands, past_first, past_none, rest_first, told_first}
use Rattle.lexer.proofs.words.Words.split_first.Goals as goal

pub returns-in_err-skipped : goal.returns-in_err-skipped
returns-in_err-skipped c =
    let none = c.in_err-skipped.ensures in
    rw c.from_residual.ensures (none, past_none c.args.self.place c.args.self.rest.now none)

pub returns : goal.returns
returns c =
    let w = c.args.self in
    let f = c.in_ok-skipped.ensures in
    record {
      first = f.words;
      place_is = ap (λ k. w.place + k) f.skipped;
      past = past_first w.place c.in_ok-skipped.skipped w.rest.now c.in_ok-skipped.word.now c.in_ok-skipped.rest.now f;
      told = told_first w.line w.place c.in_ok-skipped.skipped w.rest.now c.in_ok-skipped.word.now c.in_ok-skipped.rest.now f;
      line = refl;
      stand = λ text s. word_stands text w.place c.in_ok-skipped.skipped w.rest.now c.in_ok-skipped.word.now c.in_ok-skipped.rest.now f s;
      rest = rest_first w.place c.in_ok-skipped.skipped w.rest.now c.in_ok-skipped.word.now c.in_ok-skipped.rest.now f;
    }
