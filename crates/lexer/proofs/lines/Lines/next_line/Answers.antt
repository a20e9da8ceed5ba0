use Rattle.std.proofs.Common.{◌≡◌, ◌+◌, All, ◌∷◌, length, sym, ap, ◌∙◌, subst, arith, rules}
use Rattle.std.proofs.lemmas.List.Elements.{All-head, All-tail}
use Rattle.lexer.specs.Cursor.{lines_left, numbered_in}
use Rattle.lexer.proofs.Stands.{Stand}
use Rattle.lexer.specs.Text.{numbered, tail_of, next_at}
use Rattle.lexer.proofs.Split.{next_line, coded, next_numbered, next_told}
use Rattle.lexer.proofs.lines.Lines.next_line.Goals as goal

on : (c : goal.After-result-1) → lines_left c.args.self.now.rest ≡ c.before-line.result.now ∷ lines_left c.get-self.result
on c = ap lines_left c.in_ok-rest.was ∙ next_line c.in_ok-rest.rest.now c.before-line.result.now c.get-self.result c.before-line.ensures.value c.get-self.ensures.lookup

step : (c : goal.After-result-1) → numbered_in c.args.self.now ≡ coded c.args.self.now.number c.args.self.now.place c.code_of.result.now ∷ numbered (c.args.self.now.number + 1) (c.args.self.now.place + (length c.before-line.result.now + 1)) (lines_left c.get-self.result)
step c = next_numbered _ _ _ _ c.before-line.result.now c.code_of.result.now (on c) c.code_of.ensures.value

pub returns-clause-steps : goal.returns-clause-steps
returns-clause-steps c = step c

pub returns-clause-goes : goal.returns-clause-goes
returns-clause-goes c = let shorter = ap length (step c) in search rules

pub returns-clause-stands : goal.returns-clause-stands
returns-clause-stands c = λ text h. All-head (Stand text) _ _ (subst (All (Stand text)) (step c) h)

pub returns-clause-still : goal.returns-clause-still
returns-clause-still c = λ text h. All-tail (Stand text) _ _ (subst (All (Stand text)) (step c) h)

pub returns-clause-told : goal.returns-clause-told
returns-clause-told c = next_told _ _ _ _ c.before-line.result.now c.code_of.result.now (on c) c.code_of.ensures.value

pub returns-clause-left : goal.returns-clause-left
returns-clause-left c = sym (ap tail_of (on c))

pub returns-clause-place : goal.returns-clause-place
returns-clause-place c = omega (arith, ap (next_at c.args.self.now.place) (on c))
