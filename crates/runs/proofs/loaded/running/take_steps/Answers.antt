use Rattle.std.proofs.Common.{◌≡◌, ◌+◌, Some, None, ap, sym, ◌∙◌, rules}
use Rattle.machine.specs.Cores.{core_of}
use Rattle.machine.specs.Rules.{rules_of}
use Rattle.machine.specs.Step.{state, stepped}
use Rattle.runs.specs.Runs.{counted, end_of}
use Rattle.runs.proofs.Runs.{run_goes_on, run_ends, run_spent}
use Rattle.runs.proofs.loaded.running.take_steps.Goals as goal

pub returns-in-Some-clause-report : goal.returns-in-Some-clause-report
returns-in-Some-clause-report g c =
    let now = state (core_of c.loop-steps.processor) c.loop-steps.cells (g.H.Host.meaning c.loop-steps.host) in
    let is : end_of (stepped (rules_of c.args.rules.now) now).turn ≡ Some c.in-Some.ending = ap end_of (sym c.step-answer.ensures.value) ∙ sym c.end_of.ensures ∙ c.in-Some.is in
    let count : c.from.result ≡ counted c.step-answer.result = search rules in
    let end = run_ends (rules_of c.args.rules.now) c.args.budget c.loop-steps.steps now c.in-Some.ending _ c.loop-steps-test.true c.loop-steps.invariant.0 is in
    sym (ap (λ x. x.report) end ∙ ap (λ n. record { steps = c.loop-steps.steps + n; ending = c.in-Some.ending }) (ap counted (sym c.step-answer.ensures.value) ∙ sym count))

pub returns-in-Some-clause-after : goal.returns-in-Some-clause-after
returns-in-Some-clause-after g c =
    let now = state (core_of c.loop-steps.processor) c.loop-steps.cells (g.H.Host.meaning c.loop-steps.host) in
    let is : end_of (stepped (rules_of c.args.rules.now) now).turn ≡ Some c.in-Some.ending = ap end_of (sym c.step-answer.ensures.value) ∙ sym c.end_of.ensures ∙ c.in-Some.is in
    let end = run_ends (rules_of c.args.rules.now) c.args.budget c.loop-steps.steps now c.in-Some.ending _ c.loop-steps-test.true c.loop-steps.invariant.0 is in
    c.step-answer.ensures.after ∙ sym (ap (λ x. x.state) end)

pub loop-steps-preserved : goal.loop-steps-preserved
loop-steps-preserved g c =
    let now = state (core_of c.loop-steps.processor) c.loop-steps.cells (g.H.Host.meaning c.loop-steps.host) in
    let none : c.end_of.result ≡ None = search rules in
    let is : end_of (stepped (rules_of c.args.rules.now) now).turn ≡ None = ap end_of (sym c.step-answer.ensures.value) ∙ sym c.end_of.ensures ∙ none in
    (run_goes_on (rules_of c.args.rules.now) c.args.budget c.loop-steps.steps now _ _ c.loop-steps-test.true c.loop-steps.invariant.0 is c.step-answer.ensures.after, c.step-answer.ensures.lender ∙ c.loop-steps.invariant.1)

pub returns-clause-report : goal.returns-clause-report
returns-clause-report g c =
    let now = state (core_of c.loop-steps.processor) c.loop-steps.cells (g.H.Host.meaning c.loop-steps.host) in
    sym (ap (λ x. x.report) (run_spent (rules_of c.args.rules.now) c.args.budget c.loop-steps.steps now _ c.loop-steps-test.false c.loop-steps.auto.steps-end c.loop-steps.invariant.0))

pub returns-clause-after : goal.returns-clause-after
returns-clause-after g c =
    let now = state (core_of c.loop-steps.processor) c.loop-steps.cells (g.H.Host.meaning c.loop-steps.host) in
    sym (ap (λ x. x.state) (run_spent (rules_of c.args.rules.now) c.args.budget c.loop-steps.steps now _ c.loop-steps-test.false c.loop-steps.auto.steps-end c.loop-steps.invariant.0))
