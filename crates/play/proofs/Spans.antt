-- Parts of a run.
use Rattle.std.proofs.Common.{◌≡◌, ℕ, ◌+◌, ◌-◌, ◌^◌, ◌<◌, ◌≤◌, Bool, true, false, cond, length, Ok, Err, Result, refl, sym, ap, ◌∙◌, arith, rules, nat_le, ◌==◌}
use Rattle.machine.specs.Step.{state}
use Rattle.permit.specs.Rights.{Rights}
use Rattle.runs.specs.Laws.{by_itself, ended_so}
use Rattle.runs.specs.Runs.{Held, Called, Settings, called, called_by, has_exited}
use Rattle.runs.specs.declared.refusal.CallRefusal.{CallRefusal}
use Rattle.runs.specs.declared.refusal.CallRefusal.TheVariants.{OtherMemory, HasExited, BudgetTooLarge}
use Rattle.runs.specs.declared.report.Ending.{Ending}
use Rattle.runs.specs.declared.report.Ending.TheVariants.{Spent, Halted, Exited, Fault as Faulted}
use Rattle.runs.specs.declared.report.Report.{Report}
use Rattle.runs.proofs.Faulting.{run_bounded}
use Rattle.runs.proofs.Larger.{same_under_larger}
use Rattle.runs.proofs.Summed.{called_sum}

-- a run of all but some steps of a budget: its report, what is left by it, and that its memory is still as long
pub record Span (s : Settings) (left : ℕ) (h : Held) (r : Report) (here : Held) : Type 0 where
  pub low : s.budget ≤ 100_000_000
  pub few : left ≤ s.budget
  pub is : called (record { rights = s.rights; budget = s.budget - left }) h ≡ record { answer = Ok r; held = here }
  pub long : length here.cells ≡ length h.cells

-- what refuses one lawful budget refuses every other
pub refused_alike : (h : Held) (p : Rights) (a b : ℕ) (q : CallRefusal) → a ≤ 100_000_000 → b ≤ 100_000_000
    → (called (record { rights = p; budget = a }) h).answer ≡ Err q → called (record { rights = p; budget = b }) h ≡ record { answer = Err q; held = h }
refused_alike h p a b q low few is =
    by_cases (length h.cells == h.machine.size) h.machine.exited (nat_le a 100_000_000) (nat_le b 100_000_000) (search (rules, low)) (search (rules, few)) is
  where
    by_cases : (x e d f : Bool) → d ≡ true → f ≡ true
        → (called_by h p (cond x (cond e (Err HasExited) (cond d (Ok a) (Err BudgetTooLarge))) (Err OtherMemory))).answer ≡ Err q
        → ◌≡◌ {A = Called} (called_by h p (cond x (cond e (Err HasExited) (cond f (Ok b) (Err BudgetTooLarge))) (Err OtherMemory))) (record { answer = Err q; held = h })
    by_cases false e d f good fine is = cc
    by_cases true true d f good fine is = cc
    by_cases true false false f good fine is = cc
    by_cases true false true f good fine is = let no : ◌≡◌ {A = Result Report CallRefusal} (Ok _) (Err q) = is in cc

-- after a spent run a lawful one is taken, if the memory is still as long
pub taken_again : (h here : Held) (p : Rights) (a b : ℕ) (r : Report) (q : CallRefusal) → b ≤ 100_000_000
    → called (record { rights = p; budget = a }) h ≡ record { answer = Ok r; held = here } → r.ending ≡ Spent → length here.cells ≡ length h.cells
    → (called (record { rights = p; budget = b }) here).answer ≡ Err q → ⊥
taken_again h here p a b r q few is so long refused =
    let kept = first (length h.cells == h.machine.size) h.machine.exited (nat_le a 100_000_000) is in
    let same : (length here.cells == here.machine.size) ≡ true = ap (λ n. n == here.machine.size) long ∙ ap (λ n. length h.cells == n) kept.1 ∙ kept.0 in
    second (length here.cells == here.machine.size) here.machine.exited (nat_le b 100_000_000) same kept.2 (search (rules, few)) refused
  where
    first : (x e d : Bool) → called_by h p (cond x (cond e (Err HasExited) (cond d (Ok a) (Err BudgetTooLarge))) (Err OtherMemory)) ≡ record { answer = Ok r; held = here }
        → (x ≡ true) × (here.machine.size ≡ h.machine.size) × (here.machine.exited ≡ false)
    first false e d eq = let no : ◌≡◌ {A = Result Report CallRefusal} (Err OtherMemory) (Ok r) = ap (λ c. c.answer) eq in cc
    first true true d eq = let no : ◌≡◌ {A = Result Report CallRefusal} (Err HasExited) (Ok r) = ap (λ c. c.answer) eq in cc
    first true false false eq = let no : ◌≡◌ {A = Result Report CallRefusal} (Err BudgetTooLarge) (Ok r) = ap (λ c. c.answer) eq in cc
    first true false true eq =
        let ends : ◌≡◌ {A = Result Report CallRefusal} _ (Ok r) = ap (λ c. c.answer) eq in
        let left = ap (λ c. c.held) eq in
        (refl, ap (λ x. x.machine.size) (sym left), ap (λ x. x.machine.exited) (sym left) ∙ told ends ∙ ap has_exited so)
      where
        told : {r' : Report} → ◌≡◌ {A = Result Report CallRefusal} (Ok r') (Ok r) → has_exited r'.ending ≡ has_exited r.ending
        told e = cc

    second : (x e d : Bool) → x ≡ true → e ≡ false → d ≡ true → (called_by here p (cond x (cond e (Err HasExited) (cond d (Ok b) (Err BudgetTooLarge))) (Err OtherMemory))).answer ≡ Err q → ⊥
    second x e d is not low eq = cc

-- a run that is spent goes on
pub span_more : (s : Settings) (left part : ℕ) (h here after : Held) (r₀ r₁ r : Report) → Span s left h r₀ here → r₀.ending ≡ Spent → part ≤ left
    → called (record { rights = s.rights; budget = part }) here ≡ record { answer = Ok r₁; held = after } → length after.cells ≡ length here.cells
    → r ≡ record { steps = r₀.steps + r₁.steps; ending = r₁.ending } → Span s (left - part) h r after
span_more s left part h here after r₀ r₁ r span so few then long is = record {
  low = span.low;
  few = omega (arith, span.few);
  is = ap (λ n. called (record { rights = s.rights; budget = n }) h) (omega (arith, few, span.few))
      ∙ called_sum h s.rights (s.budget - left) part r₀ r₁ here after span.is so then (omega (arith, few, span.few, span.low))
      ∙ ap (λ x. record { answer = Ok x; held = after }) (sym is);
  long = long ∙ span.long;
}

-- a run that used up its budget is the whole run
pub span_whole : (s : Settings) (left : ℕ) (h here : Held) (r : Report) → Span s left h r here → left ≤ 0 → called s h ≡ record { answer = Ok r; held = here }
span_whole s left h here r span none = ap (λ n. called (record { rights = s.rights; budget = n }) h) (omega (arith, none)) ∙ span.is

-- an ending other than spent is that of a run that ended by itself
pub ends_itself : (e : Ending) → (e ≡ Spent → ⊥) → by_itself e ≡ true
ends_itself Spent not = absurd (not refl)
ends_itself Halted not = refl
ends_itself (Exited n) not = refl
ends_itself (Faulted f) not = refl

-- and a run that ended by itself is the whole run
pub span_ends : (s : Settings) (left : ℕ) (h here : Held) (r : Report) → Span s left h r here → (r.ending ≡ Spent → ⊥) → called s h ≡ record { answer = Ok r; held = here }
span_ends s left h here r span not =
    same_under_larger (record { rights = s.rights; budget = s.budget - left }) h s.budget (omega arith) span.low (ap (λ c. ended_so by_itself c.answer) span.is ∙ ends_itself r.ending not) ∙ span.is

-- what a call answers and what it leaves are the call
pub both_parts : (x : Called) (r : Report) (after : Held) → Ok r ≡ x.answer → after ≡ x.held → x ≡ record { answer = Ok r; held = after }
both_parts x r after answer left = sym (ap (λ a. record { answer = a; held = after }) answer ∙ ap (λ h. record { answer = x.answer; held = h }) left)

-- a run takes at most as many steps as its budget has
pub call_bounded : (s : Settings) (h : Held) (r : Report) → Ok r ≡ (called s h).answer → r.steps ≤ s.budget
call_bounded s h r is = by_cases (length h.cells == h.machine.size) h.machine.exited (nat_le s.budget 100_000_000) is
  where
    by_cases : (x e d : Bool) → Ok r ≡ (called_by h s.rights (cond x (cond e (Err HasExited) (cond d (Ok s.budget) (Err BudgetTooLarge))) (Err OtherMemory))).answer → r.steps ≤ s.budget
    by_cases false e d eq = let off : ◌≡◌ {A = Result Report CallRefusal} (Ok r) (Err OtherMemory) = eq in cc
    by_cases true true d eq = let off : ◌≡◌ {A = Result Report CallRefusal} (Ok r) (Err HasExited) = eq in cc
    by_cases true false false eq = let off : ◌≡◌ {A = Result Report CallRefusal} (Ok r) (Err BudgetTooLarge) = eq in cc
    by_cases true false true eq = omega (arith, steps eq, run_bounded (record { rights = s.rights; layout = h.machine.layout }) s.budget (state h.machine.core h.cells h.meaning))
      where
        steps : {x : Report} → ◌≡◌ {A = Result Report CallRefusal} (Ok r) (Ok x) → r.steps ≡ x.steps
        steps e = cc

-- the steps of two parts
pub parts_bounded : (s : Settings) (left part : ℕ) (h here : Held) (r₀ r₁ : Report) → Span s left h r₀ here → part ≤ left → Ok r₁ ≡ (called (record { rights = s.rights; budget = part }) here).answer → r₀.steps + r₁.steps < 2 ^ 32
parts_bounded s left part h here r₀ r₁ span few is =
    omega (arith, span.low, few, span.few, call_bounded (record { rights = s.rights; budget = s.budget - left }) h r₀ (sym (ap (λ c. c.answer) span.is)), call_bounded (record { rights = s.rights; budget = part }) here r₁ is)
