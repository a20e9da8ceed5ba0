-- Runs with a larger budget.
use Rattle.std.proofs.Common.{◌≡◌, ℕ, zero, suc, ◌+◌, ◌-◌, ◌≤◌, Bool, true, false, cond, length, Ok, Err, Result, Some, None, Option, refl, sym, ap, ◌∙◌, arith, rules, nat_le, ◌==◌}
use Rattle.machine.specs.Rules.{Rules}
use Rattle.machine.specs.Step.{State, stepped}
use Rattle.machine.specs.declared.fault.Fault.{Fault}
use Rattle.machine.specs.declared.turn.Turn.{Turn}
use Rattle.permit.specs.Rights.{Rights}
use Rattle.runs.specs.Laws.{by_itself, ended_so, SameUnderLargerBudgets}
use Rattle.runs.specs.Runs.{Ran, ran, later, goes_on, end_of, Settings, Held, called_by, after_run}
use Rattle.runs.specs.declared.refusal.CallRefusal.TheVariants.{OtherMemory, HasExited, BudgetTooLarge}
use Rattle.runs.specs.declared.report.Ending.{Ending}
use Rattle.runs.proofs.Runs.{run_none, run_some}

-- a run that goes on after a step, and ends by itself
goes_longer : (t : Result Turn Fault) (o : Option Ending) (s : State) (a b : Ran) → by_itself (goes_on t o s a).report.ending ≡ true → (by_itself a.report.ending ≡ true → b ≡ a) → goes_on t o s b ≡ goes_on t o s a
goes_longer t None s a b h f = ap (later 1) (f h)
goes_longer t (Some e) s a b h f = refl

-- a run that ends by itself is the same with more budget
pub run_longer : (r : Rules) (n k : ℕ) (s : State) → by_itself (ran r n s).report.ending ≡ true → ran r (n + k) s ≡ ran r n s
run_longer r zero k s h = let e = rw (run_none r s) at h in cc
run_longer r (suc n) k s h =
    let sum : suc n + k ≡ suc (n + k) = omega arith in
    let one = run_some r n s in
    let more = run_some r (n + k) s in
    let same = goes_longer (stepped r s).turn (end_of (stepped r s).turn) (stepped r s).state (ran r n (stepped r s).state) (ran r (n + k) (stepped r s).state) (rw one at h) (run_longer r n k (stepped r s).state) in
    ap (λ m. ran r m s) sum ∙ more ∙ same ∙ sym one

-- the same with both budgets
run_up_to : (r : Rules) (b n : ℕ) (s : State) → b ≤ n → by_itself (ran r b s).report.ending ≡ true → ran r n s ≡ ran r b s
run_up_to r b n s low so =
    let sum : n ≡ b + (n - b) = omega (arith, low) in
    ap (λ m. ran r m s) sum ∙ run_longer r b (n - b) s so

-- a call
called_longer : (h : Held) (rights : Rights) (b n : ℕ) (a e d : Bool) → b ≤ n → ended_so by_itself (called_by h rights (cond a (cond e (Err HasExited) (cond d (Ok b) (Err BudgetTooLarge))) (Err OtherMemory))).answer ≡ true → called_by h rights (cond a (cond e (Err HasExited) (cond true (Ok n) (Err BudgetTooLarge))) (Err OtherMemory)) ≡ called_by h rights (cond a (cond e (Err HasExited) (cond d (Ok b) (Err BudgetTooLarge))) (Err OtherMemory))
called_longer h rights b n false e d low so = cc
called_longer h rights b n true true d low so = cc
called_longer h rights b n true false false low so = cc
called_longer h rights b n true false true low so =
    ap (λ r. record { answer = Ok r.report; held = after_run h.machine r })
    (run_up_to _ b n _ low so)

-- a run that ends by itself is the same under every larger lawful budget
pub same_under_larger : (s : Settings) (h : Held) → SameUnderLargerBudgets s h
same_under_larger s h n low high so =
    let lawful : nat_le n 100_000_000 ≡ true = search (rules, high) in
    rw lawful (called_longer h s.rights s.budget n (length h.cells == h.machine.size) h.machine.exited (nat_le s.budget 100_000_000) low so)
