-- The fault that is told of two machines.
use Rattle.std.proofs.Common.{◌≡◌, ℕ, true, false, Bool, [], ◌∷◌, length, None, Option, Some, Ok, Err, Result, inl, inr, refl, sym, ap, ◌∙◌, subst}
use Rattle.machine.specs.declared.fault.Fault.{Fault}
use Rattle.permit.specs.Rights.{rights_of}
use Rattle.permit.specs.declared.permit.Permit.{Permit}
use Rattle.runs.specs.Compared.{Both, met, End, end_at, AfterBoth, Compared}
use Rattle.runs.specs.Laws.{by_permit, is_permit_fault}
use Rattle.runs.specs.Requests.{told}
use Rattle.runs.specs.Runs.{Held, Called, called}
use Rattle.runs.specs.declared.comparison.Outcome.TheVariants.{Same}
use Rattle.runs.specs.declared.refusal.CallRefusal.{CallRefusal}
use Rattle.runs.specs.declared.report.Ending.{Ending}
use Rattle.runs.specs.declared.report.Ending.TheVariants.{Spent, Halted, Exited, Fault as Faulted}
use Rattle.runs.specs.declared.report.Report.{Report}
use Rattle.play.specs.Parting.{fault_at, next_fault, run_under, IsMet}
use Rattle.play.proofs.Again.{met_again}

-- a run that met a permit fault
abbrev pub FaultsSo : Result Report CallRefusal → ℕ → Type 0
FaultsSo a n = (f : Fault) × (is_permit_fault f.cause ≡ true) × (a ≡ Ok (record { steps = n; ending = Faulted f }))

-- an ending that is a permit fault
ends_so : (n : ℕ) (e : Ending) → by_permit e ≡ true → FaultsSo (Ok (record { steps = n; ending = e })) n
ends_so n Spent so = cc
ends_so n Halted so = cc
ends_so n (Exited c) so = cc
ends_so n (Faulted f) so = (f, so, refl)

-- an answer that tells of one
met_so : (a : Result Report CallRefusal) (n : ℕ) → met (told a) ≡ Some n → FaultsSo a n
met_so (Err q) n e = cc
met_so (Ok r) n e = by_ending (by_permit r.ending) refl e
  where
    by_ending : (b : Bool) → by_permit r.ending ≡ b → met (told (Ok r)) ≡ Some n → FaultsSo (Ok r) n
    by_ending false is so = let other = rw is at so in cc
    by_ending true is so =
        let count : r.steps ≡ n = let other = rw is at so in cc in
        subst (FaultsSo (Ok r)) count (ends_so r.steps r.ending is)

-- by the steps to a permit fault, if the first met one
by_steps : (s : Held) (b : ℕ) (p : Permit) (now : Both) (e : End) (f : Option Fault) (k : Option ℕ) (c : Called) → called (record { rights = rights_of p; budget = b }) s ≡ c → now.first ≡ c.held
    → met (told c.answer) ≡ k → AfterBoth k 0 now e (e ≡ end_at Same now)
    → length e.both.first.cells ≡ length s.cells → f ≡ fault_at e.outcome (rights_of p) e.both.first → IsMet e.outcome f c.answer
by_steps s b p now e f None c is left none after = subst (λ (x : End). length x.both.first.cells ≡ length s.cells → f ≡ fault_at x.outcome (rights_of p) x.both.first → IsMet x.outcome f c.answer) (sym after) (λ long so. tt)
by_steps s b p now e f (Some n) c is left some after =
    subst (λ (x : End). length x.both.first.cells ≡ length s.cells → f ≡ fault_at x.outcome (rights_of p) x.both.first → IsMet x.outcome f c.answer) (sym after)
    (λ long so.
    let fault = met_so c.answer n some in
    let here : (called (record { rights = rights_of p; budget = b }) s).held ≡ now.first = ap (λ x. x.held) is ∙ sym left in
    let again = met_again s (rights_of p) b n fault.0 (ap (λ x. x.answer) is ∙ fault.2) (ap (λ x. length x.cells) here ∙ long) in
    (fault.0, so ∙ ap (λ x. next_fault (rights_of p) x) (sym here) ∙ again, fault.1, fault.2))

pub met_told : (s : Held) (b : ℕ) (p q : Permit) (e : End) (f : Option Fault) → Compared (run_under b p q ∷ []) 0 (record { first = s; second = s; other = [] }) e
    → length e.both.first.cells ≡ length s.cells → f ≡ fault_at e.outcome (rights_of p) e.both.first → IsMet e.outcome f (called (record { rights = rights_of p; budget = b }) s).answer
met_told s b p q e f (inl both) = by_steps s b p _ e f _ (called (record { rights = rights_of p; budget = b }) s) refl refl refl both.1
met_told s b p q e f (inr other) = subst (λ (x : End). length x.both.first.cells ≡ length s.cells → f ≡ fault_at x.outcome (rights_of p) x.both.first → IsMet x.outcome f (called (record { rights = rights_of p; budget = b }) s).answer) (sym other.1) (λ long so. tt)
