-- A list of requests is one run of the summed budget.
use Rattle.std.proofs.Common.{◌≡◌, ℕ, ◌+◌, ◌≤◌, Bool, true, false, List, [], ◌∷◌, length, Ok, Err, Result, Some, None, Option, refl, sym, ap, ◌∙◌, subst, arith, rules}
use Rattle.permit.specs.Rights.{Rights, rights_of}
use Rattle.runs.specs.Parts.{Total, joined, after_runs, budget_of, only, after_run_by, after_answer, answered_under, parts, AllOther, WhereSpent, WhereTaken, RunsUnder, OneRunOfTheSum, LeavesOther}
use Rattle.runs.specs.Requests.{told, seen, answered_with, cells_in, IsOther}
use Rattle.runs.specs.Runs.{Held, held, Called, called, called_by, run_asked}
use Rattle.runs.specs.declared.refusal.CallRefusal.{CallRefusal}
use Rattle.runs.specs.declared.report.Ending.{Ending}
use Rattle.runs.specs.declared.report.Ending.TheVariants.{Spent, Halted, Exited, Fault as Faulted}
use Rattle.runs.specs.declared.report.Report.{Report}
use Rattle.runs.specs.declared.request.Answer.{Answer}
use Rattle.runs.specs.declared.request.Answer.TheVariants.{Ran, Saw, Refused}
use Rattle.runs.specs.declared.request.Call.{Call}
use Rattle.runs.specs.declared.request.Call.TheVariants.{Run, Register, Flags, Cell}
use Rattle.runs.specs.declared.request.Memory.{Memory}
use Rattle.runs.specs.declared.request.Memory.TheVariants.{Own, Other}
use Rattle.runs.specs.declared.request.PermittedRequest.{PermittedRequest}
use Rattle.runs.proofs.Requested.{is_ran, answered_other, other_answer, other_quiet, size_kept, other_kept}
use Rattle.runs.proofs.Summed.{called_sum}

-- the requests in turn
pub parts_none : (h : Held) (o : List ℕ) → parts [] h o ≡ record { budget = 0; report = None; held = h; other = o }
unfolding parts
parts_none h o = refl

pub parts_some : (x : PermittedRequest) (xs : List PermittedRequest) (h : Held) (o : List ℕ)
    → parts (x ∷ xs) h o ≡ after_answer (budget_of x.request.call) (answered_under x h o).answer (answered_under x h o).held (answered_under x h o).other (parts xs (answered_under x h o).held (answered_under x h o).other)
unfolding parts
parts_some x xs h o = refl

runs_some : (p : Rights) (x : PermittedRequest) (xs : List PermittedRequest) (h : Held) (o : List ℕ) → RunsUnder p (x ∷ xs) h o
    → WhereTaken (answered_under x h o).answer (rights_of x.permit ≡ p) (RunsUnder p xs (answered_under x h o).held (answered_under x h o).other)
unfolding RunsUnder
runs_some p x xs h o u = u

-- a run that was taken is the call
told_ran : (c : Called) (r : Report) → told c.answer ≡ Ran r → ◌≡◌ {A = Called} c (record { answer = Ok r; held = c.held })
told_ran c r e = by c.answer refl e
  where
    by : (a : Result Report CallRefusal) → c.answer ≡ a → told a ≡ Ran r → ◌≡◌ {A = Called} c (record { answer = Ok r; held = c.held })
    by (Ok s) i e = let same : s ≡ r = cc in ap (λ o. record { answer = o; held = c.held }) (i ∙ ap Ok same)
    by (Err q) i e = cc

-- no look answers that a run was taken
seen_ran : (a : Result ℕ CallRefusal) (r : Report) → seen a ≡ Ran r → ⊥
seen_ran (Ok v) r e = cc
seen_ran (Err q) r e = cc

-- a refused run leaves everything
run_quiet : (p : Rights) (h : Held) (r : Result ℕ CallRefusal) → is_ran (told (called_by h p r).answer) ≡ false → (called_by h p r).held ≡ h
run_quiet p h (Ok n) e = cc
run_quiet p h (Err q) e = refl

-- what is no run that was taken leaves everything
quiet : (p : Rights) (c : Call) (m : Memory) (h : Held) (o : List ℕ) → IsOther h.machine.size o m → is_ran (answered_with p c m h o).answer ≡ false → (answered_with p c m h o).held ≡ h
quiet p c (Other part) h o apart e = ap (λ a. a.held) (answered_other p c part h o apart)
quiet p (Run n) Own h o apart e = run_quiet p h (run_asked h.machine (length h.cells) n) e
quiet p (Register r) Own h o apart e = refl
quiet p Flags Own h o apart e = refl
quiet p (Cell a) Own h o apart e = refl

-- a run that was taken is a run with the machine's own memory
own_run : (p : Rights) (c : Call) (m : Memory) (h : Held) (o : List ℕ) (r : Report) → IsOther h.machine.size o m → (answered_with p c m h o).answer ≡ Ran r
    → called (record { rights = p; budget = budget_of c }) h ≡ record { answer = Ok r; held = (answered_with p c m h o).held }
own_run p c (Other part) h o r apart e = absurd (no_run (sym (other_quiet c (held h.machine (cells_in part o) h.meaning)) ∙ ap is_ran (sym (ap (λ a. a.answer) (answered_other p c part h o apart)) ∙ e)))
  where
    no_run : false ≡ true → ⊥
    no_run i = cc
own_run p (Run n) Own h o r apart e = told_ran (called (record { rights = p; budget = n }) h) r e
own_run p (Register k) Own h o r apart e = absurd (seen_ran _ r e)
own_run p Flags Own h o r apart e = absurd (looked e)
  where
    looked : Saw h.machine.core.flags ≡ Ran r → ⊥
    looked i = cc
own_run p (Cell a) Own h o r apart e = absurd (seen_ran _ r e)

-- what is handed in afterwards is another memory still
still_other : (x : PermittedRequest) (xs : List PermittedRequest) (h : Held) (o : List ℕ) → IsOther h.machine.size o x.request.memory → AllOther h.machine.size o xs
    → AllOther (answered_under x h o).held.machine.size (answered_under x h o).other xs
still_other x xs h o apart rest =
    rw (size_kept (rights_of x.permit) x.request.call x.request.memory h o apart, other_kept (rights_of x.permit) x.request.call x.request.memory h o apart) rest

-- where no run was taken, nothing is left different
nothing_by : (b : ℕ) (a : Answer) (h here : Held) (o : List ℕ) (t : Total) → (is_ran a ≡ false → here ≡ h) → (t.report ≡ None → (t.budget ≡ 0) × (t.held ≡ here)) → (after_answer b a here o t).report ≡ None
    → ((after_answer b a here o t).budget ≡ 0) × ((after_answer b a here o t).held ≡ h)
nothing_by b (Saw v) h here o t same rest e = ((rest e).0, (rest e).1 ∙ same refl)
nothing_by b (Refused q) h here o t same rest e = ((rest e).0, (rest e).1 ∙ same refl)
nothing_by b (Ran r) h here o t same rest e = absurd (by r.ending t.report e)
  where
    by : (f : Ending) (k : Option Report) → (after_run_by f b r here o t).report ≡ None → ⊥
    by Spent k i = joined_some t.report i
      where
        joined_some : (k : Option Report) → joined (Some r) k ≡ None → ⊥
        joined_some None j = cc
        joined_some (Some s) j = cc
    by Halted k i = cc
    by (Exited c) k i = cc
    by (Faulted f) k i = cc

nothing_taken : (xs : List PermittedRequest) (h : Held) (o : List ℕ) → AllOther h.machine.size o xs → (parts xs h o).report ≡ None → ((parts xs h o).budget ≡ 0) × ((parts xs h o).held ≡ h)
nothing_taken [] h o others e = (ap (λ t. t.budget) (parts_none h o), ap (λ t. t.held) (parts_none h o))
nothing_taken (x ∷ xs) h o others e =
    let a = answered_under x h o in
    let n = nothing_by (budget_of x.request.call) a.answer h a.held a.other (parts xs a.held a.other) (quiet (rights_of x.permit) x.request.call x.request.memory h o others.0)
    (nothing_taken xs a.held a.other (still_other x xs h o others.0 others.1)) (sym (ap (λ t. t.report) (parts_some x xs h o)) ∙ e) in
    (ap (λ t. t.budget) (parts_some x xs h o) ∙ n.0, ap (λ t. t.held) (parts_some x xs h o) ∙ n.1)

-- the law, for one part after another
abbrev Law : Rights → Held → Total → Type 0
Law p h t = (r : Report) → t.report ≡ Some r → t.budget ≤ 100_000_000 → ◌≡◌ {A = Called} (called (record { rights = p; budget = t.budget }) h) (record { answer = Ok r; held = t.held })

-- a spent run, and what follows it
spent_first : (p : Rights) (b : ℕ) (h here : Held) (r₀ : Report) (t : Total) (o : Option Report) → t.report ≡ o
    → ◌≡◌ {A = Called} (called (record { rights = p; budget = b }) h) (record { answer = Ok r₀; held = here }) → r₀.ending ≡ Spent
    → Law p here t → (t.report ≡ None → (t.budget ≡ 0) × (t.held ≡ here)) → Law p h (after_runs b (Some r₀) t)
spent_first p b h here r₀ t None e is so law nothing r some low =
    let none = nothing e in
    let same : r₀ ≡ r = let i = rw e at some in cc in
    let sum : b + t.budget ≡ b = ap (λ n. b + n) none.0 ∙ omega arith in
    ap (λ n. called (record { rights = p; budget = n }) h) sum ∙ is
    ∙ ap (λ x. record { answer = Ok x; held = here }) same ∙ ap (λ x. record { answer = Ok r; held = x }) (sym none.1)
spent_first p b h here r₀ t (Some s) e is so law nothing r some low =
    let few : t.budget ≤ 100_000_000 = omega (arith, low) in
    let same : record { steps = r₀.steps + s.steps; ending = s.ending } ≡ r = let i = rw e at some in cc in
    called_sum h p b t.budget r₀ s here t.held is so (law s e few) low
    ∙ ap (λ x. record { answer = Ok x; held = t.held }) same

-- a run, by how it ended
run_first : (p : Rights) (b : ℕ) (h here : Held) (o : List ℕ) (r₀ : Report) (t : Total) (e : Ending) (rest : Type 0) → r₀.ending ≡ e → WhereSpent e rest
    → ◌≡◌ {A = Called} (called (record { rights = p; budget = b }) h) (record { answer = Ok r₀; held = here })
    → (rest → Law p here t) → (t.report ≡ None → (t.budget ≡ 0) × (t.held ≡ here)) → Law p h (after_run_by e b r₀ here o t)
run_first p b h here o r₀ t Spent rest so under is law nothing r some low = spent_first p b h here r₀ t t.report refl is so (law under) nothing r some low
run_first p b h here o r₀ t Halted rest so under is law nothing r some low = let same : r₀ ≡ r = cc in is ∙ ap (λ x. record { answer = Ok x; held = here }) same
run_first p b h here o r₀ t (Exited c) rest so under is law nothing r some low = let same : r₀ ≡ r = cc in is ∙ ap (λ x. record { answer = Ok x; held = here }) same
run_first p b h here o r₀ t (Faulted f) rest so under is law nothing r some low = let same : r₀ ≡ r = cc in is ∙ ap (λ x. record { answer = Ok x; held = here }) same

-- an answer, and what follows it
answer_first : (p q : Rights) (b : ℕ) (a : Answer) (h here : Held) (o : List ℕ) (t : Total) (rest : Type 0)
    → ((r : Report) → a ≡ Ran r → ◌≡◌ {A = Called} (called (record { rights = q; budget = b }) h) (record { answer = Ok r; held = here }))
    → (is_ran a ≡ false → here ≡ h) → WhereTaken a (q ≡ p) rest → (rest → Law p here t) → (t.report ≡ None → (t.budget ≡ 0) × (t.held ≡ here)) → Law p h (after_answer b a here o t)
answer_first p q b (Ran r₀) h here o t rest ran same under law nothing r some low =
    run_first p b h here o r₀ t r₀.ending rest refl under.1 (ap (λ (k : Rights). called (record { rights = k; budget = b }) h) (sym under.0) ∙ ran r₀ refl) law nothing r some low
answer_first p q b (Saw v) h here o t rest ran same under law nothing r some low = ap (called (record { rights = p; budget = t.budget })) (sym (same refl)) ∙ law under r some low
answer_first p q b (Refused f) h here o t rest ran same under law nothing r some low = ap (called (record { rights = p; budget = t.budget })) (sym (same refl)) ∙ law under r some low

-- all runs of a list are one run of the summed budget
pub one_run : (p : Rights) (xs : List PermittedRequest) (h : Held) (o : List ℕ) → OneRunOfTheSum p xs h o
one_run p [] h o others under r some low = let no = rw (parts_none h o) at some in cc
one_run p (x ∷ xs) h o others under r some low =
    let a = answered_under x h o in
    let later = still_other x xs h o others.0 others.1 in
    rw (parts_some x xs h o) (answer_first p (rights_of x.permit) (budget_of x.request.call) a.answer h a.held a.other (parts xs a.held a.other) (RunsUnder p xs a.held a.other)
    (λ r e. own_run (rights_of x.permit) x.request.call x.request.memory h o r others.0 e) (quiet (rights_of x.permit) x.request.call x.request.memory h o others.0)
    (runs_some p x xs h o under) (one_run p xs a.held a.other later) (nothing_taken xs a.held a.other later) r (rw (parts_some x xs h o) at some) (rw (parts_some x xs h o) at low))

-- the other memory after an answer, and after what follows it
other_first : (b : ℕ) (a : Answer) (here : Held) (o : List ℕ) (t : Total) → t.other ≡ o → (after_answer b a here o t).other ≡ o
other_first b (Saw v) here o t same = same
other_first b (Refused q) here o t same = same
other_first b (Ran r) here o t same = by r.ending
  where
    by : (e : Ending) → (after_run_by e b r here o t).other ≡ o
    by Spent = same
    by Halted = refl
    by (Exited c) = refl
    by (Faulted f) = refl

-- the other memory is never written
pub leaves_other : (xs : List PermittedRequest) (h : Held) (o : List ℕ) → LeavesOther xs h o
leaves_other [] h o others = ap (λ t. t.other) (parts_none h o)
leaves_other (x ∷ xs) h o others =
    let a = answered_under x h o in
    ap (λ t. t.other) (parts_some x xs h o)
    ∙ other_first (budget_of x.request.call) a.answer a.held a.other (parts xs a.held a.other) (leaves_other xs a.held a.other (still_other x xs h o others.0 others.1))
    ∙ other_kept (rights_of x.permit) x.request.call x.request.memory h o others.0
