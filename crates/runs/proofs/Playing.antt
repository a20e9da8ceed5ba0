-- A list of requests, one after the other.
use Rattle.std.proofs.Common.{◌≡◌, ℕ, ◌+◌, ◌≤◌, ◌<◌, false, List, [], ◌∷◌, length, drop, get_or, Some, None, Option, refl, sym, ap, ◌∙◌, arith}
use Rattle.std.proofs.lemmas.List.{drop_all, drop_more}
use Rattle.runs.specs.Parts.{Total, joined, after_runs, budget_of, only, after_run_by, after_answer, answered_under, parts}
use Rattle.runs.specs.Runs.{Held}
use Rattle.runs.specs.declared.report.Ending.{Ending}
use Rattle.runs.specs.declared.report.Ending.TheVariants.{Spent, Halted, Exited, Fault as Faulted}
use Rattle.runs.specs.declared.report.Report.{Report}
use Rattle.runs.specs.declared.request.Answer.{Answer}
use Rattle.runs.specs.declared.request.Answer.TheVariants.{Ran, Saw, Refused}
use Rattle.runs.specs.declared.request.PermittedRequest.{PermittedRequest}
use Rattle.runs.proofs.InParts.{parts_none, parts_some}
use Rattle.runs.proofs.Requested.{is_ran}

-- counts are added one after the other
joined_joined : (a : Option Report) (r : Report) (c : Option Report) → joined (joined a (Some r)) c ≡ joined a (joined (Some r) c)
joined_joined None r c = refl
joined_joined (Some a) r None = refl
joined_joined (Some a) r (Some c) = let sum : a.steps + r.steps + c.steps ≡ a.steps + (r.steps + c.steps) = omega arith in ap (λ n. Some (record { steps = n; ending = c.ending })) sum

-- runs before runs
after_after : (b n : ℕ) (a : Option Report) (r : Report) (t : Total) → after_runs b a (after_runs n (Some r) t) ≡ after_runs (b + n) (joined a (Some r)) t
after_after b n a r t =
    let sum : b + (n + t.budget) ≡ b + n + t.budget = omega arith in
    ap (λ k. record { budget = k; report = joined a (joined (Some r) t.report); held = t.held; other = t.other }) sum
    ∙ ap (λ o. record { budget = b + n + t.budget; report = o; held = t.held; other = t.other }) (sym (joined_joined a r t.report))

-- a request at a place of a list
pub record IsAt (xs : List PermittedRequest) (i : ℕ) (x : PermittedRequest) : Type 0 where
  pub in_list : i < length xs
  pub is : x ≡ get_or xs i x

-- a list from a place on
from_here : (xs : List PermittedRequest) (i : ℕ) (x : PermittedRequest) (h : Held) (o : List ℕ) → IsAt xs i x
    → parts (drop i xs) h o ≡ after_answer (budget_of x.request.call) (answered_under x h o).answer (answered_under x h o).held (answered_under x h o).other (parts (drop (i + 1) xs) (answered_under x h o).held (answered_under x h o).other)
from_here xs i x h o at =
    ap (λ ys. parts ys h o) (drop_more xs i x at.in_list ∙ ap (λ y. y ∷ drop (i + 1) xs) (sym at.is)) ∙ parts_some x (drop (i + 1) xs) h o

-- where a loop over a list stands: the runs so far, and what is left to do from a place on
abbrev pub StandsAt : List PermittedRequest → Total → ℕ → Option Report → ℕ → Held → List ℕ → Type 0
StandsAt xs whole b a i h o = whole ≡ after_runs b a (parts (drop i xs) h o)

-- what a request at a place of a list answers and leaves
pub record AnswersAt (x : PermittedRequest) (h : Held) (o : List ℕ) (a : Answer) (here : Held) (now : List ℕ) : Type 0 where
  pub answer : a ≡ (answered_under x h o).answer
  pub held : here ≡ (answered_under x h o).held
  pub other : now ≡ (answered_under x h o).other

-- the whole, by the request at that place
stands_by : (xs : List PermittedRequest) (whole : Total) (i : ℕ) (x : PermittedRequest) (h here : Held) (o now : List ℕ) (b : ℕ) (a : Option Report) (r : Answer) → IsAt xs i x
    → StandsAt xs whole b a i h o → AnswersAt x h o r here now
    → whole ≡ after_runs b a (after_answer (budget_of x.request.call) r here now (parts (drop (i + 1) xs) here now))
stands_by xs whole i x h here o now b a r here_is is at =
    is ∙ ap (after_runs b a) (from_here xs i x h o here_is
    ∙ ap (λ q. after_answer (budget_of x.request.call) q (answered_under x h o).held (answered_under x h o).other (parts (drop (i + 1) xs) (answered_under x h o).held (answered_under x h o).other)) (sym at.answer)
    ∙ ap (λ k. after_answer (budget_of x.request.call) r k (answered_under x h o).other (parts (drop (i + 1) xs) k (answered_under x h o).other)) (sym at.held)
    ∙ ap (λ k. after_answer (budget_of x.request.call) r here k (parts (drop (i + 1) xs) here k)) (sym at.other))

-- a spent run
spent_here : (e : Ending) (b : ℕ) (r : Report) (h : Held) (o : List ℕ) (t : Total) → e ≡ Spent → after_run_by e b r h o t ≡ after_runs b (Some r) t
spent_here e b r h o t is = ap (λ f. after_run_by f b r h o t) is

pub spent_step : (xs : List PermittedRequest) (whole : Total) (i : ℕ) (x : PermittedRequest) (h here : Held) (o now : List ℕ) (b : ℕ) (a k : Option Report) (r : Report) → IsAt xs i x
    → StandsAt xs whole b a i h o → AnswersAt x h o (Ran r) here now → r.ending ≡ Spent → k ≡ joined a (Some r)
    → (n : ℕ) × StandsAt xs whole n k (i + 1) here now
spent_step xs whole i x h here o now b a k r here_is is at so sum =
    let n = budget_of x.request.call in
    let rest = parts (drop (i + 1) xs) here now in (
      b + n,
      stands_by xs whole i x h here o now b a (Ran r) here_is is at
          ∙ ap (after_runs b a) (spent_here r.ending n r here now rest so)
          ∙ after_after b n a r rest ∙ ap (λ q. after_runs (b + n) q rest) (sym sum),
    )

-- an answer that is no run
not_ran : (o : Answer) → ((r : Report) → o ≡ Ran r → ⊥) → is_ran o ≡ false
not_ran (Ran r) f = absurd (f r refl)
not_ran (Saw v) f = refl
not_ran (Refused q) f = refl

quiet_here : (b : ℕ) (a : Answer) (h : Held) (o : List ℕ) (t : Total) → is_ran a ≡ false → after_answer b a h o t ≡ t
quiet_here b (Ran r) h o t so = cc
quiet_here b (Saw v) h o t so = refl
quiet_here b (Refused q) h o t so = refl

pub quiet_step : (xs : List PermittedRequest) (whole : Total) (i : ℕ) (x : PermittedRequest) (h here : Held) (o now : List ℕ) (b : ℕ) (a : Option Report) (r : Answer) → IsAt xs i x
    → StandsAt xs whole b a i h o → AnswersAt x h o r here now → ((s : Report) → r ≡ Ran s → ⊥)
    → (n : ℕ) × StandsAt xs whole n a (i + 1) here now
quiet_step xs whole i x h here o now b a r here_is is at none =
    (b, stands_by xs whole i x h here o now b a r here_is is at ∙ ap (after_runs b a) (quiet_here _ r here now _ (not_ran r none)))

-- a run that ends by itself
ended_here : (e : Ending) (b : ℕ) (r : Report) (h : Held) (o : List ℕ) (t : Total) → (e ≡ Spent → ⊥) → after_run_by e b r h o t ≡ only b r h o
ended_here Spent b r h o t so = absurd (so refl)
ended_here Halted b r h o t so = refl
ended_here (Exited c) b r h o t so = refl
ended_here (Faulted f) b r h o t so = refl

-- what the whole comes to
pub record ComesTo (whole : Total) (a : Option Report) (h : Held) (o : List ℕ) : Type 0 where
  pub report : whole.report ≡ a
  pub held : whole.held ≡ h
  pub other : whole.other ≡ o

pub ends_parts : (xs : List PermittedRequest) (whole : Total) (i : ℕ) (x : PermittedRequest) (h here : Held) (o now : List ℕ) (b : ℕ) (a : Option Report) (r : Report) → IsAt xs i x
    → StandsAt xs whole b a i h o → AnswersAt x h o (Ran r) here now → (r.ending ≡ Spent → ⊥)
    → ComesTo whole (joined a (Some r)) here now
ends_parts xs whole i x h here o now b a r here_is is at so =
    let end = stands_by xs whole i x h here o now b a (Ran r) here_is is at
    ∙ ap (after_runs b a) (ended_here r.ending (budget_of x.request.call) r here now (parts (drop (i + 1) xs) here now) so) in
    record { report = ap (λ t. t.report) end; held = ap (λ t. t.held) end; other = ap (λ t. t.other) end }

-- the list is through
joined_none : (a : Option Report) → joined a None ≡ a
joined_none None = refl
joined_none (Some r) = refl

pub all_parts : (xs : List PermittedRequest) (whole : Total) (i : ℕ) (h : Held) (o : List ℕ) (b : ℕ) (a : Option Report) → length xs ≤ i → StandsAt xs whole b a i h o → ComesTo whole a h o
all_parts xs whole i h o b a past is =
    let none : drop i xs ≡ [] = drop_all i xs past in
    let end = is ∙ ap (λ ys. after_runs b a (parts ys h o)) none ∙ ap (after_runs b a) (parts_none h o) in
    record { report = ap (λ t. t.report) end ∙ joined_none a; held = ap (λ t. t.held) end; other = ap (λ t. t.other) end }
