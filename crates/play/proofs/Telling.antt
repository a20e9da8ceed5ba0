-- What is told of the parts of a run.
use Rattle.std.proofs.Common.{◌≡◌, ℕ, zero, suc, ◌+◌, ◌-◌, ◌*◌, ◌<◌, ◌≤◌, ◌⊎◌, inl, inr, Bool, true, false, cond, min, not, List, [], ◌∷◌, ◌++◌, length, map, Ok, Err, Result, refl, sym, ap, subst, ◌∙◌, arith, rules, nat_le, ◌==◌}
use Rattle.std.proofs.lemmas.Grind.{div_ceil_times}
use Rattle.std.proofs.lemmas.List.{map-append}
use Rattle.std.proofs.lemmas.List.FromFn.{filter_of_map_range_with_len_more}
use Rattle.std.specs.Int.{div_ceil}
use Rattle.std.specs.List.{filter, range_with_len}
use Rattle.permit.specs.Rights.{Rights}
use Rattle.runs.specs.Laws.{by_itself, ended_so}
use Rattle.runs.specs.Machines.{Machine}
use Rattle.runs.specs.Runs.{Held, Settings, called, called_by, after_run}
use Rattle.runs.specs.declared.refusal.CallRefusal.{CallRefusal}
use Rattle.runs.specs.declared.refusal.CallRefusal.TheVariants.{OtherMemory, HasExited, BudgetTooLarge}
use Rattle.runs.specs.declared.report.Ending.TheVariants.{Spent}
use Rattle.runs.specs.declared.report.Report.{Report}
use Rattle.runs.proofs.Larger.{same_under_larger}
use Rattle.play.specs.Waiting.{tape_left}
use Rattle.play.specs.Watched.{Told, how_far, is_taken, after_part, told_of, told_by, told_if_run, told_of_whole, told_once_ready, HearsAll}
use Rattle.play.specs.Whole.{Orders, ready, run_by, run_from, whole_run}
use Rattle.play.specs.declared.refusal.Refusal.{Refusal}
use Rattle.play.proofs.Spans.{Span}

-- what is told of the first parts
abbrev pub told_first : List ℕ → Settings → Held → ℕ → List Told
told_first rs s h n = map (after_part rs s h) (filter (is_taken s.rights h) (map (λ k. k * 5_000_000) (range_with_len 0 n)))

-- one part more
one_more : (rs : List ℕ) (s : Settings) (h : Held) (n : ℕ) → told_first rs s h (n + 1) ≡ told_first rs s h n ++ map (after_part rs s h) (cond (is_taken s.rights h (n * 5_000_000)) (n * 5_000_000 ∷ []) [])
one_more rs s h n =
    ap (λ l. map (after_part rs s h) l) (filter_of_map_range_with_len_more (is_taken s.rights h) (λ k. k * 5_000_000) 0 n n (omega arith))
    ∙ map-append (after_part rs s h) (filter (is_taken s.rights h) (map (λ k. k * 5_000_000) (range_with_len 0 n))) (cond (is_taken s.rights h (n * 5_000_000)) (n * 5_000_000 ∷ []) [])

part_told : (rs : List ℕ) (s : Settings) (h : Held) (n : ℕ) → is_taken s.rights h (n * 5_000_000) ≡ true → told_first rs s h (n + 1) ≡ told_first rs s h n ++ after_part rs s h (n * 5_000_000) ∷ []
part_told rs s h n so = one_more rs s h n ∙ ap (λ b. told_first rs s h n ++ map (after_part rs s h) (cond b (n * 5_000_000 ∷ []) [])) so

append_none : (ts : List Told) → ts ++ [] ≡ ts
append_none [] = refl
append_none (t ∷ ts) = ap (λ l. t ∷ l) (append_none ts)

nothing_told : (rs : List ℕ) (s : Settings) (h : Held) (n : ℕ) → is_taken s.rights h (n * 5_000_000) ≡ false → told_first rs s h (n + 1) ≡ told_first rs s h n
nothing_told rs s h n so = one_more rs s h n ∙ ap (λ b. told_first rs s h n ++ map (after_part rs s h) (cond b (n * 5_000_000 ∷ []) [])) so ∙ append_none (told_first rs s h n)

-- after the last part that is taken nothing is told
none_after : (rs : List ℕ) (s : Settings) (h : Held) (n d : ℕ) → ((k : ℕ) → n ≤ k → k < n + d → is_taken s.rights h (k * 5_000_000) ≡ false) → told_first rs s h (n + d) ≡ told_first rs s h n
none_after rs s h n zero off = ap (told_first rs s h) (omega arith)
none_after rs s h n (suc d) off =
    ap (told_first rs s h) (omega arith)
    ∙ nothing_told rs s h (n + d) (off (n + d) (omega arith) (omega arith))
    ∙ none_after rs s h n d (λ k low high. off k low (omega (arith, high)))

-- a lawful run of a machine whose runs are taken
record Lawful (p : Rights) (n : ℕ) (h : Held) (r : Report) (here : Held) : Type 0 where
  report : (run_from p n h).report ≡ r
  after : after_run h.machine (run_from p n h) ≡ here

lawful : (p : Rights) (n : ℕ) (h : Held) (r : Report) (here : Held) → called (record { rights = p; budget = n }) h ≡ record { answer = Ok r; held = here } → Lawful p n h r here
lawful p n h r here is = by_cases (length h.cells == h.machine.size) h.machine.exited (nat_le n 100_000_000) is
  where
    by_cases : (x e d : Bool) → called_by h p (cond x (cond e (Err HasExited) (cond d (Ok n) (Err BudgetTooLarge))) (Err OtherMemory)) ≡ record { answer = Ok r; held = here } → Lawful p n h r here
    by_cases false e d eq = let off : ◌≡◌ {A = Result Report CallRefusal} (Err OtherMemory) (Ok r) = ap (λ c. c.answer) eq in cc
    by_cases true true d eq = let off : ◌≡◌ {A = Result Report CallRefusal} (Err HasExited) (Ok r) = ap (λ c. c.answer) eq in cc
    by_cases true false false eq = let off : ◌≡◌ {A = Result Report CallRefusal} (Err BudgetTooLarge) (Ok r) = ap (λ c. c.answer) eq in cc
    by_cases true false true eq = record { report = same (ap (λ c. c.answer) eq); after = ap (λ c. c.held) eq }
      where
        same : {x : Report} → ◌≡◌ {A = Result Report CallRefusal} (Ok x) (Ok r) → x ≡ r
        same e = cc

-- what was heard of a run of all but some steps of a budget: so many parts were taken, and all of them told
pub record HeardSo {W : Type 0} (hears : W → Told → W → Type 0) (rs : List ℕ) (s : Settings) (left : ℕ) (h : Held) (before now : W) : Type 0 where
  pub parts : ℕ
  pub place : left ≡ s.budget - parts * 5_000_000
  pub short : parts * 5_000_000 < s.budget + 5_000_000
  pub all : HearsAll hears (told_first rs s h parts) before now

-- one thing more
hears_next : {W : Type 0} (hears : W → Told → W → Type 0) (ts : List Told) (t : Told) (a b c : W) → HearsAll hears ts a b → hears b t c → HearsAll hears (ts ++ t ∷ []) a c
hears_next hears [] t a b c all next = (c, subst (λ x. hears x t c) all next, refl)
hears_next hears (u ∷ ts) t a b c all next = (all.0, all.1, hears_next hears ts t all.0 b c all.2 next)

-- the run of all but some steps of a budget, by what a call of it left
is_so_far : (s : Settings) (left : ℕ) (h here : Held) (r : Report) (n : ℕ) → Span s left h r here → s.budget - left ≡ n → Lawful s.rights n h r here
is_so_far s left h here r n span is = subst (λ (m : ℕ). Lawful s.rights m h r here) is (lawful s.rights (s.budget - left) h r here span.is)

-- what is told after a part
says_how_far : (rs : List ℕ) (s : Settings) (h here : Held) (r : Report) (n : ℕ) (tape : List ℕ) → Lawful s.rights n h r here → tape ≡ tape_left rs (length here.meaning.waiting)
    → record { steps = r.steps; budget = s.budget; waiting = tape } ≡ how_far rs s.budget (run_from s.rights n h)
says_how_far rs s h here r n tape run is =
    ap (λ (l : List ℕ). record { steps = r.steps; budget = s.budget; waiting = l }) is
    ∙ ap (λ (x : Held). record { steps = r.steps; budget = s.budget; waiting = tape_left rs (length x.meaning.waiting) }) (sym run.after)
    ∙ ap (λ (x : Report). record { steps = x.steps; budget = s.budget; waiting = tape_left rs (length (run_from s.rights n h).state.meaning.waiting) }) (sym run.report)

-- one part more is heard of
hears_part : {W : Type 0} (hears : W → Told → W → Type 0) (rs : List ℕ) (s : Settings) (h : Held) (n : ℕ) (t : Told) (a b c : W) → HearsAll hears (told_first rs s h n) a b
    → is_taken s.rights h (n * 5_000_000) ≡ true → t ≡ after_part rs s h (n * 5_000_000) → hears b t c → HearsAll hears (told_first rs s h (n + 1)) a c
hears_part hears rs s h n t a b c all taken says next =
    let two = hears_next hears (told_first rs s h n) (after_part rs s h (n * 5_000_000)) a b c all (subst (λ x. hears b x c) says next) in
    subst (λ ts. HearsAll hears ts a c) (sym (part_told rs s h n taken)) two

-- a part more is taken, and told
pub heard_more : {W : Type 0} (hears : W → Told → W → Type 0) (rs : List ℕ) (s : Settings) (left part : ℕ) (h here after : Held) (r₀ r : Report) (tape : List ℕ) (a b c : W)
    → HeardSo hears rs s left h a b → Span s left h r₀ here → r₀.ending ≡ Spent → 0 < left → part ≡ min left 5_000_000 → Span s (left - part) h r after
    → tape ≡ tape_left rs (length after.meaning.waiting) → hears b (record { steps = r.steps; budget = s.budget; waiting = tape }) c
    → HeardSo hears rs s (left - part) h a c
heard_more hears rs s left part h here after r₀ r tape a b c heard span so more is then wait next =
    let n = heard.parts in
    let first = is_so_far s left h here r₀ (n * 5_000_000) span (omega (arith, heard.place, more)) in
    let second = is_so_far s (left - part) h after r (min (n * 5_000_000 + 5_000_000) s.budget) then (omega (arith, heard.place, more, is)) in
    let taken : is_taken s.rights h (n * 5_000_000) ≡ true = ap (λ (x : Report). not (by_itself x.ending)) first.report ∙ ap (λ e. not (by_itself e)) so in
    record {
      parts = n + 1;
      place = omega (arith, heard.place, is);
      short = omega (arith, heard.place, more);
      all = hears_part hears rs s h n _ a b c heard.all taken (says_how_far rs s h after r _ tape second wait) next;
    }

-- how many parts a budget has
last_part : (budget parts : ℕ) → budget ≤ parts * 5_000_000 → parts * 5_000_000 < budget + 5_000_000 → div_ceil budget 5_000_000 ≡ parts
last_part budget parts enough few = let bounds = div_ceil_times budget 5_000_000 (omega arith) in omega (arith, bounds.0, bounds.1, enough, few)

-- a machine of which a run was taken takes every lawful run
told_as_run : (rs : List ℕ) (s : Settings) (n : ℕ) (h : Held) (r : Report) (here : Held) → s.budget ≤ 100_000_000 → called (record { rights = s.rights; budget = n }) h ≡ record { answer = Ok r; held = here } → told_if_run rs s h ≡ told_of rs s h
told_as_run rs s n h r here low is = by_cases (length h.cells == h.machine.size) h.machine.exited (nat_le n 100_000_000) (nat_le s.budget 100_000_000) (search (rules, low)) is
  where
    by_cases : (x e d f : Bool) → f ≡ true → called_by h s.rights (cond x (cond e (Err HasExited) (cond d (Ok n) (Err BudgetTooLarge))) (Err OtherMemory)) ≡ record { answer = Ok r; held = here }
        → told_by rs s h (cond x (cond e (Err HasExited) (cond f (Ok s.budget) (Err BudgetTooLarge))) (Err OtherMemory)) ≡ told_of rs s h
    by_cases false e d f fine eq = let off : ◌≡◌ {A = Result Report CallRefusal} (Err OtherMemory) (Ok r) = ap (λ c. c.answer) eq in cc
    by_cases true true d f fine eq = let off : ◌≡◌ {A = Result Report CallRefusal} (Err HasExited) (Ok r) = ap (λ c. c.answer) eq in cc
    by_cases true false d f fine eq = ap (λ b. told_by rs s h (cond b (Ok s.budget) (Err BudgetTooLarge))) fine

-- all of it
of_all : {W : Type 0} (hears : W → Told → W → Type 0) (rs : List ℕ) (s : Settings) (n : ℕ) (h here : Held) (r : Report) (a b : W) → s.budget ≤ 100_000_000
    → called (record { rights = s.rights; budget = n }) h ≡ record { answer = Ok r; held = here }
    → HearsAll hears (told_first rs s h (div_ceil s.budget 5_000_000)) a b → HearsAll hears (told_if_run rs s h) a b
unfolding told_of
of_all hears rs s n h here r a b low is all = subst (λ ts. HearsAll hears ts a b) (sym (told_as_run rs s n h r here low is)) all

-- where the budget is used up, all parts were told
pub heard_whole : {W : Type 0} (hears : W → Told → W → Type 0) (rs : List ℕ) (s : Settings) (left : ℕ) (h here : Held) (r : Report) (a b : W) → HeardSo hears rs s left h a b → Span s left h r here → left ≤ 0 → HearsAll hears (told_if_run rs s h) a b
heard_whole hears rs s left h here r a b heard span none =
    let last = last_part s.budget heard.parts (omega (arith, heard.place, none)) heard.short in
    of_all hears rs s (s.budget - left) h here r a b span.low span.is (subst (λ n. HearsAll hears (told_first rs s h n) a b) (sym last) heard.all)

-- a run that ended by itself takes no part after it
no_part_after : (s : Settings) (left : ℕ) (h here : Held) (r : Report) (start : ℕ) → Span s left h r here → by_itself r.ending ≡ true → s.budget - left ≤ start → start ≤ s.budget → is_taken s.rights h start ≡ false
no_part_after s left h here r start span ends low few =
    let same = same_under_larger (record { rights = s.rights; budget = s.budget - left }) h start low (omega (arith, few, span.low)) (ap (λ c. ended_so by_itself c.answer) span.is ∙ ends) in
    let run = lawful s.rights start h r here (same ∙ span.is) in
    ap (λ x. not (by_itself x.ending)) run.report ∙ ap not ends

-- and where it ended by itself too
pub heard_to_end : {W : Type 0} (hears : W → Told → W → Type 0) (rs : List ℕ) (s : Settings) (left : ℕ) (h here : Held) (r : Report) (a b : W) → HeardSo hears rs s left h a b → Span s left h r here → by_itself r.ending ≡ true
    → HearsAll hears (told_if_run rs s h) a b
heard_to_end hears rs s left h here r a b heard span ends =
    let bounds = div_ceil_times s.budget 5_000_000 (omega arith) in
    let more : heard.parts ≤ div_ceil s.budget 5_000_000 = omega (arith, bounds.0, heard.short) in
    let off : (k : ℕ) → heard.parts ≤ k → k < heard.parts + (div_ceil s.budget 5_000_000 - heard.parts) → is_taken s.rights h (k * 5_000_000) ≡ false = λ k low high.
    no_part_after s left h here r (k * 5_000_000) span ends (omega (arith, heard.place, low)) (omega (arith, bounds.1, high, more)) in
    let last : heard.parts + (div_ceil s.budget 5_000_000 - heard.parts) ≡ div_ceil s.budget 5_000_000 = omega (arith, more) in
    let all = none_after rs s h heard.parts (div_ceil s.budget 5_000_000 - heard.parts) off in
    of_all hears rs s (s.budget - left) h here r a b span.low span.is (subst (λ ts. HearsAll hears ts a b) (sym all ∙ ap (told_first rs s h) last) heard.all)

-- of a whole run that is refused nothing is told
pub none_of_refused : (o : Orders) (q : Refusal) → whole_run o ≡ Err q → told_of_whole o ≡ []
none_of_refused o q is = by_ready (ready o) is
  where
    by_ready : (x : Result Machine Refusal) → run_by o x ≡ Err q → told_once_ready o x ≡ []
    by_ready (Ok m) e = cc
    by_ready (Err r) e = refl

-- so where it is refused, its answer being one about which all or nothing is heard, all of it is heard
pub heard_refused : {W : Type 0} (hears : W → Told → W → Type 0) (o : Orders) (q : Refusal) (a b : W) → whole_run o ≡ Err q
    → HearsAll hears (told_of_whole o) a b ⊎ (b ≡ a) → HearsAll hears (told_of_whole o) a b
heard_refused hears o q a b is (inl all) = all
heard_refused hears o q a b is (inr same) = subst (λ ts. HearsAll hears ts a b) (sym (none_of_refused o q is)) same
