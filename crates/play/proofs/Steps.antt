-- The first steps of a run, one after the other.
use Rattle.std.proofs.Common.{◌≡◌, ℕ, suc, ◌+◌, ◌-◌, ◌<◌, ◌≤◌, true, false, cond, List, [], ◌∷◌, ◌++◌, Some, None, refl, sym, ap, ◌∙◌, arith, append_assoc, append-nil}
use Rattle.permit.specs.Rights.{Rights}
use Rattle.run_pages.specs.declared.step.Step.{Step}
use Rattle.runs.specs.Runs.{Held}
use Rattle.play.specs.Traced.{one_step, taken, with_step, traced}
use Rattle.play.specs.declared.taken.Taken.{Taken}

-- at most no step
traced_none : (p : Rights) (done : ℕ) (h : Held) → traced p 0 done h ≡ []
unfolding traced
traced_none p done h = refl

-- at most one step more
traced_some : (p : Rights) (n done : ℕ) (h : Held) → traced p (suc n) done h ≡ with_step (taken p done h) (traced p n (done + 1) (one_step p h).held)
unfolding traced
traced_some p n done h = refl

-- the steps after those that a list has
next_step : (p : Rights) (count done : ℕ) (h : Held) (items whole : List Step) → done < count → whole ≡ items ++ traced p (count - done) done h
    → whole ≡ items ++ with_step (taken p done h) (traced p (count - (done + 1)) (done + 1) (one_step p h).held)
next_step p count done h items whole more is =
    let left : count - done ≡ suc (count - (done + 1)) = omega (arith, more) in
    is ∙ ap (λ n. items ++ traced p n done h) left ∙ ap (λ l. items ++ l) (traced_some p (count - (done + 1)) done h)

-- a step that was taken
step_taken : (p : Rights) (count done : ℕ) (h here : Held) (items after whole : List Step) (t : Taken) → done < count → whole ≡ items ++ traced p (count - done) done h
    → Some t ≡ taken p done h → here ≡ (one_step p h).held → after ≡ items ++ t.step ∷ []
    → whole ≡ after ++ cond t.goes_on (traced p (count - (done + 1)) (done + 1) here) []
step_taken p count done h here items after whole t more is some left pushed =
    next_step p count done h items whole more is
    ∙ ap (λ o. items ++ with_step o (traced p (count - (done + 1)) (done + 1) (one_step p h).held)) (sym some)
    ∙ ap (λ x. items ++ (t.step ∷ cond t.goes_on (traced p (count - (done + 1)) (done + 1) x) [])) (sym left)
    ∙ sym (append_assoc items (t.step ∷ []) _)
    ∙ ap (λ l. l ++ cond t.goes_on (traced p (count - (done + 1)) (done + 1) here) []) (sym pushed)

-- after it the run goes on
pub step_goes_on : (p : Rights) (count done : ℕ) (h here : Held) (items after whole : List Step) (t : Taken) → done < count → whole ≡ items ++ traced p (count - done) done h
    → Some t ≡ taken p done h → here ≡ (one_step p h).held → after ≡ items ++ t.step ∷ [] → t.goes_on ≡ true
    → whole ≡ after ++ traced p (count - (done + 1)) (done + 1) here
step_goes_on p count done h here items after whole t more is some left pushed on =
    step_taken p count done h here items after whole t more is some left pushed
    ∙ ap (λ b. after ++ cond b (traced p (count - (done + 1)) (done + 1) here) []) on

-- or it was the last
pub step_ends : (p : Rights) (count done : ℕ) (h : Held) (items after whole : List Step) (t : Taken) → done < count → whole ≡ items ++ traced p (count - done) done h
    → Some t ≡ taken p done h → after ≡ items ++ t.step ∷ [] → t.goes_on ≡ false → after ≡ whole
step_ends p count done h items after whole t more is some pushed off =
    sym (step_taken p count done h (one_step p h).held items after whole t more is some refl pushed
    ∙ ap (λ b. after ++ cond b (traced p (count - (done + 1)) (done + 1) (one_step p h).held) []) off
    ∙ append-nil after)

-- a step that was not taken
pub no_step : (p : Rights) (count done : ℕ) (h : Held) (items whole : List Step) → done < count → whole ≡ items ++ traced p (count - done) done h
    → None ≡ taken p done h → items ≡ whole
no_step p count done h items whole more is none =
    sym (next_step p count done h items whole more is
    ∙ ap (λ o. items ++ with_step o (traced p (count - (done + 1)) (done + 1) (one_step p h).held)) (sym none)
    ∙ append-nil items)

-- as many steps as were asked for
pub all_steps : (p : Rights) (count done : ℕ) (h : Held) (items whole : List Step) → count ≤ done → whole ≡ items ++ traced p (count - done) done h → items ≡ whole
all_steps p count done h items whole past is =
    let none : count - done ≡ 0 = omega (arith, past) in
    sym (is ∙ ap (λ n. items ++ traced p n done h) none ∙ ap (λ l. items ++ l) (traced_none p done h) ∙ append-nil items)
