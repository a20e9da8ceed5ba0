-- A fold over bytes that stops where a byte is refused.
use Rattle.std.proofs.Common.{◌≡◌, ℕ, List, [], ◌∷◌, Some, None, Option, Bor, sym, ap, ◌∙◌, subst}
use Rattle.std.specs.declared.ops.ControlFlow.{ControlFlow}
use Rattle.std.specs.Fn.{Called}
use Rattle.std.specs.Iterator.{AlwaysYields, YieldsThen, TryFoldTurn, TryFoldsItems}
use Rattle.std.proofs.lemmas.Iterator.{YieldsList}
use Rattle.std.specs.ControlFlow.{continue_value}
use Rattle.std.specs.List.{FoldsTo}
use Rattle.std.specs.Option.{MatchOption}
use denote.Param.Members.{Mut}

-- what is done with the value of a step that went on
abbrev after : Option ℕ → (ℕ → Option ℕ) → Option ℕ
after None k = None
after (Some n) k = k n

-- the steps h at each byte in turn, from n
abbrev pub over : (ℕ → ℕ → Option ℕ) → ℕ → List ℕ → Option ℕ
over h n [] = Some n
over h n (b ∷ bs) = after (h n b) (λ m. over h m bs)

-- what `?` takes from an answer
abbrev Taken : {E : Type 0} → Option ℕ → ControlFlow E ℕ → Type 0
Taken r c = r ≡ continue_value c

module _ {S F : Type 0} (E : Type 0) (steps : S → Option (Bor ℕ) → S → Type 0) (g : Mut F (ℕ × (Bor ℕ × Unit {0})) (Option ℕ)) (h : ℕ → ℕ → Option ℕ) (f : F)
    (calls : (n : ℕ) (x : Bor ℕ) (v : Option ℕ) (q : F) → Called g f (n, (x, tt)) v q → (q ≡ f) × (v ≡ h n x.now)) where
  each : (xs : List (Bor ℕ)) (bs : List ℕ) (s u : S) (n : ℕ) (r : Option ℕ) (o : Option (Bor ℕ)) (f' : F) (m : ℕ) → AlwaysYields steps (λ x. x.now) s bs → YieldsThen steps s xs o u → FoldsTo {P = F × ℕ} (TryFoldTurn g (Taken {E = E})) (f, n) xs (f', m) → MatchOption o (r ≡ Some m) (λ x. (v : Option ℕ) × (q : F) × (e : E) × Called g f' (m, (x, tt)) v q × (v ≡ None) × (r ≡ None)) → r ≡ over h n bs
  each [] [] s u n r None f' m yields (t, same, end) folds done = done ∙ ap Some (sym (ap (λ p. p.1) folds))
  each [] [] s u n r (Some x) f' m yields (t, same, end) folds done = absurd (yields x u (subst (λ q. steps q (Some x) u) (sym same) end))
  each [] (b ∷ bs) s u n r None f' m yields (t, same, end) folds done = absurd (yields.0 u (subst (λ q. steps q None u) (sym same) end))
  each [] (b ∷ bs) s u n r (Some x) f' m yields (t, same, end) folds (v, q, e, called, broke, gave) =
      let here = yields.1 x u (subst (λ q. steps q (Some x) u) (sym same) end) in
      let called' = subst (λ (p : F × ℕ). Called g p.0 (p.1, (x, tt)) v q) (sym folds) called in
      let none : h n b ≡ None = ap (h n) (sym here.0) ∙ sym (calls n x v q called').1 ∙ broke in
      gave ∙ sym (ap (λ w. after w (λ m. over h m bs)) none)
  each (x ∷ xs) [] s u n r o f' m yields (t, (j, step, more), end) folds done = absurd (yields x j step)
  each (x ∷ xs) (b ∷ bs) s u n r o f' m yields (t, (j, step, more), end) (p, (v, called, on), folds) done =
      let here = yields.1 x j step in
      let call = calls n x v p.0 called in
      let some : h n b ≡ Some p.1 = ap (h n) (sym here.0) ∙ sym call.1 ∙ on in
      let folds' = subst (λ (q : F). FoldsTo {P = F × ℕ} (TryFoldTurn g (Taken {E = E})) (q, p.1) xs (f', m)) call.0 folds in
      each xs bs j u p.1 r o f' m here.1 (t, more, end) folds' done ∙ sym (ap (λ w. after w (λ m. over h m bs)) some)

-- what `try_fold` answers, from its clause `ran`, where each call of its closure answers h and leaves it
pub folded : {S F : Type 0} {steps : S → Option (Bor ℕ) → S → Type 0} {s : S} {f : F} {bs : List ℕ} (E : Type 0) (u : S) (g : Mut F (ℕ × (Bor ℕ × Unit {0})) (Option ℕ)) (h : ℕ → ℕ → Option ℕ) (n : ℕ) (r : Option ℕ)
    → TryFoldsItems steps g (Taken {E = E}) (λ e r. r ≡ None) s f n r u → YieldsList steps (λ x. x.now) s bs → ((n : ℕ) (x : Bor ℕ) (v : Option ℕ) (q : F) → Called g f (n, (x, tt)) v q → (q ≡ f) × (v ≡ h n x.now)) → r ≡ over h n bs
folded {steps = steps} {s = s} {f = f} {bs = bs} E u g h n r (xs, o, f', m, yields, folds, done) all calls = each E steps g h f calls xs bs s u n r o f' m all.runs yields folds done
