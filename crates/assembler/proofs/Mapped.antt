-- A result whose error was mapped.
use Rattle.std.proofs.Common.{◌≡◌, Ok, Err, Result, is_ok, sym, refl, ap, ◌∙◌}
use Rattle.std.specs.Result.{IsErrAnd, MatchResult}
use Rattle.std.proofs.lemmas.Bool.{false≢true}

pub map_err_ok : {X E F : Type 0} (r : Result X E) (s : Result X F) (x : X) (Q : E → Type 0) → MatchResult r (λ y. s ≡ Ok y) Q → is_ok s ≡ is_ok r → s ≡ Ok x → r ≡ Ok x
map_err_ok (Ok y) s x Q h v e = let z : Ok y ≡ Ok x = sym h ∙ e in let w : y ≡ x = cc in ap Ok w
map_err_ok (Err q) s x Q h v e = absurd (false≢true (sym v ∙ ap is_ok e))

pub map_err_err : {X E F : Type 0} (r : Result X E) (s : Result X F) (f : F) (P : E → F → Type 0) (g : E → F) → MatchResult r (λ y. s ≡ Ok y) (λ e. IsErrAnd s (P e)) → s ≡ Err f → ((e : E) (d : F) → P e d → d ≡ g e) → (e : E) × (r ≡ Err e) × (f ≡ g e)
map_err_err (Ok y) s f P g h e k = absurd (let z : Ok y ≡ Err f = sym h ∙ e in cc)
map_err_err (Err q) (Ok y) f P g h e k = absurd h
map_err_err (Err q) (Err d) f P g h e k = let w : d ≡ f = cc in (q, refl, sym w ∙ k q d h)
