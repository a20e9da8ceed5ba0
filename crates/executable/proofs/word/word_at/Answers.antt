use Rattle.std.proofs.Common.{◌≡◌, ℕ, List, length, Some, None, Option, option_map, Bor, sym, refl, ap, ◌∙◌, rules}
use Rattle.std.specs.List.{slice_get}
use Rattle.std.specs.Slice.{IsItemAt}
use Rattle.std.proofs.lemmas.Option.{slice_get_read, slice_get_past}
use Rattle.executable.proofs.Quads.{quad, word_is}
use Rattle.executable.proofs.word.word_at.Goals as goal

got : (o : Option (Bor (List ℕ))) (ws : List (List ℕ)) (i : ℕ) → IsItemAt ws i o → option_map (λ w. quad w.now) o ≡ option_map quad (slice_get ws i)
got None ws i h = ap (option_map quad) (sym (slice_get_past ws i h.3))
got (Some w) ws i h = ap (option_map quad) (sym (slice_get_read ws (length ws) i w.now refl h.3.0 h.1))

pub returns : goal.returns
returns c =
    let i = c.args.index in
    let mapped : c.map.result ≡ option_map (λ w. quad w.now) c.get.result = search rules in
    mapped
    ∙ got c.get.result c.as_chunks.result.0.now i c.get.ensures.lookup
    ∙ ap (λ ws. option_map quad (slice_get ws i)) c.as_chunks.ensures.front
    ∙ sym (word_is c.args.bytes.now i)
