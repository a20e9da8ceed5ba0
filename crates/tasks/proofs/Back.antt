-- What rebuilding gives where there is room for the listing and for the executable.
use Rattle.std.proofs.Common.{◌≡◌, refl, ℕ, ◌≤◌, Bool, true, false, List, ◌++◌, length, drop_of_length-le, Ok, Err, Result, is_ok, arith, sym, ap, ◌∙◌}
use Rattle.std.specs.Str.{bytes_eq}
use Rattle.std.proofs.lemmas.Bool.{cond-true, le-leb}
use Rattle.std.proofs.lemmas.List.{append-nil}
use Rattle.std.proofs.lemmas.Slice.Eq.{bytes_eq-Decides}
use Rattle.listing.specs.declared.refusal.Refusal as listing
use Rattle.listing.proofs.Room.{Bytes}
use Rattle.roundtrip.specs.Rebuilt.{rebuilt_from, rebuilt, length_of, written_to}
use Rattle.roundtrip.specs.declared.refusal.Refusal.{Refusal}
use Rattle.roundtrip.specs.declared.refusal.Refusal.TheVariants.{Listing}
use Rattle.tasks.specs.Listing.{listed_whole}
use Rattle.tasks.proofs.Whole.{whole}

-- a listed executable, or the refusal of the listing
abbrev again : List ℕ → Result (List ℕ) listing.Refusal → Result (List ℕ) Refusal
again bs (Ok text) = Ok bs
again bs (Err q) = Err (Listing q)

again_is : (bs : List ℕ) (room : ℕ) (r : Result (List ℕ) listing.Refusal) → length bs ≤ room → rebuilt_from bs room r ≡ again bs r
again_is bs room (Ok text) h = cond-true _ _ _ (le-leb (length bs) room h)
again_is bs room (Err q) h = refl

-- where something is rebuilt, the output is the executable, as long as that
came_back : (bs o o' : List ℕ) (n : ℕ) (r : Result (List ℕ) listing.Refusal) → length o ≡ length bs → Ok n ≡ length_of (again bs r) → o' ≡ written_to o (again bs r) → (o' ≡ bs) × (is_ok r ≡ true)
came_back bs o o' n (Ok text) h told written = (written ∙ ap (λ rest. bs ++ rest) (drop_of_length-le o (omega (arith, h))) ∙ append-nil bs, refl)
came_back bs o o' n (Err q) h told written = let z : ◌≡◌ {A = ℕ} 0 1 = cc in absurd (omega arith)

refused : (bs : List ℕ) (q : Refusal) (r : Result (List ℕ) listing.Refusal) → Err q ≡ length_of (again bs r) → is_ok r ≡ false
refused bs q (Ok text) told = let z : ◌≡◌ {A = ℕ} 0 1 = cc in absurd (omega arith)
refused bs q (Err p) told = refl

module _ (bs o o' : List ℕ) (room : ℕ) (bytes : Bytes bs) (wide : room ≡ 2031678) (size : length o ≡ length bs) where
  is_again : rebuilt bs room (length o) ≡ again bs (listed_whole bs)
  is_again = ap (rebuilt_from bs (length o)) (whole bs room bytes wide) ∙ again_is bs (length o) (listed_whole bs) (omega (arith, size))

  -- whether the output is the executable is whether that is listed
  pub comes_back : (n : ℕ) (same : Bool) → Ok n ≡ length_of (rebuilt bs room (length o)) → o' ≡ written_to o (rebuilt bs room (length o)) → same ≡ bytes_eq o' bs → same ≡ is_ok (listed_whole bs)
  comes_back n same told written compared =
      let is = came_back bs o o' n (listed_whole bs) size (told ∙ ap length_of is_again) (written ∙ ap (written_to o) is_again) in
      compared ∙ (bytes_eq-Decides o' bs).1 is.0 ∙ sym is.1

  pub is_refused : (q : Refusal) → Err q ≡ length_of (rebuilt bs room (length o)) → false ≡ is_ok (listed_whole bs)
  is_refused q told = sym (refused bs q (listed_whole bs) (told ∙ ap length_of is_again))
