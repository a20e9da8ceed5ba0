-- What comparing two executables gives where there is room for every listing.
use Rattle.std.proofs.Common.{◌≡◌, ℕ, Bool, List, Ok, Err, Decides, Result, arith, refl, sym, ap, ◌∙◌, subst}
use Rattle.std.specs.Str.{bytes_eq}
use Rattle.std.proofs.lemmas.Slice.Eq.{bytes_eq-Decides}
use Rattle.std.proofs.lemmas.Bool.Decides.{Decides-at, Decides-like}
use Rattle.executable.specs.Check.{Parts, checked}
use Rattle.executable.specs.declared.refusal.Refusal as executable
use Rattle.listing.specs.Listing.{listing, listed}
use Rattle.listing.specs.declared.refusal.Refusal.{Refusal}
use Rattle.listing.specs.declared.refusal.Refusal.TheVariants.{Executable}
use Rattle.listing.proofs.Room.{Bytes}
use Rattle.roundtrip.specs.Compared as listings
use Rattle.roundtrip.specs.Compared.{TellsEqual}
use Rattle.tasks.specs.Listing.{listing_of, listed_whole}
use Rattle.tasks.specs.Sameness.{refused_by, of_both, compared, Compares}
use Rattle.tasks.specs.declared.sameness.SameError.{SameError}
use Rattle.tasks.specs.declared.sameness.SameError.TheVariants.{Left, Right, Memory}
use Rattle.tasks.proofs.Whole.{whole, has_room}

answered : (same b : Bool) (l r : Result (List ℕ) Refusal) → Ok same ≡ listings.of_both b l r → (of_both b l r ≡ Ok same) × (same ≡ b)
answered same b (Ok l) (Ok r) e = let is : same ≡ b = cc in (ap Ok (sym is), is)
answered same b (Ok l) (Err q) e = let z : ◌≡◌ {A = ℕ} 0 1 = cc in absurd (omega arith)
answered same b (Err q) r e = let z : ◌≡◌ {A = ℕ} 0 1 = cc in absurd (omega arith)

-- a refusal is the left's where the left is refused
refused : (b : Bool) (l : Result Parts executable.Refusal) (r : Result (List ℕ) Refusal) (q : Refusal) → Err q ≡ listings.of_both b (listing_of l) r → of_both b (listing_of l) r ≡ Err (refused_by l q)
refused b (Ok l) (Ok r) q e = let z : ◌≡◌ {A = ℕ} 0 1 = cc in absurd (omega arith)
refused b (Ok l) (Err p) q e = let is : p ≡ q = cc in ap (λ x. Err (Right x)) is
refused b (Err p) r q e = let is : Executable p ≡ q = cc in ap (λ x. Err (Left x)) is

told_error : (left right : List ℕ) (e : SameError) → compared left right ≡ Err e → Compares left right (Err e)
told_error left right (Left q) is = is
told_error left right (Right q) is = is
told_error left right Memory is = tt

-- an answer that is the defined one, whether the listings are equal, and whether the executables are
pub record Same (xs ys : List ℕ) (b : Bool) : Type 0 where
  pub answer : compared xs ys ≡ Ok b
  pub listings : Decides b (listed_whole xs ≡ listed_whole ys)
  pub same : Decides b (xs ≡ ys)

module _ (xs ys : List ℕ) (left right : ℕ) (bytes_x : Bytes xs) (bytes_y : Bytes ys) (left_wide : left ≡ 2031678) (right_wide : right ≡ 2031678) where
  both : listings.compared xs ys left right ≡ listings.of_both (bytes_eq xs ys) (listed_whole xs) (listed_whole ys)
  both =
      ap (λ l. listings.of_both (bytes_eq xs ys) l (listed ys right)) (whole xs left bytes_x left_wide)
      ∙ ap (listings.of_both (bytes_eq xs ys) (listed_whole xs)) (whole ys right bytes_y right_wide)

  -- what the comparison by listings tells of two executables with these parts
  by_parts : (same : Bool) (p q : Parts) → TellsEqual xs ys left right (Ok same) → checked xs ≡ Ok p → checked ys ≡ Ok q → Decides same (listed_whole xs ≡ listed_whole ys)
  by_parts same p q tells is_p is_q =
      let told = tells p q is_p is_q (has_room xs left p bytes_x left_wide is_p) (has_room ys right q bytes_y right_wide is_q) in
      let answer : Ok same ≡ Ok told.same = told.answer in
      let is : same ≡ told.same = cc in
      let first : listed_whole xs ≡ Ok (listing p) = ap listing_of is_p in
      let second : listed_whole ys ≡ Ok (listing q) = ap listing_of is_q in
      Decides-at same told.same is (Decides-like told.same (λ e. first ∙ ap Ok e ∙ sym second) (λ e. let both : Ok (listing p) ≡ Ok (listing q) = sym first ∙ e ∙ second in cc) told.listings)

  -- an answer is given where the check accepts both
  decided : (same : Bool) (p q : Result Parts executable.Refusal) → TellsEqual xs ys left right (Ok same) → Ok same ≡ listings.of_both (bytes_eq xs ys) (listing_of p) (listing_of q) → checked xs ≡ p → checked ys ≡ q
      → Decides same (listed_whole xs ≡ listed_whole ys)
  decided same (Ok p) (Ok q) tells told is_p is_q = by_parts same p q tells is_p is_q
  decided same (Ok p) (Err q) tells told is_p is_q = let z : ◌≡◌ {A = ℕ} 0 1 = cc in absurd (omega arith)
  decided same (Err p) q tells told is_p is_q = let z : ◌≡◌ {A = ℕ} 0 1 = cc in absurd (omega arith)

  pub told_same : (same : Bool) → Ok same ≡ listings.compared xs ys left right → TellsEqual xs ys left right (Ok same) → Same xs ys same
  told_same same told tells =
      let is = answered same (bytes_eq xs ys) (listed_whole xs) (listed_whole ys) (told ∙ both) in
      record { answer = is.0; listings = decided same (checked xs) (checked ys) tells (told ∙ both) refl refl; same = subst (λ b. Decides b (xs ≡ ys)) (sym is.1) (bytes_eq-Decides xs ys) }

  pub told_refused : (q : Refusal) (e : SameError) → Err q ≡ listings.compared xs ys left right → e ≡ refused_by (checked xs) q → Compares xs ys (Err e)
  told_refused q e told by = told_error xs ys e (refused (bytes_eq xs ys) (checked xs) (listed_whole ys) q (told ∙ both) ∙ ap Err (sym by))
