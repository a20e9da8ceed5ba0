-- What the calls over listing and assembling answer.
use Rattle.std.proofs.Common.{◌≡◌, ℕ, ◌<◌, ◌≤◌, Bool, true, List, [], length, take, drop, Ok, Err, Decides, Option, Result, sym, ap, ◌∙◌, arith}
use Rattle.std.specs.Str.{bytes_eq}
use Rattle.std.proofs.lemmas.Slice.Eq.{bytes_eq-Decides}
use Rattle.std.proofs.lemmas.List.{take-append-le, take_all}
use Rattle.std.proofs.lemmas.Bool.{cond-true, cond-false, le-leb, lt-leb}
use Rattle.std.proofs.lemmas.Bool.Decides.{same_from_decides}
use Rattle.executable.specs.Check.{parts_in}
use Rattle.executable.specs.declared.refusal.Refusal.TheVariants.{TooShort, NoMark, OtherProcessor, FillerNotZero, BadSizes, OtherLength, AddressTooLarge}
use Rattle.listing.specs.Listing.{listing, listed, listed_parts, asked, length_of, output_after}
use Rattle.listing.specs.declared.refusal.Refusal.{Refusal}
use Rattle.listing.specs.declared.refusal.Refusal.TheVariants.{Executable, OutputTooShort}
use Rattle.roundtrip.specs.Laws.{Bytes, Accepted}
use Rattle.roundtrip.specs.Compared.{of_both, compared}
use Rattle.roundtrip.specs.Rebuilt.{rebuilt_from, rebuilt, length_of as length_is, written_to}
use Rattle.roundtrip.specs.declared.refusal.Refusal as refused
use Rattle.roundtrip.specs.declared.refusal.Refusal.TheVariants as rebuilding
use Rattle.assembler.specs.Assembled.{assembled, good, answer_of, output_of}
use Rattle.std.specs.Option.{ok_or}
use Rattle.std.specs.Result.{result_ok}
use Rattle.roundtrip.proofs.Back.{roomy, apart}

-- an executable that gets a yes to every question of the listing
module _ (bs : List ℕ) (room : ℕ) (yes : (q : Refusal) → asked q bs room ≡ true) where
  pub accepted : Accepted bs
  accepted q = yes (Executable q)

  pub listed_whole : listed bs room ≡ Ok (listing (parts_in bs))
  listed_whole =
      ap (λ p. listed_parts p room) (cond-true _ _ _ (yes (Executable TooShort)) ∙ cond-true _ _ _ (yes (Executable NoMark)) ∙ cond-true _ _ _ (yes (Executable OtherProcessor)) ∙ cond-true _ _ _ (yes (Executable FillerNotZero))
      ∙ cond-true _ _ _ (yes (Executable BadSizes)) ∙ cond-true _ _ _ (yes (Executable OtherLength)) ∙ cond-true _ _ _ (yes (Executable AddressTooLarge)))
      ∙ cond-true _ _ _ (yes OutputTooShort)

  -- the listing stands at the begin of the output
  pub on_page : (out result : List ℕ) (n : ℕ) → Ok n ≡ length_of (listed bs room) → result ≡ output_after (listed bs room) out → take n result ≡ listing (parts_in bs)
  on_page out result n told written =
      let t = listing (parts_in bs) in
      let e : Ok n ≡ Ok (length t) = told ∙ ap length_of listed_whole in
      let n' : n ≡ length t = cc in
      ap (λ k. take k result) n' ∙ ap (take (length t)) (written ∙ ap (λ x. output_after x out) listed_whole)
      ∙ take-append-le (length t) t (drop (length t) out) (omega arith) ∙ take_all (length t) t (omega arith)

pub not_listed : (x : Result (List ℕ) Refusal) (q : Refusal) → Err q ≡ length_of x → x ≡ Err q
not_listed (Ok t) q e = let z : ◌≡◌ {A = ℕ} 0 1 = cc in absurd (omega arith)
not_listed (Err p) q e = let s : p ≡ q = cc in ap Err s

-- what assembling a listing gives
module _ (bs : List ℕ) (text_room : ℕ) (bytes : Bytes bs) (yes : (q : Refusal) → asked q bs text_room ≡ true) (out t : List ℕ) (t_is : t ≡ listing (parts_in bs)) (fits : length bs ≤ length out) where
  again : assembled t 0 (length out) ≡ good bs []
  again = ap (λ x. assembled x 0 (length out)) t_is ∙ roomy bs (length out) bytes (accepted bs text_room yes) fits

  is_rebuilt : rebuilt bs text_room (length out) ≡ Ok bs
  is_rebuilt = ap (rebuilt_from bs (length out)) (listed_whole bs text_room yes) ∙ cond-true _ _ _ (le-leb (length bs) (length out) fits)

  pub rebuilt_value : (o : Option ℕ) (q : refused.Refusal) → o ≡ result_ok (answer_of (assembled t 0 (length out))) → ok_or o q ≡ length_is (rebuilt bs text_room (length out))
  rebuilt_value o q e = ap (λ x. ok_or x q) (e ∙ ap (λ a. result_ok (answer_of a)) again) ∙ sym (ap length_is is_rebuilt)

  pub rebuilt_output : (result : List ℕ) → result ≡ output_of (assembled t 0 (length out)) out → result ≡ written_to out (rebuilt bs text_room (length out))
  rebuilt_output result e = e ∙ ap (λ a. output_of a out) again ∙ sym (ap (written_to out) is_rebuilt)

-- where the output is too short
module _ (bs : List ℕ) (text_room : ℕ) (yes : (q : Refusal) → asked q bs text_room ≡ true) (out : List ℕ) (short : length out < length bs) where
  pub too_short : rebuilt bs text_room (length out) ≡ Err rebuilding.OutputTooShort
  too_short = ap (rebuilt_from bs (length out)) (listed_whole bs text_room yes) ∙ cond-false _ _ _ (lt-leb (length bs) (length out) short)

-- two executables that are listed
module _ (xs ys : List ℕ) (left_room right_room : ℕ) (bytes_x : Bytes xs) (bytes_y : Bytes ys) (yes_x : (q : Refusal) → asked q xs left_room ≡ true) (yes_y : (q : Refusal) → asked q ys right_room ≡ true) where
  pub compared_same : (r : Bool) (s t : List ℕ) → s ≡ listing (parts_in xs) → t ≡ listing (parts_in ys) → Decides r (s ≡ t) → Ok r ≡ compared xs ys left_room right_room
  compared_same r s t s_is t_is d =
      let laws = apart xs ys bytes_x bytes_y (accepted xs left_room yes_x) (accepted ys right_room yes_y) in
      let d' : Decides r (xs ≡ ys) = ((λ e. laws.0 (sym s_is ∙ d.0 e ∙ t_is)), (λ e. d.1 (s_is ∙ laws.1 e ∙ sym t_is))) in
      ap Ok (same_from_decides r _ d' (bytes_eq-Decides xs ys))
      ∙ sym (ap (λ l. of_both (bytes_eq xs ys) l (listed ys right_room)) (listed_whole xs left_room yes_x) ∙ ap (of_both (bytes_eq xs ys) (Ok (listing (parts_in xs)))) (listed_whole ys right_room yes_y))
