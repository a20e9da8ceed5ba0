-- What listing gives where there is room for every listing.
use Rattle.std.proofs.Common.{◌≡◌, refl, ℕ, ◌≤◌, true, List, length, take, drop, Ok, Err, Result, IfOk, IfErr, arith, sym, ap, ◌∙◌}
use Rattle.std.proofs.lemmas.Bool.{cond-true, le-leb}
use Rattle.std.proofs.lemmas.List.{take_at}
use Rattle.executable.specs.Check.{Parts, parts_in, checked}
use Rattle.executable.specs.declared.refusal.Refusal as executable
use Rattle.executable.specs.declared.refusal.Refusal.TheVariants.{BadSizes, OtherLength, AddressTooLarge}
use Rattle.listing.specs.Listing.{listing, room_for, listed_parts, listed, length_of, output_after}
use Rattle.listing.specs.declared.refusal.Refusal.{Refusal}
use Rattle.listing.proofs.Room.{Bytes, listing_length, executable_length}
use Rattle.roundtrip.proofs.Answered.{not_listed}
use Rattle.tasks.specs.Listing.{listing_of, listed_whole}
use Rattle.roundtrip.proofs.Questions.{each_yes, the_parts}

-- a listing has 2,031,678 bytes at most
longest : (bs : List ℕ) (p : Parts) → Bytes bs → checked bs ≡ Ok p → length (listing (parts_in bs)) ≤ 2031678
longest bs p bytes is =
    let each = each_yes bs p is in
    omega (arith, listing_length bs bytes (each OtherLength) (each AddressTooLarge), executable_length bs (each BadSizes) (each OtherLength))

-- a page with room for every listing has room for that of an accepted executable
pub has_room : (bs : List ℕ) (room : ℕ) (p : Parts) → Bytes bs → room ≡ 2031678 → checked bs ≡ Ok p → room_for p room ≡ true
has_room bs room p bytes h is = le-leb (length (listing p)) room (omega (arith, h, longest bs p bytes is, ap (λ x. length (listing x)) (the_parts bs p is)))

parts_whole : (bs : List ℕ) (room : ℕ) (r : Result Parts executable.Refusal) → Bytes bs → 2031678 ≤ room → checked bs ≡ r → listed_parts r room ≡ listing_of r
parts_whole bs room (Ok p) bytes h is =
    let wide : length (listing p) ≤ room = omega (arith, longest bs p bytes is, ap (λ x. length (listing x)) (the_parts bs p is)) in
    cond-true _ _ _ (le-leb (length (listing p)) room wide)
parts_whole bs room (Err q) bytes h is = refl

pub whole : (bs : List ℕ) (room : ℕ) → Bytes bs → room ≡ 2031678 → listed bs room ≡ listed_whole bs
whole bs room bytes h = parts_whole bs room (checked bs) bytes (omega (arith, h)) refl

-- a text that was written stands at the begin of the output
at_front : (o o' : List ℕ) (n : ℕ) (r : Result (List ℕ) Refusal) → Ok n ≡ length_of r → o' ≡ output_after r o → r ≡ Ok (take n o')
at_front o o' n (Ok text) told written = let size : n ≡ length text = cc in ap Ok (sym (ap (take n) written ∙ take_at text (drop (length text) o) n (sym size)))
at_front o o' n (Err q) told written = let z : ◌≡◌ {A = ℕ} 0 1 = cc in absurd (omega arith)

-- what the listing call answers and leaves
module _ (bs o o' : List ℕ) (bytes : Bytes bs) (wide : length o ≡ 2031678) where
  pub lists : (r : Result ℕ Refusal) → r ≡ length_of (listed bs (length o)) → o' ≡ output_after (listed bs (length o)) o → IfOk r (λ n. listed_whole bs ≡ Ok (take n o'))
  lists (Ok n) told written = let is = whole bs (length o) bytes wide in at_front o o' n (listed_whole bs) (told ∙ ap length_of is) (written ∙ ap (λ r. output_after r o) is)
  lists (Err q) told written = tt

  pub refuses : (r : Result ℕ Refusal) → r ≡ length_of (listed bs (length o)) → IfErr r (λ q. listed_whole bs ≡ Err q)
  refuses (Ok n) told = tt
  refuses (Err q) told = not_listed (listed_whole bs) q (told ∙ ap length_of (whole bs (length o) bytes wide))
