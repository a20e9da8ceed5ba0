-- What the listing call answers for an accepted executable.
use Rattle.std.proofs.Common.{◌≡◌, ℕ, ◌+◌, ◌-◌, ◌*◌, ◌^◌, ◌<◌, ◌≤◌, min, true, false, List, length, Ok, Err, Result, sym, ap, ◌∙◌, subst, arith}
use Rattle.std.proofs.lemmas.Bool.{cond-true, cond-false, le-leb, lt-leb}
use Rattle.executable.specs.Check.{Parts, parts_in, checked}
use Rattle.executable.specs.Questions as executable
use Rattle.executable.specs.declared.refusal.Refusal as refused
use Rattle.executable.specs.declared.refusal.Refusal.TheVariants.{TooShort, NoMark, OtherProcessor, FillerNotZero, BadSizes, OtherLength, AddressTooLarge}
use Rattle.executable.proofs.Accepted.{accepted}
use Rattle.listing.specs.Listing.{listing, room_for, listed_parts, listed, length_of, output_after, asked, rank_of, OnlyFirstNo}
use Rattle.listing.specs.declared.refusal.Refusal.{Refusal}
use Rattle.listing.specs.declared.refusal.Refusal.TheVariants.{Executable, OutputTooShort}
use Rattle.output.specs.Overlay.{Wrote}
use Rattle.output.proofs.Writes.{overlay_whole}
use Rattle.listing.proofs.Room.{Bytes, listing_length, executable_length}

module _ (bs : List ℕ) (p : Parts) (is : Ok p ≡ checked bs) (each : (q : refused.Refusal) → executable.asked q bs ≡ true) (typed : Bytes bs) where
  the_parts : p ≡ parts_in bs
  the_parts =
      let e : Ok p ≡ Ok (parts_in bs) = is ∙ accepted bs (each TooShort) (each NoMark) (each OtherProcessor) (each FillerNotZero) (each BadSizes) (each OtherLength) (each AddressTooLarge) in cc

  listing_short : 4 * length (listing p) + 31 * 512 ≤ 31 * length bs + 248
  listing_short = subst (λ x. 4 * length (listing x) + 31 * 512 ≤ 31 * length bs + 248) (sym the_parts) (listing_length bs typed (each OtherLength) (each AddressTooLarge))

  measured : (n : ℕ) → n ≡ min (0 + length (listing p)) (2 ^ 64 - 1) → n ≡ length (listing p)
  measured n e = omega (arith, e, listing_short, executable_length bs (each BadSizes) (each OtherLength))

  no_room : (room : ℕ) → room < length (listing p) → (listed bs room ≡ Err OutputTooShort) × (room_for (parts_in bs) room ≡ false)
  no_room room h =
      let f = lt-leb (length (listing p)) room h in (
        ap (λ r. listed_parts r room) (sym is) ∙ cond-false _ _ _ f,
        ap (λ x. room_for x room) (sym the_parts) ∙ f,
      )

  with_room : (room : ℕ) → length (listing p) ≤ room → (listed bs room ≡ Ok (listing p)) × (room_for (parts_in bs) room ≡ true)
  with_room room h =
      let t = le-leb (length (listing p)) room h in (
        ap (λ r. listed_parts r room) (sym is) ∙ cond-true _ _ _ t,
        ap (λ x. room_for x room) (sym the_parts) ∙ t,
      )

  earlier : (room : ℕ) (q : Refusal) → rank_of q < 7 → asked q bs room ≡ true
  earlier room (Executable q) h = each q
  earlier room OutputTooShort h = absurd (omega arith)

  all_asked : (room : ℕ) → room_for (parts_in bs) room ≡ true → (q : Refusal) → asked q bs room ≡ true
  all_asked room t (Executable q) = each q
  all_asked room t OutputTooShort = t

  -- what the call ensures, over an output that was o and is o' now
  pub record Answers (o o' : List ℕ) (r : Result ℕ Refusal) : Type 0 where
    pub value : r ≡ length_of (listed bs (length o))
    pub output : o' ≡ output_after (listed bs (length o)) o
    pub first : OnlyFirstNo bs (length o) r

  -- where what was measured is longer than the output
  pub refused_27 : (o : List ℕ) (n : ℕ) → n ≡ min (0 + length (listing p)) (2 ^ 64 - 1) → length o < n → Answers o o (Err OutputTooShort)
  refused_27 o n measures longer =
      let shut = no_room (length o) (omega (arith, measured n measures, longer)) in
      record {
        value = sym (ap length_of shut.0);
        output = sym (ap (λ r. output_after r o) shut.0);
        first = (shut.1, earlier (length o));
      }

  -- and where it is not, and was then written
  pub written : (o o' : List ℕ) (n k : ℕ) → n ≡ min (0 + length (listing p)) (2 ^ 64 - 1) → n ≤ length o → Wrote o 0 (listing p) k o' → Answers o o' (Ok k)
  written o o' n k measures fits wrote =
      let short : length (listing p) ≤ length o = omega (arith, measured n measures) in
      let wide = with_room (length o) short in
      record {
        value = ap Ok (measured k wrote.ends) ∙ sym (ap length_of wide.0);
        output = wrote.laid ∙ overlay_whole o (listing p) short ∙ sym (ap (λ r. output_after r o) wide.0);
        first = all_asked (length o) wide.1;
      }
