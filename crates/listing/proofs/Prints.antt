-- What stands on the page of the listing program.
use Rattle.std.proofs.Common.{◌≡◌, ℕ, ◌^◌, ◌<◌, ◌≤◌, true, false, List, length, take, drop, Ok, Err, Result, IfOk, IfErr, sym, ap, ◌∙◌, arith, rules}
use Rattle.std.proofs.lemmas.List.{take_at}
use Rattle.std.proofs.lemmas.Bool.{cond-true, cond-false, cond_both, le-leb, leb-true, le-ltb, both_ways}
use Rattle.executable.specs.Check.{Parts, parts_in, checked}
use Rattle.executable.specs.Questions as executable
use Rattle.executable.specs.declared.refusal.Refusal as refused
use Rattle.executable.specs.declared.refusal.Refusal.TheVariants.{TooShort, NoMark, OtherProcessor, FillerNotZero, BadSizes, OtherLength, AddressTooLarge}
use Rattle.executable.proofs.Accepted.{accepted}
use Rattle.listing.specs.Listing.{listing, room_for, listed_parts, listed, length_of, output_after, OnlyFirstNo}
use Rattle.listing.specs.Numbers.{number_of}
use Rattle.listing.specs.Printout.{taken, text_of, refused_text, is_refused}
use Rattle.listing.specs.declared.refusal.Refusal.{Refusal}
use Rattle.listing.specs.declared.refusal.Refusal.TheVariants.{Executable, OutputTooShort}
use Rattle.listing.proofs.Room.{Bytes, listing_length}
use Rattle.output.specs.Overlay.{overlay}
use Rattle.output.specs.Writes.{Put}
use Rattle.output.specs.declared.writer.Writer.{Writer}
use Rattle.output.proofs.Writes.{overlay_whole}

-- a text written at the start of a page that has room for it
pub on_page : (o text : List ℕ) (before after : Writer) → before.out.now ≡ o → before.len ≡ 0 → Put before text after → length text ≤ length o → length o < 2 ^ 64
    → (take after.len after.out.now ≡ text) × (after.len ≤ length o)
on_page o text before after lent start put fits small =
    let e : after.len ≡ length text = omega (arith, put.wrote.ends, start) in
    let laid : after.out.now ≡ overlay o 0 text = put.wrote.laid ∙ ap (λ n. overlay before.out.now n text) start ∙ ap (λ l. overlay l 0 text) lent in (
      ap (take after.len) (laid ∙ overlay_whole o text fits) ∙ take_at text (drop (length text) o) after.len (sym e),
      omega (arith, e),
    )

asked_before : (q : refused.Refusal) → executable.rank_of q < 7
asked_before q = search rules

-- an input that is not too long is checked
short_input : (bs : List ℕ) → length bs ≤ 8192 → taken bs ≡ checked bs
short_input bs h = cond-false _ _ _ (le-ltb 8192 (length bs) h)

module _ (bs : List ℕ) (room : ℕ) (each : (q : refused.Refusal) → executable.asked q bs ≡ true) where
  parts_are : checked bs ≡ Ok (parts_in bs)
  parts_are = accepted bs (each TooShort) (each NoMark) (each OtherProcessor) (each FillerNotZero) (each BadSizes) (each OtherLength) (each AddressTooLarge)

  -- what a short input lists as fits a page
  pub fits_page : Bytes bs → length bs ≤ 8192 → 65536 ≤ room → room_for (parts_in bs) room ≡ true
  fits_page typed h r = le-leb (length (listing (parts_in bs))) room (omega (arith, listing_length bs typed (each OtherLength) (each AddressTooLarge)))

  pub listed_is : room_for (parts_in bs) room ≡ true → listed bs room ≡ Ok (listing (parts_in bs))
  listed_is t = ap (λ r. listed_parts r room) parts_are ∙ cond-true _ _ _ t

  pub taken_is : length bs ≤ 8192 → taken bs ≡ Ok (parts_in bs)
  taken_is h = short_input bs h ∙ parts_are

-- what the call answers and leaves for a short input, over a page that has room
module _ (bs o o' : List ℕ) (h : length bs ≤ 8192) (out : o' ≡ output_after (listed bs (length o)) o) where
  -- the listing stands on the page
  pub listed_page : (r : Result ℕ Refusal) → r ≡ length_of (listed bs (length o)) → OnlyFirstNo bs (length o) r
      → IfOk r (λ n. (take n o' ≡ text_of (taken bs)) × (is_refused (taken bs) ≡ false))
  listed_page (Ok n) v each =
      let own = λ (q : refused.Refusal). each (Executable q) in
      let text = listing (parts_in bs) in
      let is = listed_is bs (length o) own (each OutputTooShort) in
      let got = taken_is bs (length o) own h in
      let size : Ok n ≡ Ok (length text) = v ∙ ap length_of is in
      let same : n ≡ length text = cc in (
        ap (take n) (out ∙ ap (λ r. output_after r o) is) ∙ take_at text (drop (length text) o) n (sym same) ∙ ap text_of (sym got),
        ap is_refused got,
      )
  listed_page (Err q) v each = tt

-- and ends within it
pub listed_within : (bs : List ℕ) (room : ℕ) (r : Result ℕ Refusal) → r ≡ length_of (listed bs room) → OnlyFirstNo bs room r → IfOk r (λ n. n ≤ room)
listed_within bs room (Ok n) v each =
    let text = listing (parts_in bs) in
    let fits = each OutputTooShort in
    let size : Ok n ≡ Ok (length text) = v ∙ ap length_of (listed_is bs room (λ (q : refused.Refusal). each (Executable q)) fits) in
    let same : n ≡ length text = cc in
    omega (arith, same, leb-true (length text) room fits)
listed_within bs room (Err q) v each = tt

-- a refused input has its own refusal
refusal_is : (room : ℕ) (r : Result Parts refused.Refusal) (q : refused.Refusal) → Err (Executable q) ≡ length_of (listed_parts r room) → r ≡ Err q
refusal_is room (Err e) q v = let same : Err (Executable q) ≡ Err (Executable e) = v in cc
refusal_is room (Ok p) q v =
    cond_both (room_for p room) (Ok (listing p)) (Err OutputTooShort) (λ r. Err (Executable q) ≡ length_of r → Ok p ≡ Err q)
    (λ _ (e : Err (Executable q) ≡ Ok (length (listing p))). let z : ◌≡◌ {A = ℕ} 0 1 = cc in absurd (omega arith))
    (λ _ (e : Err (Executable q) ≡ Err OutputTooShort). let z : ◌≡◌ {A = ℕ} 0 1 = cc in absurd (omega arith))
    v

-- and a page has room, so the refusal is the input's own
pub refused_page : (bs o : List ℕ) (r : Result ℕ Refusal) → Bytes bs → length bs ≤ 8192 → 65536 ≤ length o → r ≡ length_of (listed bs (length o)) → OnlyFirstNo bs (length o) r
    → IfErr r (λ q. (refused_text (number_of q) ≡ text_of (taken bs)) × (is_refused (taken bs) ≡ true))
refused_page bs o (Ok n) typed h room v first = tt
refused_page bs o (Err (Executable e)) typed h room v first =
    let is : Err e ≡ taken bs = sym (short_input bs h ∙ refusal_is (length o) (checked bs) e v) in
    (ap text_of is, ap is_refused (sym is))
refused_page bs o (Err OutputTooShort) typed h room v first =
    let own = λ (q : refused.Refusal). first.1 (Executable q) (asked_before q) in
    absurd (both_ways (room_for (parts_in bs) (length o)) first.0 (fits_page bs (length o) own typed h room))
