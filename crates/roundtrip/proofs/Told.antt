-- What the comparison of two accepted executables tells of their listings and of themselves.
use Rattle.std.proofs.Common.{◌≡◌, ℕ, Bool, true, List, Ok, Result, sym, ap, ◌∙◌}
use Rattle.std.specs.Str.{bytes_eq}
use Rattle.std.proofs.lemmas.Slice.Eq.{bytes_eq-Decides}
use Rattle.std.proofs.lemmas.Bool.{cond-true}
use Rattle.std.proofs.lemmas.Bool.Decides.{Decides-like}
use Rattle.executable.specs.Check.{Parts, parts_in, checked}
use Rattle.listing.specs.Listing.{listing, room_for, listed_parts, listed}
use Rattle.listing.specs.declared.refusal.Refusal.{Refusal}
use Rattle.roundtrip.specs.Laws.{Bytes}
use Rattle.roundtrip.specs.Compared.{of_both, compared, TellsEqual}
use Rattle.roundtrip.proofs.Back.{apart}
use Rattle.roundtrip.proofs.Questions.{each_yes, the_parts}

-- an accepted executable is listed where its listing has room
has_listing : (bs : List ℕ) (room : ℕ) (p : Parts) → checked bs ≡ Ok p → room_for p room ≡ true → listed bs room ≡ Ok (listing p)
has_listing bs room p is fits = ap (λ r. listed_parts r room) is ∙ cond-true _ _ _ fits

pub tells_equal : (xs ys : List ℕ) (left_room right_room : ℕ) (r : Result Bool Refusal) → Bytes xs → Bytes ys → r ≡ compared xs ys left_room right_room → TellsEqual xs ys left_room right_room r
tells_equal xs ys left_room right_room r bytes_x bytes_y told p q is_p is_q fits_p fits_q =
    let laws = apart xs ys bytes_x bytes_y (each_yes xs p is_p) (each_yes ys q is_q) in
    let left : listing p ≡ listing (parts_in xs) = ap listing (the_parts xs p is_p) in
    let right : listing q ≡ listing (parts_in ys) = ap listing (the_parts ys q is_q) in
    let same = bytes_eq xs ys in
    record {
      same = same;
      answer =
          told
          ∙ ap (λ l. of_both same l (listed ys right_room)) (has_listing xs left_room p is_p fits_p)
          ∙ ap (of_both same (Ok (listing p))) (has_listing ys right_room q is_q fits_q);
      listings = Decides-like same (λ e. left ∙ laws.1 e ∙ sym right) (λ e. laws.0 (sym left ∙ e ∙ right)) (bytes_eq-Decides xs ys);
      executables = bytes_eq-Decides xs ys;
    }
