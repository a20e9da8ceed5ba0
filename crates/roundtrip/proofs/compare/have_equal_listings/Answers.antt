use Rattle.std.proofs.Common.{◌≡◌, length, Ok, sym, ap, ◌∙◌}
use Rattle.executable.specs.Check.{parts_in}
use Rattle.std.specs.Str.{bytes_eq}
use Rattle.std.proofs.lemmas.Slice.Eq.{slice_eq-Decides}
use Rattle.listing.specs.Listing.{listing, listed}
use Rattle.roundtrip.specs.Compared.{of_both, compared, second_after}
use Rattle.std.proofs.lemmas.Result.{err_from_is_err_and}
use Rattle.roundtrip.proofs.Answered.{on_page, listed_whole, not_listed, compared_same}
use Rattle.roundtrip.proofs.Told.{tells_equal}
use Rattle.roundtrip.proofs.compare.have_equal_listings.Goals as goal
use Rattle.std.proofs.lemmas.Bool.Decides.{Decides-eqb}

pub returns-in_err-length : goal.returns-in_err-length
returns-in_err-length c =
    let right = listed c.args.right.now (length c.args.other.now) in
    let refused = not_listed (listed c.args.left.now (length c.args.text.now)) c.in_err-length.field-0.0 c.in_err-length.ensures.value in
    let e = err_from_is_err_and c.from_residual.result c.from_residual.ensures.1 in
    let value : c.from_residual.result ≡ compared c.args.left.now c.args.right.now (length c.args.text.now) (length c.args.other.now) = rw (e.1, e.2) (sym (ap (λ x. of_both (bytes_eq c.args.left.now c.args.right.now) x right) refused)) in
    record {
      value = value;
      left = c.list.ensures.output;
      right = sym (ap (λ x. second_after x right c.args.other.now) refused);
      equal = tells_equal c.args.left.now c.args.right.now (length c.args.text.now) (length c.args.other.now) _ (λ i. (c.type_inv.left i).fits) (λ i. (c.type_inv.right i).fits) value;
    }

pub returns-in_err-count : goal.returns-in_err-count
returns-in_err-count c =
    let left = listed_whole c.args.left.now (length c.args.text.now) c.in_ok-length.ensures.first in
    let right = listed c.args.right.now (length c.args.other.now) in
    let refused = not_listed right c.in_err-count.field-0.0 c.in_err-count.ensures.value in
    let e = err_from_is_err_and c.from_residual-in_err-count.result c.from_residual-in_err-count.ensures.1 in
    let value : c.from_residual-in_err-count.result ≡ compared c.args.left.now c.args.right.now (length c.args.text.now) (length c.args.other.now) = rw (e.1, e.2) (sym (ap (λ x. of_both (bytes_eq c.args.left.now c.args.right.now) x right) left ∙ ap (of_both (bytes_eq c.args.left.now c.args.right.now) (Ok (listing (parts_in c.args.left.now)))) refused)) in
    record {
      value = value;
      left = c.list.ensures.output;
      right = c.list-2.ensures.output ∙ sym (ap (λ x. second_after x right c.args.other.now) left);
      equal = tells_equal c.args.left.now c.args.right.now (length c.args.text.now) (length c.args.other.now) _ (λ i. (c.type_inv.left i).fits) (λ i. (c.type_inv.right i).fits) value;
    }

pub returns : goal.returns
returns c =
    let one = c.in_ok-length.ensures in
    let two = c.in_ok-count.ensures in
    let left = listed_whole c.args.left.now (length c.args.text.now) one.first in
    let value : Ok c.eq.result ≡ compared c.args.left.now c.args.right.now (length c.args.text.now) (length c.args.other.now) =
    compared_same c.args.left.now c.args.right.now (length c.args.text.now) (length c.args.other.now) (λ i. (c.type_inv.left i).fits) (λ i. (c.type_inv.right i).fits) one.first two.first
    c.eq.result c.front.result.now c.front-2.result.now
    (c.front.ensures ∙ on_page c.args.left.now (length c.args.text.now) one.first c.args.text.now c.list.new.out c.in_ok-length.length one.value one.output)
    (c.front-2.ensures ∙ on_page c.args.right.now (length c.args.other.now) two.first c.args.other.now c.list-2.new.out c.in_ok-count.count two.value two.output)
    (slice_eq-Decides Decides-eqb _ _ _ c.eq.ensures)
    in
    record {
      value = value;
      left = c.list.ensures.output;
      right = c.list-2.ensures.output ∙ sym (ap (λ x. second_after x (listed c.args.right.now (length c.args.other.now)) c.args.other.now) left);
      equal = tells_equal c.args.left.now c.args.right.now (length c.args.text.now) (length c.args.other.now) _ (λ i. (c.type_inv.left i).fits) (λ i. (c.type_inv.right i).fits) value;
    }
