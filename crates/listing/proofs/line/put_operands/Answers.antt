use Rattle.std.proofs.Common.{◌≡◌, append-nil, arith, rules, w16, w32, SFits, to_z, of_z}
use Rattle.std.proofs.lemmas.Int.{to_z-of_z}
use Rattle.output.proofs.Puts.{put_then}
use Rattle.listing.proofs.line.put_operands.Goals as goal

pub returns-in-Rr : goal.returns-in-Rr
returns-in-Rr c =
    let m = c.in-Rr.modifier in
    let fits : SFits w16 m = search rules in
    let same : to_z w16 (of_z w16 m) ≡ m = to_z-of_z w16 m fits in
    rw c.in-Rr.is (simp append-nil (rw same at (put_then c.put_register.ensures (put_then c.put_register-in-Rr.ensures c.put_number.ensures))))

pub returns-in-Ri : goal.returns-in-Ri
returns-in-Ri c =
    let i = c.in-Ri.immediate.value in
    let few = c.in-Ri.immediate.fits in
    let fits : SFits w32 i = record { sfits = omega (arith, few) } in
    let same : to_z w32 (of_z w32 i) ≡ i = to_z-of_z w32 i fits in
    rw c.in-Ri.is (simp append-nil (rw same at (put_then c.put_register-in-Ri.ensures c.put_number-in-Ri.ensures)))

pub returns-in-Rm : goal.returns-in-Rm
returns-in-Rm c = rw c.in-Rm.is (simp append-nil (put_then c.put_register-in-Rm.ensures c.put_number-in-Rm.ensures))
