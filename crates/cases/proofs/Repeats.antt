-- Parts that stand some times.
use Rattle.std.proofs.Common.{◌≡◌, ℕ, zero, suc, ◌+◌, ◌*◌, ◌≤◌, List, ◌++◌, length, take, refl, sym, ap, ◌∙◌, append_assoc, arith, length-append}
use Rattle.std.proofs.Math.Nat.{mul-le-mul_right}
use Rattle.std.proofs.Math.Seq.{take-append-add, take-append_seam}
use Rattle.cases.specs.Repeated.{repeated}

-- (done + more) parts of a size have room where there are that many
pub room_left : (done more times size rest total : ℕ) → done + more ≤ times → total ≡ times * size → rest + done * size ≡ total → more * size ≤ rest
room_left done more times size rest total h is split =
    let all : (done + more) * size ≤ times * size = mul-le-mul_right size h in
    let both : (done + more) * size ≡ done * size + more * size = omega arith in
    omega (arith, all, both, is, split)

pub repeated_sum : (m n : ℕ) (part : List ℕ) → repeated m part ++ repeated n part ≡ repeated (m + n) part
repeated_sum zero n part = grind arith
repeated_sum (suc m) n part =
    let next : suc (m + n) ≡ suc m + n = omega arith in
    append_assoc part (repeated m part) (repeated n part) ∙ ap (λ l. part ++ l) (repeated_sum m n part) ∙ ap (λ k. repeated k part) next

pub repeated_length : (n : ℕ) (part : List ℕ) → length (repeated n part) ≡ n * length part
repeated_length zero part = omega arith
repeated_length (suc n) part = let more = repeated_length n part in grind (arith, more, length-append part (repeated n part))

pub repeated_start : (m n : ℕ) (part : List ℕ) → m ≤ n → take (m * length part) (repeated n part) ≡ repeated m part
repeated_start zero n part _ = let none : 0 * length part ≡ 0 = omega arith in rw none refl
repeated_start (suc m) zero part h = grind arith
repeated_start (suc m) (suc n) part h =
    let less : m ≤ n = omega (arith, h) in
    let size : suc m * length part ≡ length part + m * length part = omega arith in
    rw size (take-append-add part (repeated n part) (m * length part) ∙ ap (λ l. part ++ l) (repeated_start m n part less))

-- a copy of the first parts follows all of them
pub copied_start : (m n : ℕ) (part rest : List ℕ) → m ≤ n → take ((n + m) * length part) (repeated n part ++ (take (m * length part) (repeated n part) ++ rest)) ≡ repeated (n + m) part
copied_start m n part rest h =
    let size : (n + m) * length part ≡ length (repeated n part) + m * length part = rw (repeated_length n part) (omega arith) in
    let again : take (m * length part) (repeated m part ++ rest) ≡ repeated m part = rw (sym (repeated_length m part)) (take-append_seam (repeated m part) rest) in
    rw size (rw (repeated_start m n part h)
    (take-append-add (repeated n part) (repeated m part ++ rest) (m * length part) ∙ ap (λ l. repeated n part ++ l) again ∙ repeated_sum n m part))

-- the same of the bytes that stand there
pub copied : (m n size : ℕ) (part first copy rest : List ℕ) → length part ≡ size → m ≤ n → first ≡ repeated n part → copy ≡ take (m * size) first → take ((n + m) * size) (first ++ (copy ++ rest)) ≡ repeated (n + m) part
copied m n size part first copy rest sized less stands same =
    let from : copy ≡ take (m * size) (repeated n part) = same ∙ ap (λ l. take (m * size) l) stands in
    rw stands (rw from (rw (sym sized) (copied_start m n part rest less)))
