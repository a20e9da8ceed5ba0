-- The bytes of a tape are those of its items, and a rest.
use Rattle.std.proofs.Common.{◌≡◌, ℕ, zero, suc, ◌+◌, ◌*◌, ◌/◌, ◌%◌, ◌<◌, ◌≤◌, Bool, true, false, eqb, ltb, leb, List, [], ◌∷◌, ◌++◌, length, take, drop, sym, refl, ap, ◌∙◌, subst, le_of_suc-le-suc, not-suc-le-zero, arith, append_assoc}
use Rattle.std.specs.List.{All}
use Rattle.std.proofs.lemmas.List.{length-take-le, take-append-drop}
use Rattle.std.proofs.lemmas.List.Elements.{All-head, All-tail, All-take}
use Rattle.std.proofs.lemmas.Bool.{and_parts, leb-true, ltb-true, eqb-true, true≢false}
use Rattle.host.specs.Codes.{BeginNoItem, RestAt, Parted, all_coded}
use Rattle.host.specs.Tapes.{little_endian, bytes_of, size, whole, item_of, items_from, spoiled_from, items, spoiled, coded, tape_code}

-- the operand of a whole item is there
pub whole_fits : (c : ℕ) (bs : List ℕ) → whole c bs ≡ true → size c ≤ length bs
whole_fits c bs w = leb-true (size c) (length bs) (and_parts (ltb 0 (size c)) (leb (size c) (length bs)) w).1

-- each is a byte
abbrev pub Bytes : List ℕ → Type 0
Bytes bs = All (λ b. ltb b 256 ≡ true) bs

-- bytes are those of the number that they write
bytes_back : (bs : List ℕ) → Bytes bs → bytes_of (length bs) (little_endian bs) ≡ bs
bytes_back [] h = refl
bytes_back (b ∷ bs) h =
    let n = b + 256 * little_endian bs in
    let here : b < 256 = ltb-true b 256 (All-head (λ b. ltb b 256 ≡ true) b bs h) in
    let low : n % 256 ≡ b = omega arith in
    let high : n / 256 ≡ little_endian bs = omega arith in
    ap (λ x. x ∷ bytes_of (length bs) (n / 256)) low ∙ ap (λ x. b ∷ bytes_of (length bs) x) high ∙ ap (λ l. b ∷ l) (bytes_back bs (All-tail (λ b. ltb b 256 ≡ true) b bs h))

operand_back : (k : ℕ) (bs : List ℕ) → Bytes bs → k ≤ length bs → bytes_of k (little_endian (take k bs)) ≡ take k bs
operand_back k bs h l =
    ap (λ n. bytes_of n (little_endian (take k bs))) (sym (length-take-le k bs l)) ∙ bytes_back (take k bs) (All-take (λ b. ltb b 256 ≡ true) k bs h)

-- a command and its operand are the bytes of their item
abbrev CodedBack : List ℕ → ℕ → Type 0
CodedBack bs c = size c ≤ length bs → coded (item_of c (take (size c) bs)) ≡ c ∷ take (size c) bs

coded_known : (c k : ℕ) (bs : List ℕ) → eqb c k ≡ true → CodedBack bs k → CodedBack bs c
coded_known c k bs e h = subst (CodedBack bs) (sym (eqb-true c k e)) h

coded_by : (c : ℕ) (bs : List ℕ) → Bytes bs → (n r h : Bool) → eqb c 0x4E ≡ n → eqb c 0x44 ≡ r → eqb c 0x43 ≡ h → ltb 0 (size c) ≡ true → CodedBack bs c
coded_by c bs t true r h en er eh w = coded_known c 0x4E bs en (λ l. ap (λ x. 0x4E ∷ x) (operand_back 4 bs t l))
coded_by c bs t false true h en er eh w = coded_known c 0x44 bs er (λ l. ap (λ x. 0x44 ∷ x) (operand_back 8 bs t l))
coded_by c bs t false false true en er eh w = coded_known c 0x43 bs eh (λ l. ap (λ x. 0x43 ∷ x) (operand_back 1 bs t l))
coded_by c bs t false false false en er eh w = absurd (true≢false (sym (rw (en, er, eh) at w)))

pub coded_back : (c : ℕ) (bs : List ℕ) → Bytes bs → whole c bs ≡ true → coded (item_of c (take (size c) bs)) ≡ c ∷ take (size c) bs
coded_back c bs t w =
    coded_by c bs t (eqb c 0x4E) (eqb c 0x44) (eqb c 0x43) refl refl refl (and_parts (ltb 0 (size c)) (leb (size c) (length bs)) w).0 (whole_fits c bs w)

-- bytes past so many are those of their items, and a rest
record PartedFrom (k : ℕ) (bs : List ℕ) : Type 0 where
  pub rest : List ℕ
  pub parts : drop k bs ≡ all_coded tape_code (items_from k bs) ++ rest
  pub ending : RestAt tape_code (spoiled_from k bs) rest

module _ (begin : (us : List ℕ) → items us ≡ [] → spoiled us ≡ true → BeginNoItem tape_code us) where
  parted_at : (c : ℕ) (bs : List ℕ) → Bytes bs → (size c ≤ length bs → PartedFrom (size c) bs) → (b : Bool) → whole c bs ≡ b → PartedFrom 0 (c ∷ bs)
  parted_at c bs t later false w = record {
    rest = c ∷ bs;
    parts = rw w refl;
    ending = rw w (begin (c ∷ bs) (rw w refl) (rw w refl));
  }
  parted_at c bs t later true w =
      let past = later (whole_fits c bs w) in
      let item = item_of c (take (size c) bs) in
      let more = all_coded tape_code (items_from (size c) bs) in
      let operand : coded item ≡ c ∷ take (size c) bs = coded_back c bs t w in
      let all : c ∷ bs ≡ (coded item ++ more) ++ past.rest =
      ap (λ l. c ∷ l) (sym (take-append-drop (size c) bs)) ∙ ap (λ l. c ∷ (take (size c) bs ++ l)) past.parts ∙ ap (λ l. l ++ (more ++ past.rest)) (sym operand) ∙ sym (append_assoc (coded item) more past.rest) in
      record { rest = past.rest; parts = rw w all; ending = rw w past.ending }

  parted_from : (k : ℕ) (bs : List ℕ) → Bytes bs → k ≤ length bs → PartedFrom k bs
  parted_from zero [] t h = record { rest = []; parts = refl; ending = refl }
  parted_from (suc k) [] t h = absurd (not-suc-le-zero h)
  parted_from zero (c ∷ bs) t h = let later = All-tail (λ b. ltb b 256 ≡ true) c bs t in parted_at c bs later (parted_from (size c) bs later) (whole c bs) refl
  parted_from (suc k) (c ∷ bs) t h =
      let past = parted_from k bs (All-tail (λ b. ltb b 256 ≡ true) c bs t) (le_of_suc-le-suc h) in
      record { rest = past.rest; parts = past.parts; ending = past.ending }

  pub tape_parted : (bs : List ℕ) → Bytes bs → Parted tape_code bs
  tape_parted bs t =
      let all = parted_from 0 bs t (omega arith) in
      record { rest = all.rest; parts = all.parts; ending = all.ending }
