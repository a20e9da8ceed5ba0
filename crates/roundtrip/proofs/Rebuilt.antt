-- The bytes of an accepted executable, put together again.
use Rattle.std.proofs.Common.{◌≡◌, ℕ, suc, ◌+◌, ◌*◌, ◌/◌, ◌%◌, ◌<◌, ◌≤◌, true, ◌&&◌, eqb, ltb, leb, List, [], ◌∷◌, ◌++◌, length, get_or, take, drop, replicate, sym, refl, ap, ◌∙◌, arith, length-drop, length-take}
use Rattle.std.specs.List.{flat_map}
use Rattle.std.proofs.lemmas.Slice.Eq.{bytes_eq-Decides}
use Rattle.std.proofs.lemmas.List.{append_assoc, take-append-drop, drop-drop, drop-take}
use Rattle.std.proofs.lemmas.Bool.{and_parts, eqb-true, leb-true, ltb-true}
use Rattle.executable.specs.Bytes.{little_endian, number_at, words_of}
use Rattle.executable.specs.Questions.{mark, code_size, constants_size, first_instruction, stack_pointer, processor, all_zero}
use Rattle.executable.proofs.Quads.{four}
use Rattle.assembler.specs.Emit.{four_bytes, executable_of}
use Rattle.executable.specs.Check.{parts_in}
use Rattle.executable.specs.declared.refusal.Refusal.TheVariants.{NoMark, OtherProcessor, FillerNotZero, BadSizes, OtherLength, AddressTooLarge}
use Rattle.listing.proofs.Room.{bytes_take, bytes_drop}
use Rattle.roundtrip.specs.Laws.{Bytes, Accepted}

low_byte : (x q r : ℕ) → x ≡ r + 256 * q → r < 256 → x % 256 ≡ r
low_byte x q r e h = omega arith

-- four bytes are those of the number that they write
four_back : (a b c d : ℕ) → a < 256 → b < 256 → c < 256 → d < 256 → four_bytes (little_endian (a ∷ b ∷ c ∷ d ∷ [])) ≡ a ∷ b ∷ c ∷ d ∷ []
four_back a b c d ha hb hc hd =
    let n = little_endian (a ∷ b ∷ c ∷ d ∷ []) in
    let is : n ≡ a + 256 * b + 65536 * c + 16777216 * d = omega arith in
    let first : n / 256 ≡ b + 256 * c + 65536 * d = omega arith in
    let second : n / 65536 ≡ c + 256 * d = omega arith in
    let third : n / 16777216 ≡ d = omega arith in
    let one : n % 256 ≡ a = omega arith in
    let two : n / 256 % 256 ≡ b = low_byte (n / 256) (c + 256 * d) b (omega arith) hb in
    let three : n / 65536 % 256 ≡ c = low_byte (n / 65536) d c (omega arith) hc in
    let last : n / 16777216 % 256 ≡ d = low_byte (n / 16777216) 0 d (omega arith) hd in
    ap (λ x. x ∷ n / 256 % 256 ∷ n / 65536 % 256 ∷ n / 16777216 % 256 ∷ []) one
    ∙ ap (λ x. a ∷ x ∷ n / 65536 % 256 ∷ n / 16777216 % 256 ∷ []) two
    ∙ ap (λ x. a ∷ b ∷ x ∷ n / 16777216 % 256 ∷ []) three
    ∙ ap (λ x. a ∷ b ∷ c ∷ x ∷ []) last

number_back : (bs : List ℕ) (i : ℕ) → Bytes bs → i + 4 ≤ length bs → four_bytes (number_at i bs) ≡ take 4 (drop i bs)
number_back bs i h l =
    ap (λ x. four_bytes (little_endian (take 4 x))) (four bs i l)
    ∙ four_back (get_or bs i 0) (get_or bs (i + 1) 0) (get_or bs (i + 2) 0) (get_or bs (i + 3) 0) (h i) (h (i + 1)) (h (i + 2)) (h (i + 3))
    ∙ sym (ap (take 4) (four bs i l))

-- the next k bytes from a place, in front of what follows them
front_back : (i k : ℕ) (front bs : List ℕ) → front ≡ take k (drop i bs) → front ++ drop (i + k) bs ≡ drop i bs
front_back i k front bs e = ap (λ l. l ++ drop (i + k) bs) e ∙ ap (λ l. take k (drop i bs) ++ l) (sym (drop-drop k i bs)) ∙ take-append-drop k (drop i bs)

-- the number at a place, in front of what follows it
field : (bs : List ℕ) (i v : ℕ) (rest : List ℕ) → Bytes bs → i + 4 ≤ length bs → v ≡ number_at i bs → rest ≡ drop (i + 4) bs → four_bytes v ++ rest ≡ drop i bs
field bs i v rest h l e f = ap (λ x. four_bytes v ++ x) f ∙ front_back i 4 (four_bytes v) bs (ap four_bytes e ∙ number_back bs i h l)

-- whole words are the bytes that they were read from
words_count : (xs : List ℕ) → length xs % 4 ≡ 0 → 4 * length (words_of xs) ≡ length xs
words_count (a ∷ b ∷ c ∷ d ∷ rest) h = omega (arith, words_count rest (omega arith))
words_count (a ∷ b ∷ c ∷ []) h = absurd (omega arith)
words_count (a ∷ b ∷ []) h = absurd (omega arith)
words_count (a ∷ []) h = absurd (omega arith)
words_count [] h = refl

words_back : (xs : List ℕ) → Bytes xs → length xs % 4 ≡ 0 → flat_map four_bytes (words_of xs) ≡ xs
words_back (a ∷ b ∷ c ∷ d ∷ rest) h l =
    ap (λ x. x ++ flat_map four_bytes (words_of rest)) (four_back a b c d (h 0) (h 1) (h 2) (h 3))
    ∙ ap (λ x. a ∷ b ∷ c ∷ d ∷ x) (words_back rest (λ i. h (suc (suc (suc (suc i))))) (omega arith))
words_back (a ∷ b ∷ c ∷ []) h l = absurd (omega arith)
words_back (a ∷ b ∷ []) h l = absurd (omega arith)
words_back (a ∷ []) h l = absurd (omega arith)
words_back [] h l = refl

joined_append : (xs ys : List ℕ) → flat_map four_bytes (xs ++ ys) ≡ flat_map four_bytes xs ++ flat_map four_bytes ys
joined_append [] ys = refl
joined_append (x ∷ xs) ys = ap (λ l. four_bytes x ++ l) (joined_append xs ys)

zeros : (xs : List ℕ) → all_zero xs ≡ true → xs ≡ replicate (length xs) 0
zeros [] h = refl
zeros (x ∷ xs) h =
    let both = and_parts (eqb x 0) (all_zero xs) h in
    ap (λ y. y ∷ xs) (eqb-true x 0 both.0) ∙ ap (λ l. 0 ∷ l) (zeros xs both.1)

seven : (m a b c d e z y : List ℕ) → (m ++ (a ++ (b ++ (c ++ (d ++ (e ++ z)))))) ++ y ≡ m ++ (a ++ (b ++ (c ++ (d ++ (e ++ (z ++ y))))))
seven m a b c d e z y = simp append_assoc

module _ (bs : List ℕ) (accepted : Accepted bs) where
  -- the sizes: multiples of 4, at most 262,144 together, and all of the length but 512
  pub whole : length bs ≡ 512 + code_size bs + constants_size bs
  whole = eqb-true (length bs) (512 + code_size bs + constants_size bs) (accepted OtherLength)

  sizes : (code_size bs % 4 ≡ 0) × (constants_size bs % 4 ≡ 0) × (code_size bs + constants_size bs ≤ 262144)
  sizes =
      let one = and_parts (eqb (code_size bs % 4) 0) (eqb (constants_size bs % 4) 0 && leb (code_size bs + constants_size bs) 262144) (accepted BadSizes) in
      let two = and_parts (eqb (constants_size bs % 4) 0) (leb (code_size bs + constants_size bs) 262144) one.1 in
      (eqb-true (code_size bs % 4) 0 one.0, eqb-true (constants_size bs % 4) 0 two.0, leb-true (code_size bs + constants_size bs) 262144 two.1)

  code_length : length (parts_in bs).code ≡ code_size bs
  code_length = omega (arith, length-take (code_size bs) (drop 512 bs), length-drop 512 bs, whole)

  constants_length : length (parts_in bs).constants ≡ constants_size bs
  constants_length = omega (arith, length-drop (512 + code_size bs) bs, whole)

  -- the words of both segments have the sizes in the header
  pub code_words : 4 * length (words_of (parts_in bs).code) ≡ code_size bs
  code_words = words_count (parts_in bs).code (ap (λ n. n % 4) code_length ∙ sizes.0) ∙ code_length

  pub constants_words : 4 * length (words_of (parts_in bs).constants) ≡ constants_size bs
  constants_words = words_count (parts_in bs).constants (ap (λ n. n % 4) constants_length ∙ sizes.1) ∙ constants_length

  pub few_words : length (words_of (parts_in bs).code) + length (words_of (parts_in bs).constants) ≤ 65536
  few_words = omega (arith, code_words, constants_words, sizes.2)

  addresses : (first_instruction bs < 1048576) × (stack_pointer bs < 1048576)
  addresses =
      let both = and_parts (ltb (first_instruction bs) 1048576) (ltb (stack_pointer bs) 1048576) (accepted AddressTooLarge) in
      (ltb-true (first_instruction bs) 1048576 both.0, ltb-true (stack_pointer bs) 1048576 both.1)

  pub first_small : first_instruction bs < 1048576
  first_small = addresses.0

  pub stack_small : stack_pointer bs < 1048576
  stack_small = addresses.1

  module _ (h : Bytes bs) where
    body_back : flat_map four_bytes (words_of (parts_in bs).code ++ words_of (parts_in bs).constants) ≡ drop 512 bs
    body_back =
        let cs = (parts_in bs).code in
        let ks = (parts_in bs).constants in
        joined_append (words_of cs) (words_of ks)
        ∙ ap (λ l. l ++ flat_map four_bytes (words_of ks)) (words_back cs (bytes_take (code_size bs) (drop 512 bs) (bytes_drop 512 bs h)) (ap (λ n. n % 4) code_length ∙ sizes.0))
        ∙ ap (λ l. cs ++ l) (words_back ks (bytes_drop (512 + code_size bs) bs h) (ap (λ n. n % 4) constants_length ∙ sizes.1) ∙ sym (drop-drop (code_size bs) 512 bs))
        ∙ take-append-drop (code_size bs) (drop 512 bs)

    filler : drop 36 (take 512 bs) ≡ replicate 476 0
    filler =
        let long : length (drop 36 (take 512 bs)) ≡ 476 = omega (arith, length-drop 36 (take 512 bs), length-take 512 bs, whole) in
        zeros (drop 36 (take 512 bs)) (accepted FillerNotZero) ∙ ap (λ n. replicate n 0) long

    filler_back : replicate 476 0 ++ drop 512 bs ≡ drop 36 bs
    filler_back = front_back 36 476 (replicate 476 0) bs (sym filler ∙ drop-take 36 476 bs)

    mark_back : mark ++ drop 16 bs ≡ bs
    mark_back = ap (λ l. l ++ drop 16 bs) (sym ((bytes_eq-Decides (take 16 bs) mark).0 (accepted NoMark))) ∙ take-append-drop 16 bs

    -- the executable of the words, sizes and addresses of an accepted executable is that executable
    pub rebuilt : executable_of (length (words_of (parts_in bs).code)) (length (words_of (parts_in bs).constants)) (parts_in bs).first (parts_in bs).stack (words_of (parts_in bs).code ++ words_of (parts_in bs).constants) ≡ bs
    rebuilt =
        let n = length (words_of (parts_in bs).code) in
        let k = length (words_of (parts_in bs).constants) in
        let f = first_instruction bs in
        let s = stack_pointer bs in
        let y = flat_map four_bytes (words_of (parts_in bs).code ++ words_of (parts_in bs).constants) in
        let at32 = field bs 32 239 (replicate 476 0 ++ y) h (omega (arith, whole)) (sym (eqb-true (processor bs) 239 (accepted OtherProcessor))) (ap (λ l. replicate 476 0 ++ l) body_back ∙ filler_back) in
        let at28 = field bs 28 s (four_bytes 239 ++ (replicate 476 0 ++ y)) h (omega (arith, whole)) refl at32 in
        let at24 = field bs 24 f (four_bytes s ++ (four_bytes 239 ++ (replicate 476 0 ++ y))) h (omega (arith, whole)) refl at28 in
        let at20 = field bs 20 (4 * k) (four_bytes f ++ (four_bytes s ++ (four_bytes 239 ++ (replicate 476 0 ++ y)))) h (omega (arith, whole)) constants_words at24 in
        let at16 = field bs 16 (4 * n) (four_bytes (4 * k) ++ (four_bytes f ++ (four_bytes s ++ (four_bytes 239 ++ (replicate 476 0 ++ y))))) h (omega (arith, whole)) code_words at20 in
        seven mark (four_bytes (4 * n)) (four_bytes (4 * k)) (four_bytes f) (four_bytes s) (four_bytes 239) (replicate 476 0) y
        ∙ ap (λ l. mark ++ l) at16 ∙ mark_back
