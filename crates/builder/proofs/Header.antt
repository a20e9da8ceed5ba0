-- The check of an executable that was put together from its words.
use Rattle.std.proofs.Common.{◌≡◌, ℕ, ◌+◌, ◌*◌, ◌/◌, ◌%◌, ◌<◌, ◌≤◌, ◌&&◌, eqb, ltb, leb, List, [], ◌∷◌, ◌++◌, length, take, drop, Ok, sym, refl, ap, ◌∙◌, arith, length-append}
use Rattle.std.specs.List.{flat_map}
use Rattle.std.proofs.lemmas.List.{take_at, drop_at, drop-drop}
use Rattle.std.proofs.lemmas.Bool.{and_from, eq-eqb, le-leb, lt-ltb}
use Rattle.executable.specs.Bytes.{little_endian}
use Rattle.executable.specs.Check.{Parts, parts_in, checked}
use Rattle.executable.specs.Questions.{code_size, constants_size, first_instruction, stack_pointer}
use Rattle.executable.proofs.Accepted.{accepted}
use Rattle.assembler.specs.Emit.{four_bytes, header_of, executable_of}

-- four bytes write the number that they were made from
four_forth : (n : ℕ) → n < 4294967296 → little_endian (four_bytes n) ≡ n
four_forth n h =
    let second : n / 65536 ≡ n / 256 / 256 = omega arith in
    let third : n / 16777216 ≡ n / 65536 / 256 = omega arith in
    let small : n / 16777216 < 256 = omega arith in
    let last : n / 16777216 % 256 ≡ n / 16777216 = omega arith in
    let high : n / 65536 ≡ n / 65536 % 256 + 256 * (n / 16777216) = omega arith in
    let middle : n / 256 ≡ n / 256 % 256 + 256 * (n / 65536) = omega arith in
    let low : n ≡ n % 256 + 256 * (n / 256) = omega arith in
    omega arith

pub quads : (ws : List ℕ) → length (flat_map four_bytes ws) ≡ 4 * length ws
quads [] = refl
quads (w ∷ ws) = let more = quads ws in omega (arith, length-append (four_bytes w) (flat_map four_bytes ws))

joined_append : (xs ys : List ℕ) → flat_map four_bytes (xs ++ ys) ≡ flat_map four_bytes xs ++ flat_map four_bytes ys
joined_append [] ys = refl
joined_append (x ∷ xs) ys = ap (λ l. four_bytes x ++ l) (joined_append xs ys)

abbrev parts : List ℕ → List ℕ → ℕ → ℕ → Parts
parts c k f s = record { code = c; constants = k; first = f; stack = s }

module _ (cs ks : List ℕ) (f s : ℕ) (few : length cs + length ks ≤ 65536) (hf : f < 1048576) (hs : s < 1048576) where
  abbrev bytes : List ℕ
  bytes = executable_of (length cs) (length ks) f s (cs ++ ks)

  abbrev body : List ℕ
  body = flat_map four_bytes (cs ++ ks)

  code_size_is : code_size bytes ≡ 4 * length cs
  code_size_is = four_forth (4 * length cs) (omega arith)

  constants_size_is : constants_size bytes ≡ 4 * length ks
  constants_size_is = four_forth (4 * length ks) (omega arith)

  first_is : first_instruction bytes ≡ f
  first_is = four_forth f (omega arith)

  stack_is : stack_pointer bytes ≡ s
  stack_is = four_forth s (omega arith)

  long : length bytes ≡ 512 + 4 * length cs + 4 * length ks
  long = omega (arith, length-append (header_of (length cs) (length ks) f s) body, quads (cs ++ ks), length-append cs ks)

  past_header : drop 512 bytes ≡ flat_map four_bytes cs ++ flat_map four_bytes ks
  past_header = drop_at (header_of (length cs) (length ks) f s) body 512 refl ∙ joined_append cs ks

  code_part : take (code_size bytes) (drop 512 bytes) ≡ flat_map four_bytes cs
  code_part = ap (take (code_size bytes)) past_header ∙ take_at (flat_map four_bytes cs) (flat_map four_bytes ks) (code_size bytes) (quads cs ∙ sym code_size_is)

  constants_part : drop (512 + code_size bytes) bytes ≡ flat_map four_bytes ks
  constants_part = sym (drop-drop (code_size bytes) 512 bytes) ∙ ap (drop (code_size bytes)) past_header ∙ drop_at (flat_map four_bytes cs) (flat_map four_bytes ks) (code_size bytes) (quads cs ∙ sym code_size_is)

  parts_are : parts_in bytes ≡ parts (flat_map four_bytes cs) (flat_map four_bytes ks) f s
  parts_are =
      ap (λ x. parts x (drop (512 + code_size bytes) bytes) (first_instruction bytes) (stack_pointer bytes)) code_part
      ∙ ap (λ x. parts (flat_map four_bytes cs) x (first_instruction bytes) (stack_pointer bytes)) constants_part
      ∙ ap (λ x. parts (flat_map four_bytes cs) (flat_map four_bytes ks) x (stack_pointer bytes)) first_is
      ∙ ap (λ x. parts (flat_map four_bytes cs) (flat_map four_bytes ks) f x) stack_is

  pub header_checked : checked bytes ≡ Ok (parts (flat_map four_bytes cs) (flat_map four_bytes ks) f s)
  header_checked =
      let a = code_size_is in
      let b = constants_size_is in
      let c = first_is in
      let d = stack_is in
      let l = long in
      accepted bytes
      (le-leb 512 (length bytes) (omega arith)) refl refl refl
      (and_from (eqb (code_size bytes % 4) 0) (eqb (constants_size bytes % 4) 0 && leb (code_size bytes + constants_size bytes) 262144)
      (eq-eqb (code_size bytes % 4) 0 (ap (λ n. n % 4) code_size_is ∙ omega arith))
      (and_from (eqb (constants_size bytes % 4) 0) (leb (code_size bytes + constants_size bytes) 262144) (eq-eqb (constants_size bytes % 4) 0 (ap (λ n. n % 4) constants_size_is ∙ omega arith)) (le-leb (code_size bytes + constants_size bytes) 262144 (omega arith))))
      (eq-eqb (length bytes) (512 + code_size bytes + constants_size bytes) (omega arith))
      (and_from (ltb (first_instruction bytes) 1048576) (ltb (stack_pointer bytes) 1048576) (lt-ltb (first_instruction bytes) 1048576 (omega arith)) (lt-ltb (stack_pointer bytes) 1048576 (omega arith)))
      ∙ ap Ok parts_are
