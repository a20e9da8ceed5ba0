-- How long a listing can be.
use Rattle.std.proofs.Common.{◌≡◌, ℕ, suc, ◌+◌, ◌-◌, ◌*◌, ◌%◌, ◌^◌, ◌<◌, ◌≤◌, true, ◌&&◌, eqb, ltb, leb, List, [], ◌∷◌, ◌++◌, map, length, get_or, take, drop, pos, negsuc, Some, None, codes, decimal, Option, sym, refl, ap, ◌∙◌, ⊎_elim, arith, length-append, length-drop, length-take, rules}
use lib.Signed.{mag}
use Rattle.std.specs.List.{flat_map}
use Rattle.std.specs.Fmt.{signed_decimal}
use Rattle.std.proofs.lemmas.Fmt.{length-decimal-le, length_signed_le}
use Rattle.std.proofs.lemmas.List.{get_or-take, get_or-drop, get_or_past, append_assoc}
use Rattle.std.proofs.lemmas.Bool.{cases_lt, cond_both, ltb-true, ltb-false, leb-true, eqb-true, and_parts}
use Rattle.isa.specs.Command.{with_opcode, with_operands, operands_in}
use Rattle.isa.specs.Fields.{code_field, first_field, source_field, modifier_field, immediate_field, address_field}
use Rattle.isa.specs.Fields as fields
use Rattle.isa.specs.Operands.{j}
use Rattle.isa.specs.Table.{name_of, form_of, opcode_at}
use Rattle.isa.specs.declared.form.Form.{Form}
use Rattle.isa.specs.declared.form.Form.TheVariants.{Rr, Ri, Rm, J}
use Rattle.isa.specs.declared.opcode.Opcode.{Opcode}
use Rattle.executable.specs.Bytes.{words_of}
use Rattle.executable.specs.Check.{Parts, parts_in}
use Rattle.executable.specs.Questions.{code_size, constants_size, first_instruction, stack_pointer, right_sizes, right_length, right_addresses}
use Rattle.listing.specs.Lines.{after_blank, line_text, number_line, register_name, code_line, word_line}
use Rattle.listing.specs.Listing.{listing}
use Rattle.executable.specs.declared.segment.Segment.{Segment}
use Rattle.executable.specs.declared.segment.Segment.TheVariants.{Code, Constants}
use Rattle.listing.proofs.Turns.{words_length}

-- no line has more bytes than this
abbrev pub Short : List (List ℕ) → Type 0
Short line = length (line_text line) ≤ 31

name_short : (o : Opcode) → length (name_of o) ≤ 7
name_short o = search rules

register_short : (r : ℕ) → r < 16 → length (register_name r) ≤ 3
register_short r h = omega (arith, length-decimal-le 2 r (omega arith) (omega arith) (omega arith))

-- the length of further words, each after a blank
abbrev wide : List (List ℕ) → ℕ
wide [] = 0
wide (w ∷ ws) = 1 + length w + wide ws

wide_is : (ws : List (List ℕ)) → length (flat_map after_blank ws) ≡ wide ws
wide_is [] = refl
wide_is (w ∷ ws) = omega (arith, length-append w (flat_map after_blank ws), wide_is ws)

line_length : (w : List ℕ) (ws : List (List ℕ)) → length (line_text (w ∷ ws)) ≡ length w + wide ws + 1
line_length w ws = omega (arith, length-append (w ++ flat_map after_blank ws) (10 ∷ []), length-append w (flat_map after_blank ws), wide_is ws)

short : (w : List ℕ) (ws : List (List ℕ)) → length w + wide ws ≤ 30 → Short (w ∷ ws)
short w ws h = omega (arith, line_length w ws)

pub number_short : (name : List ℕ) (n : ℕ) → length name ≤ 7 → n < 2 ^ 32 → Short (number_line name n)
number_short name n h k = short name (decimal n ∷ []) (omega (arith, length-decimal-le 10 n (omega arith) (omega arith) (omega arith)))

-- what k bits mean is held by k bits
pub mag_signed : (k h n : ℕ) → 2 ^ k ≡ 2 * h → 2 ^ (k - 1) ≡ h → n < 2 ^ k → mag (fields.signed k n) < h
mag_signed k h n e f l = cond_both (ltb n (2 ^ (k - 1))) (pos n) (negsuc (2 ^ k - 1 - n)) (λ z. mag z < h)
    (λ t. omega (arith, ltb-true n (2 ^ (k - 1)) t)) (λ t. omega (arith, ltb-false n (2 ^ (k - 1)) t))

form_short : (o : Opcode) (w : ℕ) → w < 2 ^ 32 → (f : Form) → Short (code_line (with_operands o (operands_in f w)) w)
form_short o w h Rr =
    let m : mag (modifier_field w) < 32768 = mag_signed 16 32768 (w % 2 ^ 16) refl refl (omega arith) in
    short (name_of o) (register_name (first_field w) ∷ register_name (source_field w) ∷ signed_decimal (modifier_field w) ∷ [])
    (omega (arith, name_short o, register_short (first_field w) (omega arith), register_short (source_field w) (omega arith), length_signed_le 5 (modifier_field w) (omega (arith, m)) (omega (arith, m))))
form_short o w h Ri =
    let m : mag (immediate_field w) < 524288 = mag_signed 20 524288 (w % 2 ^ 20) refl refl (omega arith) in
    short (name_of o) (register_name (first_field w) ∷ signed_decimal (immediate_field w) ∷ [])
    (omega (arith, name_short o, register_short (first_field w) (omega arith), length_signed_le 6 (immediate_field w) (omega (arith, m)) (omega (arith, m))))
form_short o w h Rm =
    short (name_of o) (register_name (first_field w) ∷ decimal (address_field w) ∷ [])
    (omega (arith, name_short o, register_short (first_field w) (omega arith), length-decimal-le 7 (address_field w) (omega arith) (omega arith) (omega arith)))
form_short o w h J = cond_both (eqb (first_field w) 0) (Some (j (address_field w))) None (λ n. Short (code_line (with_operands o n) w))
    (λ _. short (name_of o) (decimal (address_field w) ∷ []) (omega (arith, name_short o, length-decimal-le 7 (address_field w) (omega arith) (omega arith) (omega arith))))
    (λ _. number_short (codes "word") w (omega arith) h)

code_short : (w : ℕ) → w < 2 ^ 32 → (q : Option Opcode) → Short (code_line (with_opcode q w) w)
code_short w h None = number_short (codes "word") w (omega arith) h
code_short w h (Some o) = form_short o w h (form_of o)

pub word_short : (s : Segment) (w : ℕ) → w < 2 ^ 32 → Short (word_line s w)
word_short Code w h = code_short w h (opcode_at (code_field w))
word_short Constants w h = number_short (codes "uint32") w (omega arith) h

-- words of 32 bits
abbrev pub Words : List ℕ → Type 0
Words [] = Unit {0}
Words (w ∷ ws) = (w < 2 ^ 32) × Words ws

segment_length : (s : Segment) (ws : List ℕ) → Words ws → length (flat_map line_text (map (word_line s) ws)) ≤ 31 * length ws
segment_length s [] h = omega arith
segment_length s (w ∷ ws) h = omega (arith, length-append (line_text (word_line s w)) (flat_map line_text (map (word_line s) ws)), word_short s w h.0, segment_length s ws h.1)

joined_append : (xs ys : List (List (List ℕ))) → flat_map line_text (xs ++ ys) ≡ flat_map line_text xs ++ flat_map line_text ys
joined_append [] ys = refl
joined_append (x ∷ xs) ys = ap (λ l. line_text x ++ l) (joined_append xs ys) ∙ sym (append_assoc (line_text x) (flat_map line_text xs) (flat_map line_text ys))

-- a listing in its four parts
pub listing_parts : (p : Parts) → listing p
    ≡ line_text (number_line (codes "stack") p.stack) ++ (flat_map line_text (map (word_line Code) (words_of p.code)) ++ (flat_map line_text (map (word_line Constants) (words_of p.constants)) ++ (line_text (number_line (codes "end") p.first) ++ [])))
listing_parts p =
    let cs = map (word_line Code) (words_of p.code) in
    let ks = map (word_line Constants) (words_of p.constants) in
    let last = number_line (codes "end") p.first ∷ [] in
    ap (λ l. line_text (number_line (codes "stack") p.stack) ++ l) (joined_append cs (ks ++ last) ∙ ap (λ l. flat_map line_text cs ++ l) (joined_append ks last))

-- bytes
abbrev pub Bytes : List ℕ → Type 0
Bytes bs = (i : ℕ) → get_or bs i 0 < 256

pub words_small : (bs : List ℕ) → Bytes bs → Words (words_of bs)
words_small (a ∷ b ∷ c ∷ d ∷ rest) h = (omega (arith, h 0, h 1, h 2, h 3), words_small rest (λ i. h (suc (suc (suc (suc i))))))
words_small (a ∷ b ∷ c ∷ []) h = tt
words_small (a ∷ b ∷ []) h = tt
words_small (a ∷ []) h = tt
words_small [] h = tt

pub bytes_take : (n : ℕ) (bs : List ℕ) → Bytes bs → Bytes (take n bs)
bytes_take n bs h i = ⊎_elim
    (λ (l : i < n). omega (arith, get_or-take n bs i 0 l, h i))
    (λ (g : n ≤ i). omega (arith, get_or_past (take n bs) i 0 (omega (arith, length-take n bs))))
    (cases_lt i n)

pub bytes_drop : (n : ℕ) (bs : List ℕ) → Bytes bs → Bytes (drop n bs)
bytes_drop n bs h i = omega (arith, get_or-drop n bs i 0, h (n + i))

-- the longest listing of an accepted executable: 31 bytes for each line
pub listing_length : (bs : List ℕ) → Bytes bs → right_length bs ≡ true → right_addresses bs ≡ true → 4 * length (listing (parts_in bs)) + 31 * 512 ≤ 31 * length bs + 248
listing_length bs h long addresses =
    let p = parts_in bs in
    let whole : length bs ≡ 512 + code_size bs + constants_size bs = eqb-true (length bs) (512 + code_size bs + constants_size bs) long in
    let both = and_parts (ltb (first_instruction bs) 1048576) (ltb (stack_pointer bs) 1048576) addresses in
    let first : p.first < 1048576 = ltb-true (first_instruction bs) 1048576 both.0 in
    let stack : p.stack < 1048576 = ltb-true (stack_pointer bs) 1048576 both.1 in
    let code = segment_length Code (words_of p.code) (words_small p.code (bytes_take (code_size bs) (drop 512 bs) (bytes_drop 512 bs h))) in
    let constants = segment_length Constants (words_of p.constants) (words_small p.constants (bytes_drop (512 + code_size bs) bs h)) in
    let codes4 = words_length p.code in
    let constants4 = words_length p.constants in
    let code_bytes : length p.code ≤ code_size bs = omega (arith, length-take (code_size bs) (drop 512 bs)) in
    let constants_bytes : length p.constants ≤ constants_size bs = omega (arith, length-drop (512 + code_size bs) bs, whole) in
    let head = number_short (codes "stack") p.stack (omega arith) (omega (arith, stack)) in
    let tail = number_short (codes "end") p.first (omega arith) (omega (arith, first)) in
    let a = line_text (number_line (codes "stack") p.stack) in
    let b = flat_map line_text (map (word_line Code) (words_of p.code)) in
    let c = flat_map line_text (map (word_line Constants) (words_of p.constants)) in
    let d = line_text (number_line (codes "end") p.first) in
    omega (arith, ap length (listing_parts p), length-append a (b ++ (c ++ (d ++ []))), length-append b (c ++ (d ++ [])), length-append c (d ++ []), length-append d [], head, tail, code, constants, codes4, constants4, code_bytes, constants_bytes, whole)

-- at most 262,144 bytes of words
pub executable_length : (bs : List ℕ) → right_sizes bs ≡ true → right_length bs ≡ true → length bs ≤ 262656
executable_length bs sizes long =
    let total : code_size bs + constants_size bs ≤ 262144 = leb-true (code_size bs + constants_size bs) 262144 (and_parts (eqb (constants_size bs % 4) 0) (leb (code_size bs + constants_size bs) 262144) (and_parts (eqb (code_size bs % 4) 0) (eqb (constants_size bs % 4) 0 && leb (code_size bs + constants_size bs) 262144) sizes).1).1 in
    omega (arith, total, eqb-true (length bs) (512 + code_size bs + constants_size bs) long)
