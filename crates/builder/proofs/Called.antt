-- What the call answers and leaves.
use Rattle.std.proofs.Common.{◌≡◌, ℕ, ◌+◌, ◌*◌, ◌/◌, ◌≤◌, List, ◌++◌, length, take, drop, Ok, Err, Result, sym, refl, ap, ◌∙◌, arith, length-append}
use Rattle.std.specs.List.{flat_map}
use Rattle.std.proofs.lemmas.List.{take_at}
use Rattle.executable.specs.Check.{Parts, checked}
use Rattle.executable.specs.declared.refusal.Refusal as executable
use Rattle.lexer.specs.Text.{lines_of}
use Rattle.assembler.specs.Labels.{name_in}
use Rattle.assembler.specs.Assembled.{Assembled, good, bad, assembled, answer_of, labels_of, output_of}
use Rattle.assembler.specs.Emit.{four_bytes}
use Rattle.assembler.specs.declared.question.Refusal.{Refusal}
use Rattle.builder.specs.Built.{text_labels, text_code, text_constants, text_start, text_parts, text_executable, text_summary, numbers_of, summary_of, labels_left}
use Rattle.builder.specs.Source.{code_in, constants_in, stack_in, start_in}
use Rattle.builder.specs.declared.summary.Summary.{Summary}
use Rattle.builder.proofs.Header.{quads}
use Rattle.builder.proofs.Sound.{Sound, sound}

left_by : (t : List ℕ) (a : Assembled) → Sound t a → labels_of a ≡ labels_left t (answer_of a)
left_by t (good bytes ls) s = s.0
left_by t (bad q n ls) s = s

pub labels_left_are : (t : List ℕ) (cap room : ℕ) → labels_of (assembled t cap room) ≡ labels_left t (answer_of (assembled t cap room))
labels_left_are t cap room = left_by t (assembled t cap room) (sound t cap room)

-- the executable stands at the begin of the output
abbrev Stands : List ℕ → List ℕ → ℕ → Type 0
Stands t result n = (n ≤ length result) × (checked (take n result) ≡ Ok (text_parts t))

stands_by : (t : List ℕ) (a : Assembled) (out result : List ℕ) (n : ℕ) → Sound t a → Ok n ≡ answer_of a → result ≡ output_of a out → Stands t result n
stands_by t (good bytes ls) out result n s told is =
    let m : n ≡ length bytes = cc in
    let long : length result ≡ length bytes + length (drop (length bytes) out) = ap length is ∙ length-append bytes (drop (length bytes) out) in
    (omega arith, ap (λ x. checked (take n x)) is ∙ ap checked (take_at bytes (drop (length bytes) out) n (sym m)) ∙ s.1)
stands_by t (bad q k ls) out result n s told is = let z : ◌≡◌ {A = ℕ} 0 1 = cc in absurd (omega arith)

pub stands : (t : List ℕ) (cap : ℕ) (out result : List ℕ) (n : ℕ) → Ok n ≡ answer_of (assembled t cap (length out)) → result ≡ output_of (assembled t cap (length out)) out → Stands t result n
stands t cap out result n told is = stands_by t (assembled t cap (length out)) out result n (sound t cap (length out)) told is

-- and it is that of the lines
abbrev Whole : List ℕ → List ℕ → List ℕ → ℕ → Type 0
Whole t out result n = (n ≡ length (text_executable t)) × (result ≡ text_executable t ++ drop (length (text_executable t)) out)

whole_by : (t : List ℕ) (a : Assembled) (out result : List ℕ) (n : ℕ) → Sound t a → Ok n ≡ answer_of a → result ≡ output_of a out → Whole t out result n
whole_by t (good bytes ls) out result n s told is =
    let m : n ≡ length bytes = cc in
    (m ∙ ap length s.2, is ∙ ap (λ b. b ++ drop (length b) out) s.2)
whole_by t (bad q k ls) out result n s told is = let z : ◌≡◌ {A = ℕ} 0 1 = cc in absurd (omega arith)

pub whole : (t : List ℕ) (cap : ℕ) (out result : List ℕ) (n : ℕ) → Ok n ≡ answer_of (assembled t cap (length out)) → result ≡ output_of (assembled t cap (length out)) out → Whole t out result n
whole t cap out result n told is = whole_by t (assembled t cap (length out)) out result n (sound t cap (length out)) told is

-- a refusal leaves the output
pub same_output : (a : Assembled) (r : Refusal) (out : List ℕ) → Err r ≡ answer_of a → output_of a out ≡ out
same_output (good bytes ls) r out told = let z : ◌≡◌ {A = ℕ} 0 1 = cc in absurd (omega arith)
same_output (bad q k ls) r out told = refl

abbrev numbers : ℕ → ℕ → ℕ → ℕ → ℕ → Summary
numbers n c k f s = record { length = n; code = c; constants = k; first = f; stack = s }

-- the numbers that are told are those of the lines
pub numbers_are : (t : List ℕ) (r : Result ℕ Refusal) (n : ℕ) (s : Summary) → Ok n ≡ r → Ok s ≡ summary_of t r → n ≡ length (text_executable t) → s ≡ text_summary t
numbers_are t r n s is told long =
    let e : Ok s ≡ summary_of t (Ok n) = told ∙ ap (summary_of t) (sym is) in
    let same : s ≡ record { length = n; code = length (text_code t); constants = length (text_constants t); first = text_start t; stack = stack_in (lines_of t) } = cc in
    same ∙ ap (λ k. numbers k (length (text_code t)) (length (text_constants t)) (text_start t) (stack_in (lines_of t))) long

pub refused_same : (t : List ℕ) (q : Refusal) (r : Result ℕ Refusal) → Err q ≡ r → Err q ≡ summary_of t r
refused_same t q r e = ap (summary_of t) e

-- a quarter of the bytes
quarter : (bs ws : List ℕ) → bs ≡ flat_map four_bytes ws → length bs / 4 ≡ length ws
quarter bs ws e = let h : length bs ≡ 4 * length ws = ap length e ∙ quads ws in omega arith

-- the numbers of the parts that the lines say
pub summed : (t : List ℕ) (r : Result ℕ Refusal) (n : ℕ) (p : Parts) (s : Summary) → Ok n ≡ r → ◌≡◌ {A = Result Parts executable.Refusal} (Ok p) (Ok (text_parts t)) → s ≡ numbers_of n p → Ok s ≡ summary_of t r
summed t r n p s told is made =
    let same : p ≡ text_parts t = cc in
    let c = code_in (name_in t) (text_labels t) (lines_of t) in
    let k = constants_in (lines_of t) in
    let f = start_in (name_in t) (text_labels t) (lines_of t) in
    let q = stack_in (lines_of t) in
    ap Ok (
    made ∙ ap (numbers_of n) same
    ∙ ap (λ x. numbers n x (length (flat_map four_bytes k) / 4) f q) (quarter (flat_map four_bytes c) c refl)
    ∙ ap (λ x. numbers n (length c) x f q) (quarter (flat_map four_bytes k) k refl))
    ∙ ap (summary_of t) told

pub as_long : (xs : List ℕ) (n : ℕ) (p : Parts) (s : Summary) → s ≡ numbers_of n p → checked (take s.length xs) ≡ checked (take n xs)
as_long xs n p s made = ap (λ x. checked (take x.length xs)) made

-- what is accepted is not refused
pub not_refused : (p : Parts) (q : executable.Refusal) (r : Result Parts executable.Refusal) → Err q ≡ r → r ≡ Ok p → ⊥
not_refused p q r e h = let both : Err q ≡ Ok p = e ∙ h in let z : ◌≡◌ {A = ℕ} 0 1 = cc in omega arith
