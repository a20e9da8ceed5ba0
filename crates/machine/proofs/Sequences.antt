-- The commands of the calling convention as sequences.
use Rattle.std.proofs.Common.{◌≡◌, ℕ, zero, suc, ◌+◌, ◌<◌, ◌-◌, ◌%◌, ◌^◌, true, cond, List, [], ◌∷◌, length, pos, Some, None, Ok, Err, Result, refl, ap, sym, ◌∙◌, arith, rules, slice_index, slice_set}
use Rattle.std.proofs.Math.ListN.{length-set}
use Rattle.std.proofs.lemmas.List.{get_or-set_other}
use Rattle.std.specs.Result.{result_and}
use Rattle.host.specs.Meaning.{Meaning}
use Rattle.isa.specs.Fields.{bits, signed, code_field, first_field, source_field, modifier_word, immediate_word, address_field}
use Rattle.isa.specs.Table.{opcode_at}
use Rattle.isa.specs.declared.opcode.Opcode.{Opcode}
use Rattle.isa.specs.Command.{instruction, encoded}
use Rattle.isa.specs.Operands.{rr, ri, j}
use Rattle.isa.specs.declared.opcode.Opcode.TheVariants.{Push, Pop, Mov, Jmp, Prc, Call, Calli, Ret}
use Rattle.machine.specs.Act.{fault, After, on_yes, perform}
use Rattle.machine.specs.Commands.{act_of, fetch, lowered, raised, push_word, pop_word, set, framed, prepare, enter, return_from}
use Rattle.machine.specs.Cores.{Core, wrapped, in_register, with_register, advanced}
use Rattle.machine.specs.Rules.{Rules, allows, asked, is_inside, register_asked, cell_asked, push_asked}
use Rattle.machine.specs.Sequences.{Part, one_by_one, push_of, pop_of, move_of, jump_of, far_jump, word_of, call_parts, StandsAt, FrameIsOpen, receiver, target, ActLikeSequences}
use Rattle.machine.specs.Step.{State, ended, stepped, command_act, with_opcode}
use Rattle.machine.specs.Table.{operation_of}
use Rattle.machine.specs.declared.access.Access.TheVariants.{Reading, Writing}
use Rattle.machine.specs.declared.cause.Cause.{Cause}
use Rattle.machine.specs.declared.cause.Cause.TheVariants as cause
use Rattle.machine.specs.declared.operation.Operand.TheVariants.{Source}
use Rattle.machine.specs.declared.turn.Turn.TheVariants.{Next}
use Rattle.permit.specs.Rights.{register_level}

-- an open register is read and written
pub may_be_read : (s : Rules) (r : ℕ) → register_level s.rights r ≡ 0 → register_asked s Reading r ≡ Ok tt
may_be_read s r h = ap (λ l. asked (allows Reading l) cause.Register) h

pub may_be_written : (s : Rules) (r : ℕ) → register_level s.rights r ≡ 0 → register_asked s Writing r ≡ Ok tt
may_be_written s r h = ap (λ l. asked (allows Writing l) cause.Register) h

-- a word plus nothing
nothing_added : (n d : ℕ) → d ≡ 0 → n < 2 ^ 32 → wrapped (n + d) ≡ n
nothing_added n d e h = omega (arith, e, h)

-- what follows one question
after_yes : (q : Result Unit Cause) (x : After) (f : After → Result After Cause) → on_yes (on_yes q (λ u. Ok x)) f ≡ on_yes q (λ u. f x)
after_yes (Ok u) x f = refl
after_yes (Err e) x f = refl

yes_same : (q : Result Unit Cause) (f g : Unit → Result After Cause) → ((u : Unit) → f u ≡ g u) → on_yes q f ≡ on_yes q g
yes_same (Ok u) f g h = h u
yes_same (Err e) f g h = refl

-- what a processor, cells and a meaning are after a command that lets the run go on
abbrev left : Core → List ℕ → Meaning → After
left k c m = record { turn = Next; core = k; cells = c; meaning = m }

-- a push
pushes : (s : Rules) (w : ℕ) (k : Core) (c : List ℕ) (m : Meaning) (f : After → Result After Cause) → register_asked s Reading (first_field w) ≡ Ok tt → immediate_word w ≡ 0 → in_register k (first_field w) < 2 ^ 32
    → on_yes (perform s (push_word (fetch w k)) c m) f ≡ on_yes (push_asked s (length c) (in_register k 14)) (λ u. f (left (with_register 14 (lowered (in_register k 14)) k) (slice_set c (in_register k 14) (in_register k (first_field w))) m))
pushes s w k c m f r e h =
    rw (r, nothing_added (in_register k (first_field w)) (immediate_word w) e h)
    (after_yes (push_asked s (length c) (in_register k 14)) _ f)

-- a pop
pops : (s : Rules) (w : ℕ) (k : Core) (c : List ℕ) (m : Meaning) (f : After → Result After Cause) → register_asked s Writing (first_field w) ≡ Ok tt → immediate_word w ≡ 0 → slice_index c (raised (in_register k 14)) < 2 ^ 32
    → on_yes (perform s (pop_word (fetch w k)) c m) f ≡ on_yes (cell_asked s (length c) Reading (raised (in_register k 14))) (λ u. f (left (with_register (first_field w) (slice_index c (raised (in_register k 14))) (with_register 14 (raised (in_register k 14)) k)) c m))
pops s w k c m f r e h =
    rw (r, nothing_added (slice_index c (raised (in_register k 14))) (immediate_word w) e h)
    (after_yes (cell_asked s (length c) Reading (raised (in_register k 14))) _ f)

-- a move
moves : (s : Rules) (w : ℕ) (k : Core) (c : List ℕ) (m : Meaning) (f : After → Result After Cause) → register_asked s Reading (source_field w) ≡ Ok tt → register_asked s Writing (first_field w) ≡ Ok tt → modifier_word w ≡ 0 → in_register k (source_field w) < 2 ^ 32
    → on_yes (perform s (set Source (fetch w k)) c m) f ≡ f (left (with_register (first_field w) (in_register k (source_field w)) k) c m)
moves s w k c m f r q e h = rw (r, q, nothing_added (in_register k (source_field w)) (modifier_word w) e h) refl

-- a list by its first number, and by 16
split : (n : ℕ) (P : List ℕ → Type 0) → ((x : ℕ) (l : List ℕ) → length l ≡ n → P (x ∷ l)) → (l : List ℕ) → length l ≡ suc n → P l
split n P f [] h = absurd (omega (arith, h))
split n P f (x ∷ l) h = f x l (omega (arith, h))

none : (P : List ℕ → Type 0) → P [] → (l : List ℕ) → length l ≡ 0 → P l
none P p [] h = p
none P p (x ∷ l) h = absurd (omega (arith, h))

pub sixteen : (P : List ℕ → Type 0) → ((a0 a1 a2 a3 a4 a5 a6 a7 a8 a9 a10 a11 a12 a13 a14 a15 : ℕ) → P (a0 ∷ a1 ∷ a2 ∷ a3 ∷ a4 ∷ a5 ∷ a6 ∷ a7 ∷ a8 ∷ a9 ∷ a10 ∷ a11 ∷ a12 ∷ a13 ∷ a14 ∷ a15 ∷ [])) → (l : List ℕ) → length l ≡ 16 → P l
sixteen P f l h = split 15 P (λ a0 l0 h0. split 14 (λ r. P (a0 ∷ r)) (λ a1 l1 h1. split 13 (λ r. P (a0 ∷ a1 ∷ r)) (λ a2 l2 h2. split 12 (λ r. P (a0 ∷ a1 ∷ a2 ∷ r)) (λ a3 l3 h3. split 11 (λ r. P (a0 ∷ a1 ∷ a2 ∷ a3 ∷ r)) (λ a4 l4 h4. split 10 (λ r. P (a0 ∷ a1 ∷ a2 ∷ a3 ∷ a4 ∷ r)) (λ a5 l5 h5. split 9 (λ r. P (a0 ∷ a1 ∷ a2 ∷ a3 ∷ a4 ∷ a5 ∷ r)) (λ a6 l6 h6. split 8 (λ r. P (a0 ∷ a1 ∷ a2 ∷ a3 ∷ a4 ∷ a5 ∷ a6 ∷ r)) (λ a7 l7 h7. split 7 (λ r. P (a0 ∷ a1 ∷ a2 ∷ a3 ∷ a4 ∷ a5 ∷ a6 ∷ a7 ∷ r)) (λ a8 l8 h8. split 6 (λ r. P (a0 ∷ a1 ∷ a2 ∷ a3 ∷ a4 ∷ a5 ∷ a6 ∷ a7 ∷ a8 ∷ r)) (λ a9 l9 h9. split 5 (λ r. P (a0 ∷ a1 ∷ a2 ∷ a3 ∷ a4 ∷ a5 ∷ a6 ∷ a7 ∷ a8 ∷ a9 ∷ r)) (λ a10 l10 h10. split 4 (λ r. P (a0 ∷ a1 ∷ a2 ∷ a3 ∷ a4 ∷ a5 ∷ a6 ∷ a7 ∷ a8 ∷ a9 ∷ a10 ∷ r)) (λ a11 l11 h11. split 3 (λ r. P (a0 ∷ a1 ∷ a2 ∷ a3 ∷ a4 ∷ a5 ∷ a6 ∷ a7 ∷ a8 ∷ a9 ∷ a10 ∷ a11 ∷ r)) (λ a12 l12 h12. split 2 (λ r. P (a0 ∷ a1 ∷ a2 ∷ a3 ∷ a4 ∷ a5 ∷ a6 ∷ a7 ∷ a8 ∷ a9 ∷ a10 ∷ a11 ∷ a12 ∷ r)) (λ a13 l13 h13. split 1 (λ r. P (a0 ∷ a1 ∷ a2 ∷ a3 ∷ a4 ∷ a5 ∷ a6 ∷ a7 ∷ a8 ∷ a9 ∷ a10 ∷ a11 ∷ a12 ∷ a13 ∷ r)) (λ a14 l14 h14. split 0 (λ r. P (a0 ∷ a1 ∷ a2 ∷ a3 ∷ a4 ∷ a5 ∷ a6 ∷ a7 ∷ a8 ∷ a9 ∷ a10 ∷ a11 ∷ a12 ∷ a13 ∷ a14 ∷ r)) (λ a15 l15 h15. none (λ r. P (a0 ∷ a1 ∷ a2 ∷ a3 ∷ a4 ∷ a5 ∷ a6 ∷ a7 ∷ a8 ∷ a9 ∷ a10 ∷ a11 ∷ a12 ∷ a13 ∷ a14 ∷ a15 ∷ r)) (f a0 a1 a2 a3 a4 a5 a6 a7 a8 a9 a10 a11 a12 a13 a14 a15) l15 h15) l14 h14) l13 h13) l12 h12) l11 h11) l10 h10) l9 h9) l8 h8) l7 h7) l6 h6) l5 h5) l4 h4) l3 h3) l2 h2) l1 h1) l0 h0) l h

-- a push or a pop, by what follows a yes; and a move
push_then : (s : Rules) (w : ℕ) (k : Core) (c : List ℕ) (m : Meaning) (f : After → Result After Cause) (g : Unit → Result After Cause) → register_asked s Reading (first_field w) ≡ Ok tt → immediate_word w ≡ 0 → in_register k (first_field w) < 2 ^ 32
    → ((u : Unit) → f (left (with_register 14 (lowered (in_register k 14)) k) (slice_set c (in_register k 14) (in_register k (first_field w))) m) ≡ g u)
    → on_yes (perform s (push_word (fetch w k)) c m) f ≡ on_yes (push_asked s (length c) (in_register k 14)) g
push_then s w k c m f g r e h i = pushes s w k c m f r e h ∙ yes_same _ _ _ i

pop_then : (s : Rules) (w : ℕ) (k : Core) (c : List ℕ) (m : Meaning) (f : After → Result After Cause) (g : Unit → Result After Cause) → register_asked s Writing (first_field w) ≡ Ok tt → immediate_word w ≡ 0 → slice_index c (raised (in_register k 14)) < 2 ^ 32
    → ((u : Unit) → f (left (with_register (first_field w) (slice_index c (raised (in_register k 14))) (with_register 14 (raised (in_register k 14)) k)) c m) ≡ g u)
    → on_yes (perform s (pop_word (fetch w k)) c m) f ≡ on_yes (cell_asked s (length c) Reading (raised (in_register k 14))) g
pop_then s w k c m f g r e h i = pops s w k c m f r e h ∙ yes_same _ _ _ i

-- numbers below 2^32
abbrev pub Words : List ℕ → Type 0
Words l = (i : ℕ) → slice_index l i < 2 ^ 32

-- a number modulo 2^32 is one
wrapped_fits : (n : ℕ) → wrapped n < 2 ^ 32
wrapped_fits n = omega arith

-- registers with some flags
abbrev core : List ℕ → ℕ → Core
core l v = record { registers = l; flags = v }

-- parts from registers, up to an end
abbrev begin : Rules → List Part → List ℕ → ℕ → List ℕ → Meaning → Result After Cause
begin s ps l v c m = one_by_one s ps (core l v) c m

-- the words of the parts
abbrev push_13 : ℕ
push_13 = encoded (instruction Push (ri 13 (pos 0)))

abbrev push_15 : ℕ
push_15 = encoded (instruction Push (ri 15 (pos 0)))

abbrev pop_13 : ℕ
pop_13 = encoded (instruction Pop (ri 13 (pos 0)))

abbrev pop_15 : ℕ
pop_15 = encoded (instruction Pop (ri 15 (pos 0)))

abbrev move_13_14 : ℕ
move_13_14 = encoded (instruction Mov (rr 13 14 (pos 0)))

abbrev move_14_13 : ℕ
move_14_13 = encoded (instruction Mov (rr 14 13 (pos 0)))

-- prc
abbrev Prepared : Rules → ℕ → ℕ → List ℕ → Meaning → List ℕ → Type 0
Prepared s w v c m l = Words l → begin s (push_of 13 ∷ move_of 13 14 ∷ []) l v c m ≡ perform s (prepare (fetch w (core l v))) c m

prepared : (s : Rules) (w v : ℕ) (c : List ℕ) (m : Meaning) → FrameIsOpen s → (l : List ℕ) → length l ≡ 16 → Prepared s w v c m l
prepared s w v c m o = sixteen (Prepared s w v c m) λ a0 a1 a2 a3 a4 a5 a6 a7 a8 a9 a10 a11 a12 a13 a14 a15 h.
    push_then s push_13 (core (a0 ∷ a1 ∷ a2 ∷ a3 ∷ a4 ∷ a5 ∷ a6 ∷ a7 ∷ a8 ∷ a9 ∷ a10 ∷ a11 ∷ a12 ∷ a13 ∷ a14 ∷ a15 ∷ []) v) c m (λ a. one_by_one s (move_of 13 14 ∷ []) a.core a.cells a.meaning) (λ u. Ok (left (core (a0 ∷ a1 ∷ a2 ∷ a3 ∷ a4 ∷ a5 ∷ a6 ∷ a7 ∷ a8 ∷ a9 ∷ a10 ∷ a11 ∷ a12 ∷ lowered a14 ∷ lowered a14 ∷ a15 ∷ []) v) (slice_set c a14 a13) m)) (may_be_read s 13 o.frame) refl (h 13)
    (λ u. moves s move_13_14 (core (a0 ∷ a1 ∷ a2 ∷ a3 ∷ a4 ∷ a5 ∷ a6 ∷ a7 ∷ a8 ∷ a9 ∷ a10 ∷ a11 ∷ a12 ∷ a13 ∷ lowered a14 ∷ a15 ∷ []) v) (slice_set c a14 a13) m (λ a. Ok (left a.core a.cells a.meaning)) (may_be_read s 14 o.stack) (may_be_written s 13 o.frame) refl (wrapped_fits (a14 + (2 ^ 32 - 1))))

-- a call up to what follows r13's move
abbrev Entering : Rules → List Part → (List ℕ → Core) → ℕ → List ℕ → Meaning → List ℕ → Type 0
Entering s ps end v c m l = Words l → ((d : List ℕ) → one_by_one s ps (framed (lowered (lowered (slice_index l 14))) (core l v)) d m ≡ Ok (left (end l) d m))
    → begin s (push_of 15 ∷ push_of 13 ∷ move_of 13 14 ∷ ps) l v c m
    ≡ on_yes (push_asked s (length c) (slice_index l 14)) (λ u. on_yes (push_asked s (length (slice_set c (slice_index l 14) (slice_index l 15))) (lowered (slice_index l 14))) (λ u. Ok (left (end l) (slice_set (slice_set c (slice_index l 14) (slice_index l 15)) (lowered (slice_index l 14)) (slice_index l 13)) m)))

entering : (s : Rules) (ps : List Part) (end : List ℕ → Core) (v : ℕ) (c : List ℕ) (m : Meaning) → FrameIsOpen s → (l : List ℕ) → length l ≡ 16 → Entering s ps end v c m l
entering s ps end v c m o = sixteen (Entering s ps end v c m) λ a0 a1 a2 a3 a4 a5 a6 a7 a8 a9 a10 a11 a12 a13 a14 a15 h e.
    push_then s push_15 (core (a0 ∷ a1 ∷ a2 ∷ a3 ∷ a4 ∷ a5 ∷ a6 ∷ a7 ∷ a8 ∷ a9 ∷ a10 ∷ a11 ∷ a12 ∷ a13 ∷ a14 ∷ a15 ∷ []) v) c m (λ a. one_by_one s (push_of 13 ∷ move_of 13 14 ∷ ps) a.core a.cells a.meaning) (λ u. on_yes (push_asked s (length (slice_set c a14 a15)) (lowered a14)) (λ u. Ok (left (end (a0 ∷ a1 ∷ a2 ∷ a3 ∷ a4 ∷ a5 ∷ a6 ∷ a7 ∷ a8 ∷ a9 ∷ a10 ∷ a11 ∷ a12 ∷ a13 ∷ a14 ∷ a15 ∷ [])) (slice_set (slice_set c a14 a15) (lowered a14) a13) m))) (may_be_read s 15 o.next) refl (h 15)
    (λ u. push_then s push_13 (core (a0 ∷ a1 ∷ a2 ∷ a3 ∷ a4 ∷ a5 ∷ a6 ∷ a7 ∷ a8 ∷ a9 ∷ a10 ∷ a11 ∷ a12 ∷ a13 ∷ lowered a14 ∷ a15 ∷ []) v) (slice_set c a14 a15) m (λ a. one_by_one s (move_of 13 14 ∷ ps) a.core a.cells a.meaning) (λ u. Ok (left (end (a0 ∷ a1 ∷ a2 ∷ a3 ∷ a4 ∷ a5 ∷ a6 ∷ a7 ∷ a8 ∷ a9 ∷ a10 ∷ a11 ∷ a12 ∷ a13 ∷ a14 ∷ a15 ∷ [])) (slice_set (slice_set c a14 a15) (lowered a14) a13) m)) (may_be_read s 13 o.frame) refl (h 13)
    (λ u. moves s move_13_14 (core (a0 ∷ a1 ∷ a2 ∷ a3 ∷ a4 ∷ a5 ∷ a6 ∷ a7 ∷ a8 ∷ a9 ∷ a10 ∷ a11 ∷ a12 ∷ a13 ∷ lowered (lowered a14) ∷ a15 ∷ []) v) (slice_set (slice_set c a14 a15) (lowered a14) a13) m (λ a. one_by_one s ps a.core a.cells a.meaning) (may_be_read s 14 o.stack) (may_be_written s 13 o.frame) refl (wrapped_fits (lowered a14 + (2 ^ 32 - 1)))
    ∙ e (slice_set (slice_set c a14 a15) (lowered a14) a13)))

-- calli
jumps : (s : Rules) (n : ℕ) (k : Core) (c : List ℕ) (m : Meaning) → n < 2 ^ 20 → one_by_one s (jump_of n ∷ []) k c m ≡ Ok (left (with_register 15 n k) c m)
jumps s n k c m h =
    let w = encoded (instruction Jmp (j n)) in
    let code : code_field w ≡ 30 = omega (arith, h) in
    let address : address_field w ≡ n = omega (arith, h) in
    ap (λ i. on_yes (perform s (with_opcode (opcode_at i) w k) c m) (λ a. Ok (left a.core a.cells a.meaning))) code
    ∙ ap (λ i. Ok (left (with_register 15 i k) c m)) address

entered : (s : Rules) (w v : ℕ) (c : List ℕ) (m : Meaning) → FrameIsOpen s → (l : List ℕ) → length l ≡ 16 → Words l
    → begin s (push_of 15 ∷ push_of 13 ∷ move_of 13 14 ∷ jump_of (address_field w) ∷ []) l v c m ≡ perform s (enter None (address_field w) (core l v)) c m
entered s w v c m o l n h =
    let t = address_field w in
    entering s (jump_of t ∷ []) (λ r. with_register 15 t (framed (lowered (lowered (slice_index r 14))) (core r v))) v c m o l n h
    (λ d. jumps s t _ d m (omega arith))

-- call
keeps_next : (l : List ℕ) (top : ℕ) → slice_index (slice_set (slice_set l 14 top) 13 top) 15 ≡ slice_index l 15
keeps_next l top = get_or-set_other (slice_set l 14 top) 13 15 top 0 (λ (e : 15 ≡ 13). omega (arith, e)) ∙ get_or-set_other l 14 15 top 0 (λ (e : 15 ≡ 14). omega (arith, e))

receives : (s : Rules) (r t : ℕ) (k : Core) (c : List ℕ) (m : Meaning) (n : ℕ) → r < 16 → register_level s.rights 15 ≡ 0 → register_asked s Writing r ≡ Ok tt → in_register k 15 ≡ n → n < 2 ^ 32
    → one_by_one s (move_of r 15 ∷ far_jump t ∷ []) k c m ≡ Ok (left (with_register 15 t (with_register r n k)) c m)
receives s r t k c m n h o q e b =
    let w = encoded (instruction Mov (rr r 15 (pos 0))) in
    let code : code_field w ≡ 41 = omega (arith, h) in
    let first : first_field w ≡ r = omega (arith, h) in
    let source : source_field w ≡ 15 = omega (arith, h) in
    let rest : w % 2 ^ 16 ≡ 0 = omega (arith, h) in
    let modifier : modifier_word w ≡ 0 = ap (λ i. bits 32 (signed 16 i)) rest in
    let end : After → Result After Cause = λ a. one_by_one s (far_jump t ∷ []) a.core a.cells a.meaning in
    let read : register_asked s Reading (source_field w) ≡ Ok tt = ap (register_asked s Reading) source ∙ may_be_read s 15 o in
    let write : register_asked s Writing (first_field w) ≡ Ok tt = ap (register_asked s Writing) first ∙ q in
    let value : in_register k (source_field w) ≡ n = ap (in_register k) source ∙ e in
    let below : in_register k (source_field w) < 2 ^ 32 = omega (arith, value, b) in
    ap (λ i. on_yes (perform s (with_opcode (opcode_at i) w k) c m) end) code
    ∙ moves s w k c m end read write modifier below
    ∙ ap (λ i. Ok (left (with_register 15 t (with_register i (in_register k (source_field w)) k)) c m)) first
    ∙ ap (λ i. Ok (left (with_register 15 t (with_register r i k)) c m)) value

received : (s : Rules) (r t v : ℕ) (c : List ℕ) (m : Meaning) → FrameIsOpen s → r < 16 → register_asked s Writing r ≡ Ok tt → (l : List ℕ) → length l ≡ 16 → Words l
    → begin s (push_of 15 ∷ push_of 13 ∷ move_of 13 14 ∷ move_of r 15 ∷ far_jump t ∷ []) l v c m ≡ perform s (enter (Some r) t (core l v)) c m
received s r t v c m o i q l n h =
    entering s (move_of r 15 ∷ far_jump t ∷ []) (λ b. with_register 15 t (with_register r (slice_index b 15) (framed (lowered (lowered (slice_index b 14))) (core b v)))) v c m o l n h
    (λ d. receives s r t _ d m (slice_index l 15) i o.next q (keeps_next l _) (h 15))

-- three questions one after another are one, and what follows may count on the second one's yes
three_asked : (p q r : Result Unit Cause) (f g : Result After Cause) → (q ≡ Ok tt → f ≡ g) → on_yes p (λ u. on_yes q (λ u. on_yes r (λ u. f))) ≡ on_yes (result_and p (result_and q r)) (λ u. g)
three_asked (Ok t) (Ok u) (Ok v) f g h = h refl
three_asked (Ok t) (Ok u) (Err e) f g h = refl
three_asked (Ok t) (Err e) r f g h = refl
three_asked (Err e) q r f g h = refl

-- ret
abbrev Returned : Rules → ℕ → List ℕ → Meaning → List ℕ → Type 0
Returned s v c m l = Words l → begin s (move_of 14 13 ∷ pop_of 13 ∷ pop_of 15 ∷ move_of 14 13 ∷ pop_of 13 ∷ []) l v c m ≡ perform s (return_from (core l v)) c m

returned : (s : Rules) (v : ℕ) (c : List ℕ) (m : Meaning) → FrameIsOpen s → Words c → (l : List ℕ) → length l ≡ 16 → Returned s v c m l
returned s v c m o cells = sixteen (Returned s v c m) λ a0 a1 a2 a3 a4 a5 a6 a7 a8 a9 a10 a11 a12 a13 a14 a15 h.
    let last = λ (u : Unit). Ok (left (core (a0 ∷ a1 ∷ a2 ∷ a3 ∷ a4 ∷ a5 ∷ a6 ∷ a7 ∷ a8 ∷ a9 ∷ a10 ∷ a11 ∷ a12 ∷ slice_index c (raised (slice_index c (raised a13))) ∷ raised (slice_index c (raised a13)) ∷ (slice_index c (raised (raised a13))) ∷ []) v) c m) in
    moves s move_14_13 (core (a0 ∷ a1 ∷ a2 ∷ a3 ∷ a4 ∷ a5 ∷ a6 ∷ a7 ∷ a8 ∷ a9 ∷ a10 ∷ a11 ∷ a12 ∷ a13 ∷ a14 ∷ a15 ∷ []) v) c m (λ a. one_by_one s (pop_of 13 ∷ pop_of 15 ∷ move_of 14 13 ∷ pop_of 13 ∷ []) a.core a.cells a.meaning) (may_be_read s 13 o.frame) (may_be_written s 14 o.stack) refl (h 13)
    ∙ pop_then s pop_13 (core (a0 ∷ a1 ∷ a2 ∷ a3 ∷ a4 ∷ a5 ∷ a6 ∷ a7 ∷ a8 ∷ a9 ∷ a10 ∷ a11 ∷ a12 ∷ a13 ∷ a13 ∷ a15 ∷ []) v) c m (λ a. one_by_one s (pop_of 15 ∷ move_of 14 13 ∷ pop_of 13 ∷ []) a.core a.cells a.meaning)
    (λ u. on_yes (cell_asked s (length c) Reading (raised (raised a13))) (λ u. on_yes (cell_asked s (length c) Reading (raised (slice_index c (raised a13)))) last)) (may_be_written s 13 o.frame) refl (cells (raised a13))
    (λ u. pop_then s pop_15 (core (a0 ∷ a1 ∷ a2 ∷ a3 ∷ a4 ∷ a5 ∷ a6 ∷ a7 ∷ a8 ∷ a9 ∷ a10 ∷ a11 ∷ a12 ∷ (slice_index c (raised a13)) ∷ raised a13 ∷ a15 ∷ []) v) c m (λ a. one_by_one s (move_of 14 13 ∷ pop_of 13 ∷ []) a.core a.cells a.meaning) (λ u. on_yes (cell_asked s (length c) Reading (raised (slice_index c (raised a13)))) last) (may_be_written s 15 o.next) refl (cells (raised (raised a13)))
    (λ u. moves s move_14_13 (core (a0 ∷ a1 ∷ a2 ∷ a3 ∷ a4 ∷ a5 ∷ a6 ∷ a7 ∷ a8 ∷ a9 ∷ a10 ∷ a11 ∷ a12 ∷ (slice_index c (raised a13)) ∷ raised (raised a13) ∷ (slice_index c (raised (raised a13))) ∷ []) v) c m (λ a. one_by_one s (pop_of 13 ∷ []) a.core a.cells a.meaning) (may_be_read s 13 o.frame) (may_be_written s 14 o.stack) refl (cells (raised a13))
    ∙ pop_then s pop_13 (core (a0 ∷ a1 ∷ a2 ∷ a3 ∷ a4 ∷ a5 ∷ a6 ∷ a7 ∷ a8 ∷ a9 ∷ a10 ∷ a11 ∷ a12 ∷ (slice_index c (raised a13)) ∷ (slice_index c (raised a13)) ∷ (slice_index c (raised (raised a13))) ∷ []) v) c m (λ a. one_by_one s [] a.core a.cells a.meaning) last (may_be_written s 13 o.frame) refl (cells (raised (slice_index c (raised a13)))) (λ u. refl)))

-- a list with one number exchanged
set_words : (l : List ℕ) (r n i : ℕ) → n < 2 ^ 32 → slice_index l i < 2 ^ 32 → slice_index (slice_set l r n) i < 2 ^ 32
set_words [] r n i h k = k
set_words (x ∷ l) zero n zero h k = h
set_words (x ∷ l) zero n (suc i) h k = k
set_words (x ∷ l) (suc r) n zero h k = k
set_words (x ∷ l) (suc r) n (suc i) h k = set_words l r n i h k

-- a step, by the operation of the word at r15
pub step_is : (s : Rules) (x : State) (o : Opcode) → StandsAt o x → stepped s x ≡ ended x (perform s (act_of (operation_of o) (fetch (word_of x) (advanced x.core))) x.cells x.meaning)
unfolding stepped
step_is s x o h =
    let below : in_register x.core 15 < length x.cells = h.inside in
    let inside : is_inside (length x.cells) (in_register x.core 15) ≡ true = search rules in
    ap (λ b. ended x (perform s (cond b (command_act (word_of x) (advanced x.core)) (fault cause.Fetch)) x.cells x.meaning)) inside
    ∙ ap (λ q. ended x (perform s (with_opcode q (word_of x) (advanced x.core)) x.cells x.meaning)) h.opcode

-- of every processor and memory
pub sequences : (s : Rules) (x : State) → ActLikeSequences s x
sequences s x lawful o =
    let l = slice_set x.core.registers 15 (wrapped (in_register x.core 15 + 1)) in
    let k : length l ≡ 16 = length-set x.core.registers 15 (wrapped (in_register x.core 15 + 1)) ∙ lawful.count in
    let b : Words l = λ i. set_words x.core.registers 15 (wrapped (in_register x.core 15 + 1)) i (wrapped_fits (in_register x.core 15 + 1)) (lawful.registers i) in
    record {
      prc = λ a. step_is s x Prc a ∙ ap (ended x) (sym (prepared s (word_of x) x.core.flags x.cells x.meaning o l k b));
      calli = λ a. step_is s x Calli a ∙ ap (ended x) (sym (entered s (word_of x) x.core.flags x.cells x.meaning o l k b));
      call = λ a.
          let asks = asked (is_inside (length x.cells) (target x)) cause.Cell in
          step_is s x Call a
          ∙ ap (ended x) (three_asked (register_asked s Reading (source_field (word_of x))) (register_asked s Writing (receiver x)) asks
          (perform s (enter (Some (receiver x)) (target x) (advanced x.core)) x.cells x.meaning)
          (one_by_one s (call_parts (receiver x) (target x)) (advanced x.core) x.cells x.meaning)
          (λ q. sym (received s (receiver x) (target x) x.core.flags x.cells x.meaning o (omega arith) q l k b)));
      ret = λ a. step_is s x Ret a ∙ ap (ended x) (sym (returned s x.core.flags x.cells x.meaning o lawful.cells l k b));
    }
