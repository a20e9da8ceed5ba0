-- Calls come back, and a pop undoes its push.
use Rattle.std.proofs.Common.{◌≡◌, ◌≢◌, subst, ℕ, zero, suc, ◌+◌, ◌^◌, ◌<◌, Bool, true, false, List, [], ◌∷◌, length, Some, None, Option, Ok, Err, Result, inl, inr, refl, ap, sym, ◌∙◌, arith, nat_lt, slice_index, slice_set}
use Rattle.std.proofs.Math.ListN.{length-set}
use Rattle.std.proofs.lemmas.Bool.{ltb-true}
use Rattle.std.proofs.lemmas.List.{get_or-set_same, get_or-set_other, set-get_or}
use Rattle.std.specs.Result.{result_and}
use Rattle.host.specs.Meaning.{Meaning}
use Rattle.isa.specs.Fields.{first_field, source_field, immediate_word, address_field}
use Rattle.isa.specs.declared.opcode.Opcode.TheVariants.{Push, Pop, Prc, Call, Calli, Ret}
use Rattle.machine.specs.Act.{After, on_yes, perform}
use Rattle.machine.specs.Commands.{fetch, lowered, raised, push_word, pop_word, framed, prepare, call, with_return, enter, return_from}
use Rattle.machine.specs.Cores.{Core, wrapped, in_register, with_register, advanced}
use Rattle.machine.specs.Returns.{step_to, Does, DoesPushes, DoesCall, ReturnsComeBack, PushesAndPops, with_stored, PopsUndo, second}
use Rattle.machine.specs.Rules.{Rules, asked, is_inside, register_asked, cell_asked, push_asked}
use Rattle.machine.specs.Sequences.{IsLawful, word_of, receiver, target}
use Rattle.machine.specs.Step.{State, state, Stepped, ended}
use Rattle.machine.specs.declared.access.Access.TheVariants.{Reading, Writing}
use Rattle.machine.specs.declared.cause.Cause.{Cause}
use Rattle.machine.specs.declared.cause.Cause.TheVariants as cause
use Rattle.machine.specs.declared.operation.Operand.TheVariants.{Source}
use Rattle.machine.specs.declared.turn.Turn.TheVariants.{Next}
use Rattle.machine.proofs.Sequences.{sixteen, step_is}

-- a step without a fault got a yes to its first question
yes_taken : (x y : State) (q : Result Unit Cause) (f : Unit → Result After Cause) → ended x (on_yes q f) ≡ step_to y → (q ≡ Ok tt) × (ended x (f tt) ≡ step_to y)
yes_taken x y (Ok u) f e = (refl, e)
yes_taken x y (Err q) f e = let t = ap (λ (z : Stepped). z.turn) e in cc

-- and is in the state that its command leaves
state_is : (x y : State) (a : After) → ended x (Ok a) ≡ step_to y → y ≡ state a.core a.cells a.meaning
state_is x y a e = sym (ap (λ (z : Stepped). z.state) e)

-- a cell that is pushed to is inside memory
inside_first : (b : Bool) (p q : Result Unit Cause) → result_and (result_and (asked b cause.Cell) p) q ≡ Ok tt → b ≡ true
inside_first true p q e = refl
inside_first false p q e = cc

inside_push : (s : Rules) (n a : ℕ) → push_asked s n a ≡ Ok tt → a < n
inside_push s n a e = ltb-true a n (inside_first (nat_lt a n) _ _ e)

-- a register after one was changed
changed : (k : Core) (r v : ℕ) → r < length k.registers → in_register (with_register r v k) r ≡ v
changed k r v h = get_or-set_same k.registers r v 0 h

unchanged : (k : Core) (r q v : ℕ) → q ≢ r → in_register (with_register r v k) q ≡ in_register k q
unchanged k r q v h = get_or-set_other k.registers r q v 0 h

-- r13 and r14 after a fetch
frame_fetched : (x : State) → in_register (advanced x.core) 13 ≡ in_register x.core 13
frame_fetched x = unchanged x.core 15 13 _ (λ (e : 13 ≡ 15). omega (arith, e))

top_fetched : (x : State) → in_register (advanced x.core) 14 ≡ in_register x.core 14
top_fetched x = unchanged x.core 15 14 _ (λ (e : 14 ≡ 15). omega (arith, e))

-- a stack pointer that is lowered
raised_lowered : (n : ℕ) → n < 2 ^ 32 → raised (lowered n) ≡ n
raised_lowered n h = omega (arith, h)

lowered_below : (n size : ℕ) → size < 2 ^ 32 → n < size → lowered n < size → lowered n < n
lowered_below n size h k l = omega (arith, h, k, l)

-- what a push leaves
record Pushed (v : ℕ) (x y : State) : Type 0 where
  inside : in_register x.core 14 < length x.cells
  left : y ≡ state (with_register 14 (lowered (in_register x.core 14)) (advanced x.core)) (slice_set x.cells (in_register x.core 14) v) x.meaning

push_left : (s : Rules) (x y : State) → Does Push s x y → Pushed (wrapped (in_register (advanced x.core) (first_field (word_of x)) + immediate_word (word_of x))) x y
push_left s x y d =
    let k = advanced x.core in
    let v = wrapped (in_register k (first_field (word_of x)) + immediate_word (word_of x)) in
    let a : After = record { turn = Next; core = with_register 14 (lowered (in_register k 14)) k; cells = slice_set x.cells (in_register k 14) v; meaning = x.meaning } in
    let e : ended x (perform s (push_word (fetch (word_of x) k)) x.cells x.meaning) ≡ step_to y = sym (step_is s x Push d.word) ∙ d.step in
    let one = yes_taken x y (register_asked s Reading (first_field (word_of x))) (λ u. on_yes (push_asked s (length x.cells) (in_register k 14)) (λ u. Ok a)) e in
    let two = yes_taken x y (push_asked s (length x.cells) (in_register k 14)) (λ u. Ok a) one.1 in
    let i : in_register k 14 < length x.cells = inside_push s _ _ two.0 in
    let top : in_register k 14 ≡ in_register x.core 14 = top_fetched x in
    record {
      inside = omega (arith, i, top);
      left = state_is x y a two.1 ∙ ap (λ n. state (with_register 14 (lowered n) k) (slice_set x.cells n v) x.meaning) top;
    }

-- what prc leaves
record Prepared (x y : State) : Type 0 where
  inside : in_register x.core 14 < length x.cells
  left : y ≡ state (framed (lowered (in_register x.core 14)) (advanced x.core)) (slice_set x.cells (in_register x.core 14) (in_register x.core 13)) x.meaning

prc_left : (s : Rules) (x y : State) → Does Prc s x y → Prepared x y
prc_left s x y d =
    let k = advanced x.core in
    let a : After = record { turn = Next; core = framed (lowered (in_register k 14)) k; cells = slice_set x.cells (in_register k 14) (in_register k 13); meaning = x.meaning } in
    let e : ended x (perform s (prepare (fetch (word_of x) k)) x.cells x.meaning) ≡ step_to y = sym (step_is s x Prc d.word) ∙ d.step in
    let one = yes_taken x y (push_asked s (length x.cells) (in_register k 14)) (λ u. Ok a) e in
    let i : in_register k 14 < length x.cells = inside_push s _ _ one.0 in
    let top : in_register k 14 ≡ in_register x.core 14 = top_fetched x in
    record {
      inside = omega (arith, i, top);
      left = state_is x y a one.1
          ∙ ap (λ n. state (framed (lowered n) k) (slice_set x.cells n (in_register k 13)) x.meaning) top
          ∙ ap (λ n. state (framed (lowered (in_register x.core 14)) k) (slice_set x.cells (in_register x.core 14) n) x.meaning) (frame_fetched x);
    }

-- no receiver, or one that is not r13
abbrev LeavesFrame : Option ℕ → Type 0
LeavesFrame None = Unit {0}
LeavesFrame (Some r) = r ≢ 13

-- r13 once a call has set r15 and maybe a receiver
frame_entered : (r : Option ℕ) (target back top : ℕ) (k : Core) → LeavesFrame r → 13 < length k.registers → in_register (with_register 15 target (with_return r back (framed top k))) 13 ≡ top
frame_entered None target back top k h n =
    unchanged (framed top k) 15 13 target (λ (e : 13 ≡ 15). omega (arith, e))
    ∙ changed (with_register 14 top k) 13 top (omega (arith, n, length-set k.registers 14 top))
frame_entered (Some r) target back top k h n =
    unchanged (with_register r back (framed top k)) 15 13 target (λ (e : 13 ≡ 15). omega (arith, e))
    ∙ unchanged (framed top k) r 13 back (λ (e : 13 ≡ r). h (sym e))
    ∙ changed (with_register 14 top k) 13 top (omega (arith, n, length-set k.registers 14 top))

-- what a call leaves
record Entered (x y : State) : Type 0 where
  inside : in_register x.core 14 < length x.cells
  second : lowered (in_register x.core 14) < length x.cells
  frame : in_register y.core 13 ≡ lowered (lowered (in_register x.core 14))
  cells : y.cells ≡ slice_set (slice_set x.cells (in_register x.core 14) (in_register (advanced x.core) 15)) (lowered (in_register x.core 14)) (in_register x.core 13)

enter_left : (s : Rules) (x y : State) (r : Option ℕ) (target : ℕ) → length x.core.registers ≡ 16 → LeavesFrame r → ended x (perform s (enter r target (advanced x.core)) x.cells x.meaning) ≡ step_to y → Entered x y
enter_left s x y r target n h e =
    let k = advanced x.core in
    let t = in_register k 14 in
    let c = slice_set x.cells t (in_register k 15) in
    let a : After = record { turn = Next; core = with_register 15 target (with_return r (in_register k 15) (framed (lowered (lowered t)) k)); cells = slice_set c (lowered t) (in_register k 13); meaning = x.meaning } in
    let one = yes_taken x y (push_asked s (length x.cells) t) (λ u. on_yes (push_asked s (length c) (lowered t)) (λ u. Ok a)) e in
    let two = yes_taken x y (push_asked s (length c) (lowered t)) (λ u. Ok a) one.1 in
    let i : t < length x.cells = inside_push s _ _ one.0 in
    let j : lowered t < length c = inside_push s _ _ two.0 in
    let same : length c ≡ length x.cells = length-set x.cells t (in_register k 15) in
    let top : t ≡ in_register x.core 14 = top_fetched x in
    let left : y ≡ state a.core a.cells a.meaning = state_is x y a two.1 in
    let few : 13 < length k.registers = omega (arith, n, length-set x.core.registers 15 (wrapped (in_register x.core 15 + 1))) in
    record {
      inside = omega (arith, i, top);
      second = omega (arith, j, same, ap lowered top);
      frame = ap (λ (z : State). in_register z.core 13) left ∙ frame_entered r target (in_register k 15) (lowered (lowered t)) k h few ∙ ap (λ n. lowered (lowered n)) top;
      cells = ap (λ (z : State). z.cells) left
          ∙ ap (λ n. slice_set (slice_set x.cells n (in_register k 15)) (lowered n) (in_register k 13)) top
          ∙ ap (λ n. slice_set (slice_set x.cells (in_register x.core 14) (in_register k 15)) (lowered (in_register x.core 14)) n) (frame_fetched x);
    }

call_left : (s : Rules) (x y : State) → length x.core.registers ≡ 16 → DoesCall s x y → Entered x y
call_left s x y n (inl d) = enter_left s x y None (address_field (word_of x)) n tt (sym (step_is s x Calli d.word) ∙ d.step)
call_left s x y n (inr d) =
    let t = target x in
    let rest = enter (Some (receiver x)) t (advanced x.core) in
    let e : ended x (perform s (call Source (fetch (word_of x) (advanced x.core))) x.cells x.meaning) ≡ step_to y = sym (step_is s x Call d.0.word) ∙ d.0.step in
    let one = yes_taken x y (register_asked s Reading (source_field (word_of x))) (λ u. on_yes (register_asked s Writing (receiver x)) (λ u. on_yes (asked (is_inside (length x.cells) t) cause.Cell) (λ u. perform s rest x.cells x.meaning))) e in
    let two = yes_taken x y (register_asked s Writing (receiver x)) (λ u. on_yes (asked (is_inside (length x.cells) t) cause.Cell) (λ u. perform s rest x.cells x.meaning)) one.1 in
    let three = yes_taken x y (asked (is_inside (length x.cells) t) cause.Cell) (λ u. perform s rest x.cells x.meaning) two.1 in
    enter_left s x y (Some (receiver x)) t n d.1 three.1

-- what ret leaves, over a frame
abbrev returned : State → ℕ → ℕ → State
returned x p back = state (with_register 15 back (with_register 14 (raised p) (with_register 13 (slice_index x.cells (raised p)) (advanced x.core)))) x.cells x.meaning

ret_left : (s : Rules) (x y : State) → Does Ret s x y → y ≡ returned x (slice_index x.cells (raised (in_register x.core 13))) (slice_index x.cells (raised (raised (in_register x.core 13))))
ret_left s x y d =
    let k = advanced x.core in
    let f = in_register k 13 in
    let p = slice_index x.cells (raised f) in
    let n = length x.cells in
    let z = returned x p (slice_index x.cells (raised (raised f))) in
    let a : After = record { turn = Next; core = z.core; cells = x.cells; meaning = x.meaning } in
    let e : ended x (perform s (return_from k) x.cells x.meaning) ≡ step_to y = sym (step_is s x Ret d.word) ∙ d.step in
    let one = yes_taken x y (cell_asked s n Reading (raised f)) (λ u. on_yes (cell_asked s n Reading (raised (raised f))) (λ u. on_yes (cell_asked s n Reading (raised p)) (λ u. Ok a))) e in
    let two = yes_taken x y (cell_asked s n Reading (raised (raised f))) (λ u. on_yes (cell_asked s n Reading (raised p)) (λ u. Ok a)) one.1 in
    let three = yes_taken x y (cell_asked s n Reading (raised p)) (λ u. Ok a) two.1 in
    state_is x y a three.1 ∙ ap (λ i. returned x (slice_index x.cells (raised i)) (slice_index x.cells (raised (raised i)))) (frame_fetched x)

-- from prc to the call: the frame is just below the cell that has the caller's r13, and r14 is below it where it is inside memory
record Holds (saved old room : ℕ) (x : State) : Type 0 where
  count : length x.core.registers ≡ 16
  size : length x.cells ≡ room
  frame : in_register x.core 13 ≡ lowered saved
  caller : slice_index x.cells saved ≡ old
  below : in_register x.core 14 < room → in_register x.core 14 < saved

-- a push writes no cell that holds the frame
push_holds : (s : Rules) (saved frame size : ℕ) (x y : State) → size < 2 ^ 32 → Does Push s x y → Holds saved frame size x → Holds saved frame size y
push_holds s saved frame size x y small d h =
    let t = in_register x.core 14 in
    let v = wrapped (in_register (advanced x.core) (first_field (word_of x)) + immediate_word (word_of x)) in
    let p : Pushed v x y = push_left s x y d in
    let inside : t < size = omega (arith, p.inside, h.size) in
    let lower : t < saved = h.below inside in
    let regs : length (advanced x.core).registers ≡ 16 = length-set x.core.registers 15 (wrapped (in_register x.core 15 + 1)) ∙ h.count in
    let top : in_register y.core 14 ≡ lowered t = ap (λ (z : State). in_register z.core 14) p.left ∙ changed (advanced x.core) 14 (lowered t) (omega (arith, regs)) in
    record {
      count = ap (λ (z : State). length z.core.registers) p.left ∙ length-set (advanced x.core).registers 14 (lowered t) ∙ regs;
      size = ap (λ (z : State). length z.cells) p.left ∙ length-set x.cells t v ∙ h.size;
      frame = ap (λ (z : State). in_register z.core 13) p.left ∙ unchanged (advanced x.core) 14 13 (lowered t) (λ (e : 13 ≡ 14). omega (arith, e)) ∙ frame_fetched x ∙ h.frame;
      caller = ap (λ (z : State). slice_index z.cells saved) p.left ∙ get_or-set_other x.cells t saved v 0 (λ (e : saved ≡ t). omega (arith, e, lower)) ∙ h.caller;
      below = λ i. let j : lowered t < size = omega (arith, i, top) in let l : lowered t < t = lowered_below t size small inside j in omega (arith, l, lower, top);
    }

pushes_hold : (n : ℕ) (s : Rules) (saved frame size : ℕ) (x y : State) → size < 2 ^ 32 → DoesPushes n s x y → Holds saved frame size x → Holds saved frame size y
pushes_hold zero s saved frame size x y small d h = subst (Holds saved frame size) d h
pushes_hold (suc n) s saved frame size x y small d h = pushes_hold n s saved frame size d.0 y small d.1.1 (push_holds s saved frame size x d.0 small d.1.0 h)

-- prc makes the frame
prc_holds : (s : Rules) (x y : State) → IsLawful x → length x.cells < 2 ^ 32 → Does Prc s x y → Holds (in_register x.core 14) (in_register x.core 13) (length x.cells) y
prc_holds s x y lawful small d =
    let t = in_register x.core 14 in
    let top = lowered t in
    let k = advanced x.core in
    let p : Prepared x y = prc_left s x y d in
    let regs : length k.registers ≡ 16 = length-set x.core.registers 15 (wrapped (in_register x.core 15 + 1)) ∙ lawful.count in
    let more : length (with_register 14 top k).registers ≡ 16 = length-set k.registers 14 top ∙ regs in
    let r14 : in_register y.core 14 ≡ top = ap (λ (z : State). in_register z.core 14) p.left ∙ unchanged (with_register 14 top k) 13 14 top (λ (e : 14 ≡ 13). omega (arith, e)) ∙ changed k 14 top (omega (arith, regs)) in
    record {
      count = ap (λ (z : State). length z.core.registers) p.left ∙ length-set (with_register 14 top k).registers 13 top ∙ more;
      size = ap (λ (z : State). length z.cells) p.left ∙ length-set x.cells t (in_register x.core 13);
      frame = ap (λ (z : State). in_register z.core 13) p.left ∙ changed (with_register 14 top k) 13 top (omega (arith, more));
      caller = ap (λ (z : State). slice_index z.cells t) p.left ∙ get_or-set_same x.cells t (in_register x.core 13) 0 p.inside;
      below = λ i. let j : lowered t < length x.cells = omega (arith, i, r14) in let l : lowered t < t = lowered_below t (length x.cells) small p.inside j in omega (arith, l, r14);
    }

-- a call comes back
pub come_back : (s : Rules) (x : State) → ReturnsComeBack s x
come_back s x lawful small n y r =
    let t = in_register x.core 14 in
    let f = in_register x.core 13 in
    let size = length x.cells in
    let h : Holds t f size r.called = pushes_hold n s t f size r.prepared r.called small r.pushes (prc_holds s x r.prepared lawful small r.prc) in
    let e : Entered r.called r.entered = call_left s r.called r.entered h.count r.call in
    let a = in_register r.called.core 14 in
    let b = in_register (advanced r.called.core) 15 in
    let old = r.entered.cells in
    let new = r.left.cells in
    let one = slice_set r.called.cells a b in
    let i : a < size = omega (arith, e.inside, h.size) in
    let j : lowered a < size = omega (arith, e.second, h.size) in
    let l : a < t = h.below i in
    let q : lowered a < a = lowered_below a size small i j in
    let fits : lowered a < length one = omega (arith, e.second, length-set r.called.cells a b) in
    let up : raised (in_register r.entered.core 13) ≡ lowered a = ap raised e.frame ∙ raised_lowered (lowered a) (omega (arith, j, small)) in
    let higher : raised (raised (in_register r.entered.core 13)) ≡ a = ap raised up ∙ raised_lowered a (omega (arith, i, small)) in
    let lower_cell : slice_index old (lowered a) ≡ lowered t = ap (λ c. slice_index c (lowered a)) e.cells ∙ get_or-set_same one (lowered a) (in_register r.called.core 13) 0 fits ∙ h.frame in
    let upper_cell : slice_index old a ≡ b = ap (λ c. slice_index c a) e.cells ∙ get_or-set_other one (lowered a) a (in_register r.called.core 13) 0 (λ (z : a ≡ lowered a). omega (arith, z, q)) ∙ get_or-set_same r.called.cells a b 0 e.inside in
    let saved : slice_index old t ≡ f = ap (λ c. slice_index c t) e.cells ∙ get_or-set_other one (lowered a) t (in_register r.called.core 13) 0 (λ (z : t ≡ lowered a). omega (arith, z, q, l)) ∙ get_or-set_other r.called.cells a t b 0 (λ (z : t ≡ a). omega (arith, z, l)) ∙ h.caller in
    let p = slice_index new (raised (in_register r.left.core 13)) in
    let back = slice_index new (raised (raised (in_register r.left.core 13))) in
    let pointer : p ≡ lowered t = ap (λ z. slice_index new (raised z)) r.function.frame ∙ r.function.stack ∙ ap (slice_index old) up ∙ lower_cell in
    let return : back ≡ b = ap (λ z. slice_index new (raised (raised z))) r.function.frame ∙ r.function.back ∙ ap (slice_index old) higher ∙ upper_cell in
    let above : raised p ≡ t = ap raised pointer ∙ raised_lowered t (lawful.registers 14) in
    let frame : slice_index new (raised p) ≡ f = ap (slice_index new) above ∙ r.function.caller ∙ saved in
    let k = advanced r.left.core in
    let k13 = with_register 13 (slice_index new (raised p)) k in
    let k14 = with_register 14 (raised p) k13 in
    let n0 : length k.registers ≡ 16 = length-set r.left.core.registers 15 (wrapped (in_register r.left.core 15 + 1)) ∙ r.function.count in
    let n13 : length k13.registers ≡ 16 = length-set k.registers 13 (slice_index new (raised p)) ∙ n0 in
    let n14 : length k14.registers ≡ 16 = length-set k13.registers 14 (raised p) ∙ n13 in
    let is : y ≡ returned r.left p back = ret_left s r.left y r.ret in
    record {
      frame = ap (λ (z : State). in_register z.core 13) is
          ∙ unchanged k14 15 13 back (λ (z : 13 ≡ 15). omega (arith, z)) ∙ unchanged k13 14 13 (raised p) (λ (z : 13 ≡ 14). omega (arith, z))
          ∙ changed k 13 (slice_index new (raised p)) (omega (arith, n0)) ∙ frame;
      stack = ap (λ (z : State). in_register z.core 14) is
          ∙ unchanged k14 15 14 back (λ (z : 14 ≡ 15). omega (arith, z)) ∙ changed k13 14 (raised p) (omega (arith, n13)) ∙ above;
      next = ap (λ (z : State). in_register z.core 15) is ∙ changed k14 15 back (omega (arith, n14)) ∙ return ∙ changed r.called.core 15 (second r.called) (omega (arith, h.count));
    }

-- what pop leaves of a register's number and an immediate
abbrev popped : ℕ → ℕ → State → State
popped r n x =
    let k = advanced x.core in
    let top = raised (in_register k 14) in
    state (with_register r (wrapped (slice_index x.cells top + n)) (with_register 14 top k)) x.cells x.meaning

pop_left : (s : Rules) (x y : State) → Does Pop s x y → y ≡ popped (first_field (word_of x)) (immediate_word (word_of x)) x
pop_left s x y d =
    let k = advanced x.core in
    let z = popped (first_field (word_of x)) (immediate_word (word_of x)) x in
    let a : After = record { turn = Next; core = z.core; cells = x.cells; meaning = x.meaning } in
    let e : ended x (perform s (pop_word (fetch (word_of x) k)) x.cells x.meaning) ≡ step_to y = sym (step_is s x Pop d.word) ∙ d.step in
    let one = yes_taken x y (register_asked s Writing (first_field (word_of x))) (λ u. on_yes (cell_asked s (length x.cells) Reading (raised (in_register k 14))) (λ u. Ok a)) e in
    let two = yes_taken x y (cell_asked s (length x.cells) Reading (raised (in_register k 14))) (λ u. Ok a) one.1 in
    state_is x y a two.1

-- registers with some flags
abbrev core : List ℕ → ℕ → Core
core l v = record { registers = l; flags = v }

-- a register that is popped into again
abbrev Again : ℕ → ℕ → List ℕ → Meaning → List ℕ → Type 0
Again r v c m l = slice_index l 14 < length c → slice_index l 14 < 2 ^ 32 → slice_index l r < 2 ^ 32
    → popped r 0 (state (with_register 14 (lowered (slice_index l 14)) (advanced (core l v))) (slice_set c (slice_index l 14) (slice_index l r)) m)
    ≡ state (with_register 15 (raised (raised (slice_index l 15))) (core l v)) (slice_set c (slice_index l 14) (slice_index l r)) m

again : (r v : ℕ) (c : List ℕ) (m : Meaning) → r < 15 → (l : List ℕ) → length l ≡ 16 → Again r v c m l
again r v c m few = sixteen (Again r v c m) λ a0 a1 a2 a3 a4 a5 a6 a7 a8 a9 a10 a11 a12 a13 a14 a15 inside fits word.
    let n = slice_index (a0 ∷ a1 ∷ a2 ∷ a3 ∷ a4 ∷ a5 ∷ a6 ∷ a7 ∷ a8 ∷ a9 ∷ a10 ∷ a11 ∷ a12 ∷ a13 ∷ a14 ∷ a15 ∷ []) r in
    let d = slice_set c a14 n in
    let top : raised (lowered a14) ≡ a14 = raised_lowered a14 fits in
    let value : wrapped (slice_index d (raised (lowered a14)) + 0) ≡ n =
    let cell : slice_index d (raised (lowered a14)) ≡ n = ap (slice_index d) top ∙ get_or-set_same c a14 n 0 inside in
    omega (arith, cell, word) in
    let same : slice_index (a0 ∷ a1 ∷ a2 ∷ a3 ∷ a4 ∷ a5 ∷ a6 ∷ a7 ∷ a8 ∷ a9 ∷ a10 ∷ a11 ∷ a12 ∷ a13 ∷ a14 ∷ raised (raised a15) ∷ []) r ≡ n = get_or-set_other (a0 ∷ a1 ∷ a2 ∷ a3 ∷ a4 ∷ a5 ∷ a6 ∷ a7 ∷ a8 ∷ a9 ∷ a10 ∷ a11 ∷ a12 ∷ a13 ∷ a14 ∷ a15 ∷ []) 15 r (raised (raised a15)) 0 (λ (e : r ≡ 15). omega (arith, e, few)) in
    ap (λ i. state (with_register r (wrapped (slice_index d (raised (lowered a14)) + 0)) (with_register 14 i (core (a0 ∷ a1 ∷ a2 ∷ a3 ∷ a4 ∷ a5 ∷ a6 ∷ a7 ∷ a8 ∷ a9 ∷ a10 ∷ a11 ∷ a12 ∷ a13 ∷ a14 ∷ raised (raised a15) ∷ []) v))) d m) top
    ∙ ap (λ i. state (with_register r i (core (a0 ∷ a1 ∷ a2 ∷ a3 ∷ a4 ∷ a5 ∷ a6 ∷ a7 ∷ a8 ∷ a9 ∷ a10 ∷ a11 ∷ a12 ∷ a13 ∷ a14 ∷ raised (raised a15) ∷ []) v)) d m) (value ∙ sym same)
    ∙ ap (λ i. state (core i v) d m) (set-get_or (a0 ∷ a1 ∷ a2 ∷ a3 ∷ a4 ∷ a5 ∷ a6 ∷ a7 ∷ a8 ∷ a9 ∷ a10 ∷ a11 ∷ a12 ∷ a13 ∷ a14 ∷ raised (raised a15) ∷ []) r 0)

-- r15 that is popped into again
abbrev AgainNext : ℕ → List ℕ → Meaning → List ℕ → Type 0
AgainNext v c m l = slice_index l 14 < length c → slice_index l 14 < 2 ^ 32
    → popped 15 0 (state (with_register 14 (lowered (slice_index l 14)) (advanced (core l v))) (slice_set c (slice_index l 14) (raised (slice_index l 15))) m)
    ≡ with_stored (raised (slice_index l 15)) (raised (slice_index l 15)) (state (core l v) c m)

again_next : (v : ℕ) (c : List ℕ) (m : Meaning) → (l : List ℕ) → length l ≡ 16 → AgainNext v c m l
again_next v c m = sixteen (AgainNext v c m) λ a0 a1 a2 a3 a4 a5 a6 a7 a8 a9 a10 a11 a12 a13 a14 a15 inside fits.
    let n = raised a15 in
    let d = slice_set c a14 n in
    let top : raised (lowered a14) ≡ a14 = raised_lowered a14 fits in
    let value : wrapped (slice_index d (raised (lowered a14)) + 0) ≡ n =
    let cell : slice_index d (raised (lowered a14)) ≡ n = ap (slice_index d) top ∙ get_or-set_same c a14 n 0 inside in
    omega (arith, cell) in
    ap (λ i. state (with_register 15 (wrapped (slice_index d (raised (lowered a14)) + 0)) (with_register 14 i (core (a0 ∷ a1 ∷ a2 ∷ a3 ∷ a4 ∷ a5 ∷ a6 ∷ a7 ∷ a8 ∷ a9 ∷ a10 ∷ a11 ∷ a12 ∷ a13 ∷ a14 ∷ raised (raised a15) ∷ []) v))) d m) top
    ∙ ap (λ i. state (with_register 15 i (core (a0 ∷ a1 ∷ a2 ∷ a3 ∷ a4 ∷ a5 ∷ a6 ∷ a7 ∷ a8 ∷ a9 ∷ a10 ∷ a11 ∷ a12 ∷ a13 ∷ a14 ∷ raised (raised a15) ∷ []) v)) d m) value

-- what a push leaves of a register that is read as n
pushed_left : (s : Rules) (x : State) (r n : ℕ) (y : State) → IsLawful x → (p : PushesAndPops r s x y) → in_register (advanced x.core) r ≡ n → n < 2 ^ 32
    → p.pushed ≡ state (with_register 14 (lowered (in_register x.core 14)) (advanced x.core)) (slice_set x.cells (in_register x.core 14) n) x.meaning
pushed_left s x r n y lawful p e fits =
    let k = advanced x.core in
    let t = in_register x.core 14 in
    let v = wrapped (in_register k (first_field (word_of x)) + immediate_word (word_of x)) in
    let read : in_register k (first_field (word_of x)) ≡ n = ap (in_register k) p.first.register ∙ e in
    let stored : v ≡ n = omega (arith, read, p.first.immediate, fits) in
    let push : Pushed v x p.pushed = push_left s x p.pushed p.push in
    push.left ∙ ap (λ i. state (with_register 14 (lowered t) k) (slice_set x.cells t i) x.meaning) stored

-- what a pop leaves of it
popped_left : (s : Rules) (x : State) (r : ℕ) (y : State) → (p : PushesAndPops r s x y) → y ≡ popped r 0 p.pushed
popped_left s x r y p =
    pop_left s p.pushed y p.pop
    ∙ ap (λ i. popped i (immediate_word (word_of p.pushed)) p.pushed) p.second.register
    ∙ ap (λ i. popped r i p.pushed) p.second.immediate

-- pops undo pushes
pub undone : (s : Rules) (x : State) → PopsUndo s x
undone s x lawful =
    let up = raised (in_register x.core 15) in
    record {
      other = λ r few y p.
          let n = in_register x.core r in
          let inside = (push_left s x p.pushed p.push).inside in
          popped_left s x r y p
          ∙ ap (popped r 0) (pushed_left s x r n y lawful p (unchanged x.core 15 r up (λ (e : r ≡ 15). omega (arith, e, few))) (lawful.registers r))
          ∙ again r x.core.flags x.cells x.meaning few x.core.registers lawful.count inside (lawful.registers 14) (lawful.registers r);
      next = λ y p.
          let inside = (push_left s x p.pushed p.push).inside in
          popped_left s x 15 y p
          ∙ ap (popped 15 0) (pushed_left s x 15 up y lawful p (changed x.core 15 up (omega (arith, lawful.count))) (omega arith))
          ∙ again_next x.core.flags x.cells x.meaning x.core.registers lawful.count inside (lawful.registers 14);
    }
