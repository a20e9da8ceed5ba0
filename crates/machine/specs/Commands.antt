-- What each operation does: a tree of questions and effects, from the fetched word and the processor as it is after the fetch.
-- Every tree has its questions in one order (Turns.antt): whether there is the command or system call, then those of pairs, of registers, of values, of the host, and of call's target. Those of a cell come with the effect that touches it.
-- Values are those of the registers as they are after the fetch, before any is written.
use Rattle.std.specs.Prelude.{ℕ, ◌+◌, ◌-◌, ◌*◌, ◌/◌, ◌%◌, ◌^◌, Bool, cond, Some, None, Option, Ok, Err, Result, ◌==◌, nat_le, nat_lt, bit_and, bit_or, bit_xor}
use Rattle.std.specs.declared.cmp.Ordering.{Ordering}
use Rattle.std.specs.declared.cmp.Ordering.TheVariants.{Less, Equal, Greater}
use Rattle.doubles.specs.Doubles as doubles
use Rattle.host.specs.declared.item.Item.{Item}
use Rattle.host.specs.declared.item.Item.TheVariants.{Number, Real, Character}
use Rattle.host.specs.declared.item.Kind.TheVariants as kind
use Rattle.integers.specs.Division.{quotient_fits}
use Rattle.integers.specs.Pairs.{halves}
use Rattle.isa.specs.Fields.{first_field, source_field, modifier_word, immediate_word, address_field}
use Rattle.machine.specs.Act.{Act, fault, ask, get, put, load, store, push, done, holds, register, pair, inside}
use Rattle.machine.specs.Cores.{Core, wrapped, in_register, in_pair, with_register, with_pair, with_flags}
use Rattle.machine.specs.Flags.{flags_after, is_met}
use Rattle.machine.specs.Pairs.{has_next}
use Rattle.machine.specs.declared.access.Access.TheVariants.{Reading, Writing}
use Rattle.machine.specs.declared.cause.Cause.{Cause}
use Rattle.machine.specs.declared.cause.Cause.TheVariants as cause
use Rattle.machine.specs.declared.flags.calls.Condition.{Condition}
use Rattle.machine.specs.declared.operation.Calculation.{Calculation}
use Rattle.machine.specs.declared.operation.Calculation.TheVariants as calculation
use Rattle.machine.specs.declared.operation.Combination.{Combination}
use Rattle.machine.specs.declared.operation.Combination.TheVariants as combination
use Rattle.machine.specs.declared.operation.Direction.{Direction}
use Rattle.machine.specs.declared.operation.Direction.TheVariants.{Left, Right}
use Rattle.machine.specs.declared.operation.Operand.{Operand}
use Rattle.machine.specs.declared.operation.Operand.TheVariants.{Source, Immediate, Address}
use Rattle.machine.specs.declared.operation.Operation.{Operation}
use Rattle.machine.specs.declared.operation.Operation.TheVariants.{Halt, CallSystem, Combine, Multiply, Divide, Invert, Shift, MakeDouble, MakeWord, Calculate, Compare, CompareDoubles, Jump, JumpIf, Push, Pop, Set, Load, LoadPair, Store, StorePair, Prepare, Call, CallAddress, Return}
use Rattle.machine.specs.declared.turn.Turn.TheVariants.{Next, Halted, Exited}

-- the word that was fetched, and the processor with r15 past it
pub record Fetch : Type 0 where
  pub word : ℕ
  pub core : Core

abbrev pub fetch : ℕ → Core → Fetch
fetch w c = record { word = w; core = c }

-- the numbers of the first register and of the source register
abbrev pub first : Fetch → ℕ
first f = first_field f.word

abbrev pub source : Fetch → ℕ
source f = source_field f.word

-- what the first register holds; and the 64 bits in the pair at it and in the pair at the source register
abbrev pub first_value : Fetch → ℕ
first_value f = in_register f.core (first f)

abbrev pub first_wide : Fetch → ℕ
first_wide f = in_pair f.core (first f)

abbrev pub source_wide : Fetch → ℕ
source_wide f = in_pair f.core (source f)

-- the processor with another number in the first register, or with two halves in the pair at it
abbrev pub set_first : Fetch → ℕ → Core
set_first f v = with_register (first f) v f.core

abbrev pub set_first_pair : Fetch → ℕ × ℕ → Core
set_first_pair f two = with_pair (first f) two f.core

-- a stack pointer that is lowered, and one that is raised, modulo 2^32
abbrev pub lowered : ℕ → ℕ
lowered n = wrapped (n + (2 ^ 32 - 1))

abbrev pub raised : ℕ → ℕ
raised n = wrapped (n + 1)

-- the step is taken, and the run goes on with the word that r15 then points at
abbrev pub next : Core → Act
next c = done c Next

-- 33: is there a register after the first one of the pair?
abbrev pub asks_first_pair : Fetch → Act → Act
asks_first_pair f k = ask (holds (has_next (first f)) cause.Pair) k

abbrev pub asks_source_pair : Fetch → Act → Act
asks_source_pair f k = ask (holds (has_next (source f)) cause.Pair) k

-- 34: is a register open to what is done to it? Only those that the word names are asked. What push, pop, calls, returns, jumps and the fetch do besides to r13, r14 and r15 is not
abbrev pub reads : ℕ → Act → Act
reads r k = ask (register Reading r) k

abbrev pub writes : ℕ → Act → Act
writes r k = ask (register Writing r) k

abbrev pub reads_pair : ℕ → Act → Act
reads_pair r k = ask (pair Reading r) k

abbrev pub writes_pair : ℕ → Act → Act
writes_pair r k = ask (pair Writing r) k

-- the operand: the source register, of which 34 is asked, plus the modifier modulo 2^32; or the immediate modulo 2^32; or the address
abbrev pub with_operand : Operand → Fetch → (ℕ → Act) → Act
with_operand Source f k = reads (source f) (k (wrapped (in_register f.core (source f) + modifier_word f.word)))
with_operand Immediate f k = k (immediate_word f.word)
with_operand Address f k = k (address_field f.word)

-- sums and differences modulo 2^32, and bit by bit and, or, exclusive or
abbrev pub combination_of : Combination → ℕ → ℕ → ℕ
combination_of combination.Sum a b = wrapped (a + b)
combination_of combination.Difference a b = wrapped (a + (2 ^ 32 - b))
combination_of combination.And a b = bit_and a b
combination_of combination.Or a b = bit_or a b
combination_of combination.Xor a b = bit_xor a b

-- add, sub, and, or, xor: the first register becomes itself combined with the operand
abbrev pub combine : Combination → Operand → Fetch → Act
combine how o f = with_operand o f λ b. reads (first f) (writes (first f) (next (set_first f (combination_of how (first_value f) b))))

-- mul: the product of the first register and the operand goes into the pair at the first register
abbrev pub multiply : Operand → Fetch → Act
multiply o f = asks_first_pair f (with_operand o f λ b. reads (first f) (writes_pair (first f) (next (set_first_pair f (halves (first_value f * b))))))

-- div: 36; the 64 bits in the pair are divided by the operand, and the quotient and the remainder go into the pair
abbrev pub divide : Operand → Fetch → Act
divide o f = asks_first_pair f (with_operand o f λ d. reads_pair (first f) (writes_pair (first f)
    (ask (holds (quotient_fits (first_wide f) d) cause.Quotient)
    (next (set_first_pair f (first_wide f / d, first_wide f % d))))))

-- not: every bit of the first register changes
abbrev pub invert : Fetch → Act
invert f = reads (first f) (writes (first f) (next (set_first f (2 ^ 32 - 1 - first_value f))))

-- a word that is shifted; the bits that are shifted out are lost
abbrev pub shifted : Direction → ℕ → ℕ → ℕ
shifted Left a b = wrapped (a * 2 ^ b)
shifted Right a b = a / 2 ^ b

-- 35: is a shift by fewer than 32 bits asked for?
abbrev pub shift_fits : ℕ → Bool
shift_fits b = nat_le b 31

-- shl, shr: 35; the first register is shifted by the operand
abbrev pub shift : Direction → Operand → Fetch → Act
shift d o f = with_operand o f λ b. reads (first f) (writes (first f)
    (ask (holds (shift_fits b) cause.Shift)
    (next (set_first f (shifted d (first_value f) b)))))

-- the shifted word, or 35
abbrev pub shift_asked : Direction → ℕ → ℕ → Result ℕ Cause
shift_asked d a b = cond (shift_fits b) (Ok (shifted d a b)) (Err cause.Shift)

-- itod: the operand as a double goes into the pair at the first register
abbrev pub make_double : Operand → Fetch → Act
make_double o f = asks_first_pair f (with_operand o f λ n. writes_pair (first f) (next (set_first_pair f (halves (doubles.of_word n)))))

-- dtoi: 37; the whole part of the source's double goes into the first register
abbrev pub make_word : Fetch → Act
make_word f = asks_source_pair f (reads_pair (source f) (writes (first f)
    (ask (holds (doubles.fits_word (source_wide f)) cause.Double)
    (next (set_first f (doubles.whole_part (source_wide f)))))))

-- what is worked out of two doubles
abbrev pub calculation_of : Calculation → ℕ → ℕ → ℕ
calculation_of calculation.Sum a b = doubles.sum a b
calculation_of calculation.Difference a b = doubles.difference a b
calculation_of calculation.Product a b = doubles.product a b
calculation_of calculation.Quotient a b = doubles.quotient a b

-- addd, subd, muld, divd: the first double becomes itself and the source's double worked out
abbrev pub calculate : Calculation → Fetch → Act
calculate how f = asks_first_pair f (asks_source_pair f (reads_pair (source f) (reads_pair (first f) (writes_pair (first f)
    (next (set_first_pair f (halves (calculation_of how (first_wide f) (source_wide f)))))))))

-- how a number compares with another
abbrev pub order : ℕ → ℕ → Ordering
order a b = cond (nat_lt a b) Less (cond (a == b) Equal Greater)

-- cmp: the flags tell how the first register compares with the operand
abbrev pub compare : Operand → Fetch → Act
compare o f = with_operand o f λ b. reads (first f) (next (with_flags (flags_after (Some (order (first_value f) b))) f.core))

-- cmpd: the flags tell how the first double compares with the source's
abbrev pub compare_doubles : Fetch → Act
compare_doubles f = asks_first_pair f (asks_source_pair f (reads_pair (source f) (reads_pair (first f)
    (next (with_flags (flags_after (doubles.compared (first_wide f) (source_wide f))) f.core)))))

-- jmp: r15 becomes the address, of which nothing is asked
abbrev pub jumped : Fetch → Core
jumped f = with_register 15 (address_field f.word) f.core

-- a conditional jump: only where the condition's bit is set
abbrev pub jumped_if : Condition → Fetch → Core
jumped_if c f = cond (is_met c f.core.flags) (jumped f) f.core

-- lc, la, mov: the first register becomes the operand
abbrev pub set : Operand → Fetch → Act
set o f = with_operand o f λ v. writes (first f) (next (set_first f v))

-- load, loadr: the first register becomes what the cell at the operand holds
abbrev pub load_word : Operand → Fetch → Act
load_word o f = with_operand o f λ a. writes (first f) (load a λ v. next (set_first f v))

-- load2, loadr2: the pair becomes what the cell at the operand and the next one hold
abbrev pub load_pair : Operand → Fetch → Act
load_pair o f = asks_first_pair f (with_operand o f λ a. writes_pair (first f) (load a λ low. load (a + 1) λ high. next (set_first_pair f (low, high))))

-- store, storer: the first register goes into the cell at the operand
abbrev pub store_word : Operand → Fetch → Act
store_word o f = with_operand o f λ a. reads (first f) (store a (first_value f) (next f.core))

-- store2, storer2: the pair goes into the cell at the operand and the next one
abbrev pub store_pair : Operand → Fetch → Act
store_pair o f = asks_first_pair f (with_operand o f λ a. reads_pair (first f) (store a (first_value f) (store (a + 1) (in_register f.core (first f + 1)) (next f.core))))

-- push: the first register plus the immediate is pushed to the cell at r14, which is then lowered
abbrev pub push_word : Fetch → Act
push_word f = reads (first f) (push (in_register f.core 14) (wrapped (first_value f + immediate_word f.word)) (next (with_register 14 (lowered (in_register f.core 14)) f.core)))

-- pop: r14 is raised; what the cell there holds, plus the immediate, goes into the first register, which is written last
abbrev pub pop_word : Fetch → Act
pop_word f = writes (first f) (load (raised (in_register f.core 14)) λ v.
    next (with_register (first f) (wrapped (v + immediate_word f.word)) (with_register 14 (raised (in_register f.core 14)) f.core)))

-- r14 and r13 are both the new top of the stack
abbrev pub framed : ℕ → Core → Core
framed top c = with_register 13 top (with_register 14 top c)

-- prc: r13 is pushed, and r13 is then set to the lowered r14
abbrev pub prepare : Fetch → Act
prepare f = push (in_register f.core 14) (in_register f.core 13) (next (framed (lowered (in_register f.core 14)) f.core))

-- the return address in a register, if one gets it
abbrev pub with_return : Option ℕ → ℕ → Core → Core
with_return None back c = c
with_return (Some r) back c = with_register r back c

-- a call: r15, which is the return address, and then r13 are pushed, and r13 is set to the lowered r14; then a register may get the return address; last r15 becomes the target
abbrev pub enter : Option ℕ → ℕ → Core → Act
enter r target c =
    push (in_register c 14) (in_register c 15)
    (push (lowered (in_register c 14)) (in_register c 13)
    (next (with_register 15 target (with_return r (in_register c 15) (framed (lowered (lowered (in_register c 14))) c)))))

-- call: 39 of the target, which is the operand; the first register gets the return address
abbrev pub call : Operand → Fetch → Act
call o f = with_operand o f λ t. writes (first f) (ask (inside t) (enter (Some (first f)) t f.core))

-- calli: the target is the address, of which nothing is asked
abbrev pub call_address : Fetch → Act
call_address f = enter None (address_field f.word) f.core

-- ret: the cell above r13 holds p, the stack pointer from before the arguments; the next cell holds the return address; the cell above p holds the caller's frame. r13 becomes that frame, r14 the cell above p, r15 the return address
abbrev pub return_from : Core → Act
return_from c =
    load (raised (in_register c 13)) λ p.
    load (raised (raised (in_register c 13))) λ back.
    load (raised p) λ frame.
    next (with_register 15 back (with_register 14 (raised p) (with_register 13 frame c)))

-- the number in an item
abbrev pub number_in : Item → ℕ
number_in (Number n) = n
number_in (Real n) = n
number_in (Character n) = n

-- syscall 0, EXIT: the program ends with the code in the first register
abbrev pub exit : Fetch → Act
exit f = reads (first f) (done f.core (Exited (first_value f)))

-- syscall 100, SCANINT: the first register becomes the number that is taken
abbrev pub get_number : Fetch → Act
get_number f = writes (first f) (get kind.Number λ x. next (set_first f (number_in x)))

-- syscall 101, SCANDOUBLE: the pair becomes the real that is taken
abbrev pub get_real : Fetch → Act
get_real f = asks_first_pair f (writes_pair (first f) (get kind.Real λ x. next (set_first_pair f (halves (number_in x)))))

-- syscall 102, PRINTINT: the first register is written as a number
abbrev pub put_number : Fetch → Act
put_number f = reads (first f) (put (Number (first_value f)) (next f.core))

-- syscall 103, PRINTDOUBLE: the pair is written as a real
abbrev pub put_real : Fetch → Act
put_real f = asks_first_pair f (reads_pair (first f) (put (Real (first_wide f)) (next f.core)))

-- syscall 104, GETCHAR: the first register becomes the character that is taken
abbrev pub get_character : Fetch → Act
get_character f = writes (first f) (get kind.Character λ x. next (set_first f (number_in x)))

-- syscall 105, PUTCHAR: 38; the first register is written as a character
abbrev pub put_character : Fetch → Act
put_character f = reads (first f) (ask (holds (nat_le (first_value f) 255) cause.Character) (put (Character (first_value f)) (next f.core)))

-- the system call of a number, and 32 for a number that has none
abbrev pub numbered_call : ℕ → Fetch → Act
numbered_call n f =
    cond (n == 0) (exit f)
    (cond (n == 100) (get_number f)
    (cond (n == 101) (get_real f)
    (cond (n == 102) (put_number f)
    (cond (n == 103) (put_real f)
    (cond (n == 104) (get_character f)
    (cond (n == 105) (put_character f) (fault cause.SystemCall)))))))

-- syscall: the immediate is the number
abbrev pub call_system : Fetch → Act
call_system f = numbered_call (immediate_word f.word) f

-- each operation; halt names a register and uses none
abbrev pub act_of : Operation → Fetch → Act
act_of Halt f = done f.core Halted
act_of CallSystem f = call_system f
act_of (Combine how o) f = combine how o f
act_of (Multiply o) f = multiply o f
act_of (Divide o) f = divide o f
act_of Invert f = invert f
act_of (Shift d o) f = shift d o f
act_of (MakeDouble o) f = make_double o f
act_of MakeWord f = make_word f
act_of (Calculate how) f = calculate how f
act_of (Compare o) f = compare o f
act_of CompareDoubles f = compare_doubles f
act_of Jump f = next (jumped f)
act_of (JumpIf c) f = next (jumped_if c f)
act_of Push f = push_word f
act_of Pop f = pop_word f
act_of (Set o) f = set o f
act_of (Load o) f = load_word o f
act_of (LoadPair o) f = load_pair o f
act_of (Store o) f = store_word o f
act_of (StorePair o) f = store_pair o f
act_of Prepare f = prepare f
act_of (Call o) f = call o f
act_of CallAddress f = call_address f
act_of Return f = return_from f.core
