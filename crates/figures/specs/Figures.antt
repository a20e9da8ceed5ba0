-- Worked examples of the definitions.
use Rattle.std.specs.Prelude.{◌≡◌, ℕ, zero, suc, List, [], ◌∷◌, ◌++◌, map, drop, replicate, pos, negsuc, Some, None, Ok, Err, Result, codes}
use Rattle.host.specs.Meaning.{Meaning}
use Rattle.isa.specs.Command.{Plain, instruction, encoded, decoded}
use Rattle.isa.specs.Operands.{rr, ri, j}
use Rattle.isa.specs.declared.opcode.Opcode.TheVariants.{Halt, Mov, Lc, Jmp, Push, Prc, Calli, Ret, Shli, Divi}
use Rattle.executable.specs.Check.{parts_in}
use Rattle.integers.specs.Division.{divided}
use Rattle.machine.specs.Cores.{Core, in_register}
use Rattle.machine.specs.Numbers.{number_of}
use Rattle.machine.specs.Rules.{Rules}
use Rattle.machine.specs.Step.{State, state, command_act, stepped}
use Rattle.machine.specs.declared.fault.Fault.{Fault}
use Rattle.machine.specs.declared.turn.Turn.{Turn}
use Rattle.machine.specs.declared.turn.Turn.TheVariants.{Next}
use Rattle.permit.specs.Rights.{new_rights}
use Rattle.assembler.specs.Assembled.{assembled, good}
use Rattle.assembler.specs.Emit.{executable_of}
use Rattle.listing.specs.Listing.{listing}
use Rattle.listing.specs.Lines.{line_text, word_line}
use Rattle.executable.specs.declared.segment.Segment.TheVariants.{Code}

-- a text and the byte that ends a line
abbrev pub line : List ℕ → List ℕ
line text = text ++ 10 ∷ []

-- the lines of four commands, and of the end
abbrev pub text : List ℕ
text = line (codes "mov r1 r2 -5") ++ (line (codes "lc r7 -1") ++ (line (codes "calli 21913") ++ (line (codes "halt r0 0") ++ line (codes "end 0"))))

-- their executable: 4 words of code and none of constants, the first instruction, the stack pointer, and the words
abbrev pub executable : List ℕ
executable = executable_of 4 0 0 1048575 (0x2912FFFB ∷ 0x277FFFFF ∷ 0x34005599 ∷ 0 ∷ [])

-- a new permit, and a program of one word of code
abbrev pub rules : Rules
rules = record { rights = new_rights; layout = record { code = 1; constants = 0; stack = 0 } }

-- one command as the whole memory, and a new processor but for two numbers in r0 and r1
abbrev pub alone : Plain → ℕ → ℕ → Meaning → State
alone p low high m = state (record { registers = low ∷ high ∷ replicate 14 0; flags = 0 }) (encoded p ∷ []) m

-- what comes after a step, and what it left in r0 and r1; or the number of its fault
abbrev pub seen : Result Turn Fault → Core → Result (Turn × ℕ × ℕ) ℕ
seen (Ok t) c = Ok (t, in_register c 0, in_register c 1)
seen (Err f) c = Err (number_of f.cause)

-- what a step of one command makes of two numbers in r0 and r1, over a host
abbrev pub step_of : Plain → ℕ → ℕ → Meaning → Result (Turn × ℕ × ℕ) ℕ
step_of p low high m = let s = stepped rules (alone p low high m) in seen s.turn s.state.core

-- a call with an argument, and at cell 4 a function that returns at once
abbrev pub call : List Plain
call =
    instruction Prc (j 0) ∷ instruction Push (ri 1 (pos 7)) ∷ instruction Calli (j 4) ∷
    instruction Halt (ri 0 (pos 0)) ∷ instruction Ret (j 0) ∷ []

-- it stands at the beginning of ten cells; r13 is 20, and r14 the last cell
abbrev pub calling : Meaning → State
calling m =
    let last = 20 ∷ 9 ∷ 0 ∷ [] in
    state (record { registers = replicate 13 0 ++ last; flags = 0 }) (map encoded call ++ replicate 5 0) m

-- a state some steps on
abbrev pub later : ℕ → State → State
later zero s = s
later (suc n) s = later n (stepped rules s).state

-- what comes after each of some steps
abbrev pub turns : ℕ → State → List (Result Turn Fault)
turns zero s = []
turns (suc n) s = let x = stepped rules s in x.turn ∷ turns n x.state

-- the last three registers of a state: frame, stack and next word
abbrev pub last_three : State → List ℕ
last_three s = drop 13 s.core.registers

-- the words of some commands, and the lines that words list as (negsuc n is -n - 1); what a word does that no text is assembled to; a division at its edge; steps of divi and shli at theirs, with two numbers in r0 and r1; a call and its return; a text, its executable and its listing
pub record Figures : Type 0 where
  pub mov : encoded (instruction Mov (rr 1 2 (negsuc 4))) ≡ 0x2912FFFB
  pub lc : encoded (instruction Lc (ri 7 (negsuc 0))) ≡ 0x277FFFFF
  pub calli : encoded (instruction Calli (j 21913)) ≡ 0x34005599
  pub halt : decoded 0 ≡ Some (instruction Halt (ri 0 (pos 0)))
  pub mov_line : line_text (word_line Code 0x2912FFFB) ≡ line (codes "mov r1 r2 -5")
  pub lc_line : line_text (word_line Code 0x277FFFFF) ≡ line (codes "lc r7 -1")
  pub calli_line : line_text (word_line Code 0x34005599) ≡ line (codes "calli 21913")
  pub halt_line : line_text (word_line Code 0) ≡ line (codes "halt r0 0")
  pub jmp_bits : decoded 0x1E100000 ≡ None
  pub jmp_bits_line : line_text (word_line Code 0x1E100000) ≡ line (codes "word 504365056")
  pub jmp_bits_run : (c : Core) → command_act 0x1E100000 c ≡ command_act (encoded (instruction Jmp (j 0))) c
  pub quotient : divided 0x100000000 2 ≡ Ok (2147483648, 0)
  pub no_quotient : divided 0x200000000 2 ≡ Err (record {})
  pub divi_runs : (m : Meaning) → step_of (instruction Divi (ri 0 (pos 2))) 0 1 m ≡ Ok (Next, 2147483648, 0)
  pub divi_faults : (m : Meaning) → step_of (instruction Divi (ri 0 (pos 2))) 0 2 m ≡ Err 36
  pub shli_runs : (m : Meaning) → step_of (instruction Shli (ri 0 (pos 31))) 1 0 m ≡ Ok (Next, 2147483648, 0)
  pub shli_faults : (m : Meaning) → step_of (instruction Shli (ri 0 (pos 32))) 1 0 m ≡ Err 35
  pub calls : (m : Meaning) → last_three (later 3 (calling m)) ≡ 5 ∷ 5 ∷ 4 ∷ []
  pub returns : (m : Meaning) → last_three (later 4 (calling m)) ≡ 20 ∷ 9 ∷ 3 ∷ []
  pub goes_on : (m : Meaning) → turns 4 (calling m) ≡ replicate 4 (Ok Next)
  pub assembles : assembled text 0 528 ≡ good executable []
  pub lists : listing (parts_in executable) ≡ line (codes "stack 1048575") ++ text
