-- The check: the parts of an executable, or the refusal of the first question with a no.
use Rattle.std.specs.Prelude.{◌≡◌, ℕ, ◌+◌, ◌<◌, Bool, true, false, cond, List, take, drop, Ok, Err, Result}
use Rattle.executable.specs.Questions.{code_size, first_instruction, stack_pointer, long_enough, marked, right_processor, zero_filler, right_sizes, right_length, right_addresses, asked, rank_of}
use Rattle.executable.specs.declared.parts.Executable.{Executable}
use Rattle.executable.specs.declared.refusal.Refusal.{Refusal}
use Rattle.executable.specs.declared.refusal.Refusal.TheVariants.{TooShort, NoMark, OtherProcessor, FillerNotZero, BadSizes, OtherLength, AddressTooLarge}

-- the bytes of code and constants, the first instruction and the initial stack pointer
pub record Parts : Type 0 where
  pub code : List ℕ
  pub constants : List ℕ
  pub first : ℕ
  pub stack : ℕ

-- an executable's parts by their contents
abbrev pub contents : Executable → Parts
contents e = record { code = e.code.now; constants = e.constants.now; first = e.first; stack = e.stack }

-- an answer of the check by its contents
abbrev pub shown : Result Executable Refusal → Result Parts Refusal
shown (Ok e) = Ok (contents e)
shown (Err q) = Err q

-- the parts that stand in the bytes of an accepted executable
abbrev pub parts_in : List ℕ → Parts
parts_in bs = record { code = take (code_size bs) (drop 512 bs); constants = drop (512 + code_size bs) bs; first = first_instruction bs; stack = stack_pointer bs }

-- go on where a question gets a yes, and else refuse
abbrev pub ask : {X E : Type 0} → Bool → E → Result X E → Result X E
ask answer q next = cond answer next (Err q)

-- questions 20 to 26, in their order
abbrev pub checked : List ℕ → Result Parts Refusal
checked bs =
    ask (long_enough bs) TooShort
    (ask (marked bs) NoMark
    (ask (right_processor bs) OtherProcessor
    (ask (zero_filler bs) FillerNotZero
    (ask (right_sizes bs) BadSizes
    (ask (right_length bs) OtherLength
    (ask (right_addresses bs) AddressTooLarge
    (Ok (parts_in bs))))))))

-- accepted bytes get a yes to every question; a refusal's own question gets a no, and each that is asked before it a yes
abbrev pub OnlyFirstNo : List ℕ → Result Parts Refusal → Type 0
OnlyFirstNo bs (Ok p) = (q : Refusal) → asked q bs ≡ true
OnlyFirstNo bs (Err q) = (asked q bs ≡ false) × ((p : Refusal) → rank_of p < rank_of q → asked p bs ≡ true)
