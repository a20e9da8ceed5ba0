-- Reading operands one by one.
use Rattle.std.specs.Prelude.{ℕ, zero, suc, List, [], ◌∷◌, map, drop, Some, None, Ok, Err, Option, Result}
use Rattle.executable.specs.Check.{ask}
use Rattle.isa.specs.Operands.{Numbers}
use Rattle.isa.specs.declared.form.Form.{Form}
use Rattle.lexer.specs.Cursor.{words_in}
use Rattle.lexer.specs.Shown.{Shown, kind_of}
use Rattle.lexer.specs.declared.words.Words.{Words}
use Rattle.assembler.specs.Operands.{Place, each, in_range, operand, places_in, well_formed}
use Rattle.assembler.specs.Statements.{numbers_by, label_by}
use Rattle.assembler.specs.declared.question.Question.{Question}
use Rattle.assembler.specs.declared.question.Question.TheVariants as question
use Rattle.assembler.specs.declared.target.Target.{Target}
use Rattle.assembler.specs.declared.target.Target.TheVariants.{Address, Label}

-- the operands that are still to come
abbrev pub operands_in : Words → List Shown
operands_in ws = map kind_of (words_in ws)

-- what stands at each of n places; where there is no operand, a name that nothing has
abbrev pub at_places : ℕ → List Shown → List Shown
at_places zero ws = []
at_places (suc n) ws = operand 0 ws ∷ at_places n (drop 1 ws)

-- a value of operands in their places: questions 8 and 9
abbrev pub read_places : {X : Type 0} → List Place → List Shown → X → Result X Question
read_places ps ws x = ask (each well_formed ps ws) question.Form (ask (each in_range ps ws) question.Range (Ok x))

-- a value of one operand in its place: questions 8 and 9
abbrev pub placed : {X : Type 0} → Place → Shown → X → Result X Question
placed p w x = ask (well_formed p w) question.Form (ask (in_range p w) question.Range (Ok x))

-- the numbers of a form's operands, and the label that stands for an address
abbrev pub read_numbers : Form → List Shown → Result (Numbers × Option (List ℕ)) Question
read_numbers f ws = read_places (places_in f) ws (numbers_by f ws, label_by f ws)

-- what was read, by a view of its value
abbrev pub result_map : {X Y : Type 0} → (X → Y) → Result X Question → Result Y Question
result_map f (Ok x) = Ok (f x)
result_map f (Err q) = Err q

-- the number of a target's address, 0 where a label stands for it, and that label
abbrev pub aimed : Target → ℕ × Option (List ℕ)
aimed (Address a) = (a.value, None)
aimed (Label l) = (0, Some l.now)
