-- The questions that a refusal or a fault tells by their numbers.
use Rattle.std.specs.Prelude.{ℕ, List, [], ◌∷◌, codes, Some, None, Option, find, map, ◌==◌}

-- a question: its number, and the sentence that asks it
pub record Question : Type 0 where
  pub number : ℕ
  pub sentence : List ℕ

-- a question by its parts
abbrev pub asks : ℕ → List ℕ → Question
asks n s = record { number = n; sentence = s }

-- all questions, by rising numbers
unfoldable pub questions : List Question
questions =
    asks 1 (codes "is the text no longer than 2,097,152 bytes, and has it no byte but 9, 10 and 32 to 126?") ∷
    asks 2 (codes "has the line's label the form of a label, and is it neither reserved nor defined before?") ∷
    asks 3 (codes "is there room in the label list for one more?") ∷
    asks 4 (codes "does a label get its command or constant before another label or a directive comes?") ∷
    asks 5 (codes "does the line's first word, its label aside, name a directive, a constant or a command?") ∷
    asks 6 (codes "does the line stand where it may?") ∷
    asks 7 (codes "has the line's name the right number of operands?") ∷
    asks 8 (codes "has every operand the form that its place takes?") ∷
    asks 9 (codes "does every number lie in the range of its place?") ∷
    asks 10 (codes "are code and constants at most 65,536 words, with this line's?") ∷
    asks 11 (codes "has the text an end?") ∷
    asks 12 (codes "is each label that an operand names defined in the text?") ∷
    asks 13 (codes "does the executable fit into the output?") ∷
    asks 20 (codes "does a whole header stand there, 512 bytes?") ∷
    asks 21 (codes "do the first 16 bytes spell the mark?") ∷
    asks 22 (codes "is the executable made for processor 239?") ∷
    asks 23 (codes "is the filler, bytes 36 to 511, all zero?") ∷
    asks 24 (codes "do both sizes count whole words of 4 bytes, 65,536 words at most in all?") ∷
    asks 25 (codes "is every byte accounted for: the header, and then as many as both sizes say?") ∷
    asks 26 (codes "do the first instruction's address and the initial stack pointer both lie below 1,048,576?") ∷
    asks 27 (codes "does the listing fit into the output?") ∷
    asks 29 (codes "has the memory from 1,024 up to 1,048,576 cells, and do words, start and stack pointer lie in it?") ∷
    asks 30 (codes "is there a cell at the address in r15?") ∷
    asks 31 (codes "does the word have a command's code, 53 or less?") ∷
    asks 32 (codes "is there a system call with this number?") ∷
    asks 33 (codes "does each pair begin at r14 or below, so that a second register follows?") ∷
    asks 34 (codes "do the levels of the operands' registers allow what the command does to them?") ∷
    asks 35 (codes "is the value to be shifted by 31 bits or fewer?") ∷
    asks 36 (codes "is there a quotient that one register can hold?") ∷
    asks 37 (codes "does the double lie strictly between -1 and 4,294,967,296?") ∷
    asks 38 (codes "is the character's number 255 or less?") ∷
    asks 39 (codes "is the cell, or the target of the call, inside memory?") ∷
    asks 40 (codes "does the level of the cell's segment allow the access?") ∷
    asks 41 (codes "does the push keep the stack within the permit's maximum?") ∷
    asks 42 (codes "is anything left of the input, an item or a spoiled end?") ∷
    asks 43 (codes "does the rest of the input begin with an item?") ∷
    asks 44 (codes "has the next item the kind that is asked for?") ∷
    asks 45 (codes "may one more item be written?") ∷
    asks 46 (codes "are 65,536 writes or fewer asked for, with room for each: 9 bytes of a tape, a record of a sheet?") ∷
    asks 50 (codes "has the memory as many cells as when the machine was loaded?") ∷
    asks 51 (codes "has no run of the machine ended in an exit?") ∷
    asks 52 (codes "is the budget 100,000,000 steps or fewer?") ∷
    asks 53 (codes "is there such a register or cell?") ∷
    asks 54 (codes "are all in range: register 0 to 15, segment 0 to 1, level 0 to 2, maximum 0 to 1,048,576?") ∷ []

-- the numbers of all questions
abbrev pub numbers : List ℕ
numbers = map (λ q. q.number) questions

-- what a question asks
abbrev pub sentence_of : Option Question → List ℕ
sentence_of (Some q) = q.sentence
sentence_of None = codes "no question has this number"

-- what the question with a number asks
abbrev pub question_text : ℕ → List ℕ
question_text n = sentence_of (find (λ q. q.number == n) questions)
