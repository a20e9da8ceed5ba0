-- The listing of an executable.
use Rattle.std.specs.Prelude.{◌≡◌, ℕ, ◌<◌, Bool, true, false, List, [], ◌∷◌, ◌++◌, map, length, drop, Ok, Err, codes, Result, nat_le}
use Rattle.std.specs.List.{flat_map}
use Rattle.executable.specs.Bytes.{words_of}
use Rattle.executable.specs.Check.{Parts, parts_in, ask, checked}
use Rattle.executable.specs.Questions as executable
use Rattle.executable.specs.declared.refusal.Refusal as refused
use Rattle.listing.specs.Lines.{line_text, number_line, word_line}
use Rattle.listing.specs.declared.refusal.Refusal.{Refusal}
use Rattle.listing.specs.declared.refusal.Refusal.TheVariants.{Executable, OutputTooShort}
use Rattle.executable.specs.declared.segment.Segment.TheVariants.{Code, Constants}

-- the initial stack pointer, the code words, the constants, the first instruction
abbrev pub listing_lines : Parts → List (List (List ℕ))
listing_lines p =
    number_line (codes "stack") p.stack
    ∷ (map (word_line Code) (words_of p.code) ++ (map (word_line Constants) (words_of p.constants) ++ (number_line (codes "end") p.first ∷ [])))

-- the text of all lines
abbrev pub listing : Parts → List ℕ
listing p = flat_map line_text (listing_lines p)

-- 27: does the listing fit into the output?
abbrev pub room_for : Parts → ℕ → Bool
room_for p room = nat_le (length (listing p)) room

-- a refusal of the check, or the text where question 27 gets a yes
abbrev pub listed_parts : Result Parts refused.Refusal → ℕ → Result (List ℕ) Refusal
listed_parts (Err q) room = Err (Executable q)
listed_parts (Ok p) room = ask (room_for p room) OutputTooShort (Ok (listing p))

-- the text that some bytes list as, where an output has room for it
abbrev pub listed : List ℕ → ℕ → Result (List ℕ) Refusal
listed bs room = listed_parts (checked bs) room

-- what the call answers: the text's length
abbrev pub length_of : Result (List ℕ) Refusal → Result ℕ Refusal
length_of (Ok text) = Ok (length text)
length_of (Err q) = Err q

-- the output afterwards: the text, and past it what was there
abbrev pub output_after : Result (List ℕ) Refusal → List ℕ → List ℕ
output_after (Ok text) out = text ++ drop (length text) out
output_after (Err q) out = out

-- the question behind each refusal
abbrev pub asked : Refusal → List ℕ → ℕ → Bool
asked (Executable q) bs room = executable.asked q bs
asked OutputTooShort bs room = room_for (parts_in bs) room

-- the place of each question in the order of asking: 27 is asked after all questions of the check
abbrev pub rank_of : Refusal → ℕ
rank_of (Executable q) = executable.rank_of q
rank_of OutputTooShort = 7

-- a listed executable gets a yes to every question; a refusal's own question gets a no, and each that is asked before it a yes
abbrev pub OnlyFirstNo : List ℕ → ℕ → Result ℕ Refusal → Type 0
OnlyFirstNo bs room (Ok n) = (q : Refusal) → asked q bs room ≡ true
OnlyFirstNo bs room (Err q) = (asked q bs room ≡ false) × ((p : Refusal) → rank_of p < rank_of q → asked p bs room ≡ true)
