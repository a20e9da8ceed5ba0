-- A listing assembles to what it was printed from.
use Rattle.std.proofs.Common.{◌≡◌, ℕ, ◌+◌, ◌*◌, ◌≤◌, true, leb, List, [], ◌++◌, length, drop, None, sym, ap, ◌∙◌, arith}
use Rattle.std.proofs.lemmas.Bool.{cond-true, and_from, le-leb}
use Rattle.executable.specs.Bytes.{words_of}
use Rattle.executable.specs.Check.{parts_in}
use Rattle.executable.specs.Questions.{code_size}
use Rattle.executable.specs.declared.refusal.Refusal.TheVariants.{BadSizes, OtherLength, AddressTooLarge}
use Rattle.lexer.specs.Text.{lines_of}
use Rattle.lexer.proofs.Again.{EachHigh, closing, lines_again}
use Rattle.listing.specs.Listing.{listing_lines, listing}
use Rattle.listing.proofs.Room.{Words, words_small, bytes_take, bytes_drop, listing_length, executable_length}
use Rattle.assembler.specs.Labels.{name_in}
use Rattle.assembler.specs.Assembled.{Assembled, good, bad, all_text_bytes, right_text, fresh, run_from, lastly, after_lines, assembled}
use Rattle.assembler.specs.Emit.{words_from, lost_from, start_from, executable_of}
use Rattle.roundtrip.specs.Laws.{Bytes, Accepted, AssemblesBack, TellsApart}
use Rattle.roundtrip.proofs.Emitted.{high_all, words_all, lost_all, start_all}
use Rattle.roundtrip.proofs.Rebuilt.{whole, code_words, constants_words, few_words, first_small, stack_small, rebuilt}
use Rattle.roundtrip.proofs.Runs.{state, Ends, run_all}
use Rattle.roundtrip.proofs.Shown.{lines_are_text}

module _ (bs : List ℕ) (h : Bytes bs) (accepted : Accepted bs) where
  code_small : Words (words_of (parts_in bs).code)
  code_small = words_small (parts_in bs).code (bytes_take (code_size bs) (drop 512 bs) (bytes_drop 512 bs h))

  constants_small : Words (words_of (parts_in bs).constants)
  constants_small = words_small (parts_in bs).constants (bytes_drop (512 + code_size bs) bs h)

  lines_high : EachHigh (listing_lines (parts_in bs))
  lines_high = high_all (parts_in bs).stack (parts_in bs).first (words_of (parts_in bs).code) (words_of (parts_in bs).constants) (stack_small bs accepted) (first_small bs accepted) code_small constants_small

  -- the listing is a text, and its lines are the lines that it was joined from
  right : right_text (listing (parts_in bs)) ≡ true
  right =
      let t = listing (parts_in bs) in
      and_from (leb (length t) 2097152) (all_text_bytes t)
      (le-leb (length t) 2097152 (omega (arith, listing_length bs h (accepted OtherLength) (accepted AddressTooLarge), executable_length bs (accepted BadSizes) (accepted OtherLength))))
      (lines_are_text (listing_lines (parts_in bs)) lines_high)

  lines : lines_of (listing (parts_in bs)) ≡ closing (listing_lines (parts_in bs))
  lines = lines_again (listing_lines (parts_in bs)) lines_high

  module _ (t : List ℕ) where
    ran : Ends (length (words_of (parts_in bs).code)) (length (words_of (parts_in bs).constants)) (parts_in bs).stack (run_from (name_in t) 0 [] fresh 1 0 (closing (listing_lines (parts_in bs))))
    ran = run_all t 0 (parts_in bs).stack (parts_in bs).first (words_of (parts_in bs).code) (words_of (parts_in bs).constants) (stack_small bs accepted) (first_small bs accepted) code_small constants_small (few_words bs accepted)

    words : words_from (name_in t) [] (closing (listing_lines (parts_in bs))) ≡ words_of (parts_in bs).code ++ words_of (parts_in bs).constants
    words = words_all (parts_in bs).stack (parts_in bs).first (words_of (parts_in bs).code) (words_of (parts_in bs).constants) (stack_small bs accepted) (first_small bs accepted) code_small constants_small t []

    lost : lost_from (name_in t) [] 1 (closing (listing_lines (parts_in bs))) ≡ None
    lost = lost_all (parts_in bs).stack (parts_in bs).first (words_of (parts_in bs).code) (words_of (parts_in bs).constants) (stack_small bs accepted) (first_small bs accepted) code_small constants_small t [] 1

    start : start_from (name_in t) [] (closing (listing_lines (parts_in bs))) ≡ (parts_in bs).first
    start = start_all (parts_in bs).stack (parts_in bs).first (words_of (parts_in bs).code) (words_of (parts_in bs).constants) (stack_small bs accepted) (first_small bs accepted) code_small constants_small t []

-- what follows the lines of a text that pass, over plain variables
finish : (t : List ℕ) (ls : List (List ℕ)) (room k n p first : ℕ) (ws : List ℕ) → lines_of t ≡ ls → Ends k n p (run_from (name_in t) 0 [] fresh 1 0 ls) → lost_from (name_in t) [] 1 ls ≡ None → words_from (name_in t) [] ls ≡ ws → start_from (name_in t) [] ls ≡ first → 512 + 4 * (k + n) ≤ room
    → after_lines t room (run_from (name_in t) 0 [] fresh 1 0 (lines_of t)) ≡ good (executable_of k n first p ws) []
finish t ls room k n p first ws lines ran lost words start fits =
    let pr = state ran.begun ran.stacked ran.constants true k n p in
    ap (after_lines t room) (ap (run_from (name_in t) 0 [] fresh 1 0) lines ∙ ran.is)
    ∙ ap (lastly t room [] pr) (ap (lost_from (name_in t) [] 1) lines ∙ lost)
    ∙ cond-true _ _ _ (le-leb (512 + 4 * (k + n)) room fits)
    ∙ ap (λ x. good (executable_of k n x p (words_from (name_in t) [] (lines_of t))) []) (ap (start_from (name_in t) []) lines ∙ start)
    ∙ ap (λ x. good (executable_of k n first p x) []) (ap (words_from (name_in t) []) lines ∙ words)

-- the listing of an accepted executable assembles back in any output that has room for it
pub roomy : (bs : List ℕ) (room : ℕ) → Bytes bs → Accepted bs → length bs ≤ room → assembled (listing (parts_in bs)) 0 room ≡ good bs []
roomy bs room h accepted fits =
    let t = listing (parts_in bs) in
    let cs = words_of (parts_in bs).code in
    let ks = words_of (parts_in bs).constants in
    cond-true _ _ _ (right bs h accepted)
    ∙ finish t (closing (listing_lines (parts_in bs))) room (length cs) (length ks) (parts_in bs).stack (parts_in bs).first (cs ++ ks)
    (lines bs h accepted) (ran bs h accepted t) (lost bs h accepted t) (words bs h accepted t) (start bs h accepted t)
    (omega (arith, whole bs accepted, code_words bs accepted, constants_words bs accepted))
    ∙ ap (λ x. good x []) (rebuilt bs accepted h)

pub back : AssemblesBack
back bs h accepted = roomy bs (length bs) h accepted (omega arith)

-- the executable that assembling gives
abbrev bytes_of : Assembled → List ℕ
bytes_of (good bytes ls) = bytes
bytes_of (bad q n ls) = []

pub apart : TellsApart
apart xs ys hx hy ax ay = (
  (λ e.
      let room = length xs + length ys in
      ap bytes_of (sym (roomy xs room hx ax (omega arith)) ∙ ap (λ t. assembled t 0 room) e ∙ roomy ys room hy ay (omega arith))),
  (λ e. ap (λ bs. listing (parts_in bs)) e),
)
