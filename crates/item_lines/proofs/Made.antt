-- A clean tape that is shown and made again.
use Rattle.std.proofs.Common.{◌≡◌, ℕ, ◌<◌, Bool, true, false, cond, ltb, List, [], ◌++◌, length, take, drop, Some, None, Ok, Err, Result, ap, sym, ◌∙◌, subst, append-nil, Vec}
use Rattle.std.specs.Global.{Global}
use Rattle.std.specs.List.{All}
use Rattle.std.specs.Result.{IsErrAnd}
use Rattle.std.proofs.Math.Seq.{take-append_seam}
use Rattle.std.proofs.lemmas.Bool.{lt-ltb}
use Rattle.std.proofs.lemmas.List.Elements.{All-weaker}
use Rattle.host.specs.Codes.{RestAt, all_coded}
use Rattle.host.specs.TapeLaws.{tape_laws}
use Rattle.host.specs.TapeParts.{Bytes}
use Rattle.host.specs.Tapes.{items, spoiled, tape_code}
use Rattle.host.specs.Transcripts.{length_answer, output_with}
use Rattle.host.specs.declared.item.Item.{Item}
use Rattle.item_lines.specs.Lines.{item_lines}
use Rattle.item_lines.specs.Made.{Again, after_reading}
use Rattle.item_lines.specs.Tapes.{end_lines, tape_lines}
use Rattle.item_lines.specs.Texts.{GivesBack, ReadsBack}
use Rattle.item_lines.specs.declared.make.MakeError.{MakeError}
use Rattle.item_lines.specs.declared.read.ReadError.{ReadError}
use Rattle.item_lines.specs.declared.read.ReadError.TheVariants as read
use Rattle.item_lines.proofs.Ranges.{items_ranged}

are_bytes : (bs : List ℕ) → All (λ b. b < 256) bs → Bytes bs
are_bytes bs = All-weaker (λ b. b < 256) (λ b. ltb b 256 ≡ true) (λ b h. lt-ltb b 256 h) bs

-- a clean tape is the bytes of the items on it
clean_tape : (bs : List ℕ) → All (λ b. b < 256) bs → spoiled bs ≡ false → all_coded tape_code (items bs) ≡ bs
clean_tape bs bytes clean =
    let p = tape_laws.parted bs (are_bytes bs bytes) in
    let none : p.rest ≡ [] = subst (λ s. RestAt tape_code s p.rest) clean p.ending in
    sym (p.parts ∙ ap (λ r. all_coded tape_code (items bs) ++ r) none ∙ append-nil (all_coded tape_code (items bs)))

-- the lines that show it are those of the items on it
clean_lines : (bs : List ℕ) → spoiled bs ≡ false → tape_lines bs ≡ item_lines (items bs)
clean_lines bs clean =
    ap (λ s. item_lines (items bs) ++ end_lines (cond s (Some (length (all_coded tape_code (items bs)))) None)) clean ∙ append-nil (item_lines (items bs))

-- what reads these lines reads those items
pub shown_read : (text : List ℕ) (r : Result (Vec Item Global) ReadError) → ReadsBack text r → (bs : List ℕ) → All (λ b. b < 256) bs → spoiled bs ≡ false → text ≡ tape_lines bs → GivesBack (items bs) r
shown_read text r back bs bytes clean shown = back (items bs) (items_ranged bs (are_bytes bs bytes)) (shown ∙ clean_lines bs clean)

-- where reading them gives an error, making gives that error
refused : (bs : List ℕ) (e : ReadError) → GivesBack (items bs) (Err e) → Again bs (Err (after_reading e))
refused bs (read.Line n) never = never
refused bs read.Memory none = tt

pub not_made : (bs : List ℕ) (e : ReadError) (r : Result (Vec ℕ Global) MakeError) → GivesBack (items bs) (Err e) → IsErrAnd r (λ m. m ≡ after_reading e) → Again bs r
not_made bs e (Ok v) back err = absurd err
not_made bs e (Err m) back err = subst (λ m. Again bs (Err m)) (sym err) (refused bs e back)

-- the units of items that are written stand first in the output
written_first : (b : Bool) (n : ℕ) (us old new : List ℕ) → Ok n ≡ length_answer b us → new ≡ output_with true us old → take n new ≡ us
written_first false n us old new answer stored = cc
written_first true n us old new answer stored =
    let long : n ≡ length us = cc in
    ap (λ k. take k new) long ∙ ap (take (length us)) stored ∙ take-append_seam us (drop (length us) old)

-- an output that is cut behind them is the tape whose items they are
pub made_again : (bs : List ℕ) (xs : List Item) (b : Bool) (n most : ℕ) (old new rest made : List ℕ) → All (λ b. b < 256) bs → spoiled bs ≡ false → xs ≡ items bs → Ok n ≡ length_answer b (all_coded tape_code xs) → new ≡ output_with true (all_coded tape_code xs) old → length new ≡ most → made ≡ take n (take most (new ++ rest)) → made ≡ bs
made_again bs xs b n most old new rest made bytes clean same answer stored long cut =
    let whole : take most (new ++ rest) ≡ new = ap (λ k. take k (new ++ rest)) (sym long) ∙ take-append_seam new rest in
    cut ∙ ap (take n) whole ∙ written_first b n (all_coded tape_code xs) old new answer stored ∙ ap (all_coded tape_code) same ∙ clean_tape bs bytes clean
