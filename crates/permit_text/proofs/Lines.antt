-- Lines by their numbers, places and code.
use Rattle.std.proofs.Common.{◌≡◌, ℕ, ◌+◌, ◌<◌, ◌≤◌, Bool, true, false, cond, List, [], ◌∷◌, length, Some, None, Ok, Err, Option, Result, sym, refl, ap, arith}
use Rattle.std.specs.Result.{IfErr}
use Rattle.lexer.specs.Cursor.{lines_in, numbered_in}
use Rattle.lexer.specs.Text.{CodeLine, lines_of, code_of, numbered}
use Rattle.lexer.specs.declared.lines.Lines.{Lines}
use Rattle.permit.specs.Rights.{Rights, new_rights}
use Rattle.permit.specs.declared.permit.Permit.{Permit}
use Rattle.permit_text.specs.declared.error.PermitError.{PermitError}
use Rattle.permit_text.specs.declared.error.PermitError.TheVariants.{NoSetting, OutOfRange}
use Rattle.permit_text.specs.declared.setting.Setting.{Setting}
use Rattle.permit_text.specs.Errors.{line_of, IsLineOf}
use Rattle.permit_text.specs.Files.{after_setting, after_line, after_lines, and_then, permit_in, shown}
use Rattle.permit_text.specs.Settings.{setting_in, in_range, with_setting}
use Rattle.permit_text.specs.Words.{words_of}

abbrev pub after_told : List CodeLine → Rights → Result Rights PermitError
after_told [] p = Ok p
after_told (l ∷ ls) p = and_then (after_line l.number (words_of l.code) p) (after_told ls)

and_then_same : (r : Result Rights PermitError) (f g : Rights → Result Rights PermitError) → ((p : Rights) → f p ≡ g p) → and_then r f ≡ and_then r g
and_then_same (Ok p) f g h = h p
and_then_same (Err e) f g h = refl

pub told_is : (line place : ℕ) (ls : List (List ℕ)) (p : Rights) → after_told (numbered line place ls) p ≡ after_lines line ls p
told_is line place [] p = refl
told_is line place (l ∷ ls) p = and_then_same _ _ _ (told_is (line + 1) (place + length l + 1) ls)

-- at the first line
pub begins : (text : List ℕ) (lines : Lines) (p : Rights) → (lines.place ≡ 0) × (lines.number ≡ 1) × (lines_in lines ≡ lines_of text) → p ≡ new_rights → permit_in text ≡ after_told (numbered_in lines) p
begins text lines p h e = cc (told_is 1 0 (lines_of text) new_rights, h.0, h.1, h.2)

-- a refusal on a line names that line
named_in_range : (line : ℕ) (in_range : Bool) (p : Rights) (e : PermitError) → cond in_range (Ok p) (Err (OutOfRange line)) ≡ Err e → line_of e ≡ line
named_in_range line true p e h = cc
named_in_range line false p e h = let same : OutOfRange line ≡ e = cc in sym (ap line_of same)

named_in_setting : (line : ℕ) (o : Option Setting) (p : Rights) (e : PermitError) → after_setting line o p ≡ Err e → line_of e ≡ line
named_in_setting line None p e h = let same : NoSetting line ≡ e = cc in sym (ap line_of same)
named_in_setting line (Some s) p e h = named_in_range line (in_range s) (with_setting s p) e h

named_in_line : (line : ℕ) (ws : List (List ℕ)) (p : Rights) (e : PermitError) → after_line line ws p ≡ Err e → line_of e ≡ line
named_in_line line [] p e h = cc
named_in_line line (name ∷ ws) p e h = named_in_setting line (setting_in name ws) p e h

-- a refusal of some lines names one of them
abbrev Among : ℕ → List (List ℕ) → PermitError → Type 0
Among line ls e = (line ≤ line_of e) × (line_of e < line + length ls)

among_more : (line : ℕ) (l : List ℕ) (ls : List (List ℕ)) (r : Result Rights PermitError) (e : PermitError) → ((d : PermitError) → r ≡ Err d → line_of d ≡ line) → ((p : Rights) → after_lines (line + 1) ls p ≡ Err e → Among (line + 1) ls e) → and_then r (after_lines (line + 1) ls) ≡ Err e → Among line (l ∷ ls) e
among_more line l ls (Ok p) e here next h = let k = next p h in (omega (arith, k.0), omega (arith, k.1))
among_more line l ls (Err d) e here next h = let same : d ≡ e = cc in let k = here d refl in let j = ap line_of same in (omega (arith, k, j), omega (arith, k, j))

among : (line : ℕ) (ls : List (List ℕ)) (p : Rights) (e : PermitError) → after_lines line ls p ≡ Err e → Among line ls e
among line [] p e h = cc
among line (l ∷ ls) p e h =
    let words = words_of (code_of l) in
    among_more line l ls (after_line line words p) e (named_in_line line words p) (λ q. among (line + 1) ls q e) h

pub line_named : (text : List ℕ) (r : Result Permit PermitError) → shown r ≡ permit_in text → IfErr r (λ e. IsLineOf text (line_of e))
line_named text (Ok p) h = tt
line_named text (Err e) h = let k = among 1 (lines_of text) new_rights e (sym h) in record { first = k.0; last = omega (arith, k.1) }
