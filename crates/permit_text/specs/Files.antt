-- What a permit file says.
use Rattle.std.specs.Prelude.{ℕ, ◌+◌, cond, List, [], ◌∷◌, Some, None, Option, Ok, Err, Result}
use Rattle.lexer.specs.Text.{lines_of, code_of}
use Rattle.permit.specs.declared.permit.Permit.{Permit}
use Rattle.permit.specs.Rights.{Rights, rights_of, new_rights}
use Rattle.permit_text.specs.declared.error.PermitError.{PermitError}
use Rattle.permit_text.specs.declared.error.PermitError.TheVariants.{NoSetting, OutOfRange}
use Rattle.permit_text.specs.declared.setting.Setting.{Setting}
use Rattle.permit_text.specs.Settings.{setting_in, in_range, with_setting}
use Rattle.permit_text.specs.Words.{words_of}

-- the rights after the setting of a line, by the line's number
abbrev pub after_setting : ℕ → Option Setting → Rights → Result Rights PermitError
after_setting line None rights = Err (NoSetting line)
after_setting line (Some setting) rights = cond (in_range setting) (Ok (with_setting setting rights)) (Err (OutOfRange line))

-- the rights after a line with some words; without words it says nothing
abbrev pub after_line : ℕ → List (List ℕ) → Rights → Result Rights PermitError
after_line line [] rights = Ok rights
after_line line (name ∷ words) rights = after_setting line (setting_in name words) rights

-- what follows where nothing is refused
abbrev pub and_then : Result Rights PermitError → (Rights → Result Rights PermitError) → Result Rights PermitError
and_then (Ok rights) next = next rights
and_then (Err error) next = Err error

-- the rights after some lines, by the number of the first: from a hash (35) on, a line is a comment
abbrev pub after_lines : ℕ → List (List ℕ) → Rights → Result Rights PermitError
after_lines line [] rights = Ok rights
after_lines line (l ∷ ls) rights = and_then (after_line line (words_of (code_of l)) rights) (after_lines (line + 1) ls)

-- the rights that a permit file gives, from those of a new permit on, or its first line that is refused
abbrev pub permit_in : List ℕ → Result Rights PermitError
permit_in text = after_lines 1 (lines_of text) new_rights

-- the rights of a permit that is read
abbrev pub shown : Result Permit PermitError → Result Rights PermitError
shown (Ok permit) = Ok (rights_of permit)
shown (Err error) = Err error

-- what is answered on a line, and the rights after it
abbrev pub outcome : Result Unit PermitError → Rights → Result Rights PermitError
outcome (Ok t) rights = Ok rights
outcome (Err error) rights = Err error
