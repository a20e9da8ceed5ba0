-- What the words of a line set.
use Rattle.std.specs.Prelude.{ℕ, Bool, cond, List, [], ◌∷◌, None, Option, option_and_then, codes}
use Rattle.std.specs.Option.{option_map}
use Rattle.std.specs.Str.{bytes_eq}
use Rattle.numerals.specs.Natural.{natural, capped}
use Rattle.permit.specs.Rights.{Rights, register_in_range, segment_in_range, stack_in_range, register_set, segment_set, stack_set}
use Rattle.permit_text.specs.declared.setting.Setting.{Setting}
use Rattle.permit_text.specs.declared.setting.Setting.TheVariants.{Register, Segment, Stack}

-- the number that a single word writes
abbrev pub only_number : List (List ℕ) → Option ℕ
only_number [] = None
only_number (word ∷ []) = natural word
only_number (word ∷ next ∷ more) = None

-- a register and its level
abbrev pub register_in : List (List ℕ) → Option Setting
register_in [] = None
register_in (word ∷ more) = option_and_then (λ register. option_map (Register register) (only_number more)) (natural word)

-- the setting that a name and the words after it write: segment 0 is the code, 1 the constants
abbrev pub setting_in : List ℕ → List (List ℕ) → Option Setting
setting_in name words =
    cond (bytes_eq name (codes "register")) (register_in words)
    (cond (bytes_eq name (codes "code")) (option_map (Segment 0) (only_number words))
    (cond (bytes_eq name (codes "constants")) (option_map (Segment 1) (only_number words))
    (cond (bytes_eq name (codes "stack")) (option_map Stack (only_number words)) None)))

-- as far as it matters: no range goes past 2 ^ 32
abbrev pub capped_setting : Setting → Setting
capped_setting (Register register level) = Register (capped register) (capped level)
capped_setting (Segment segment level) = Segment (capped segment) (capped level)
capped_setting (Stack words) = Stack (capped words)

-- 54, of a setting
abbrev pub in_range : Setting → Bool
in_range (Register register level) = register_in_range register level
in_range (Segment segment level) = segment_in_range segment level
in_range (Stack words) = stack_in_range words

-- the rights with a setting, as they were where 54 gets a no
abbrev pub with_setting : Setting → Rights → Rights
with_setting (Register register level) rights = register_set register level rights
with_setting (Segment segment level) rights = segment_set segment level rights
with_setting (Stack words) rights = stack_set words rights
