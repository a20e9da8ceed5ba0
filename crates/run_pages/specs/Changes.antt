-- What a step changed, as text.
use Rattle.std.specs.Prelude.{ℕ, Bool, not, cond, List, [], ◌∷◌, ◌++◌, map, filter, length, codes, decimal, slice_index, ◌==◌}
use Rattle.std.specs.List.{flat_map}
use Rattle.listing.specs.Lines.{register_name}
use Rattle.run_pages.specs.Dumps.{registers}
use Rattle.run_pages.specs.declared.step.Step.{Step}

-- a register or the flags: its name, and what it held before and after a step
pub record Held : Type 0 where
  pub name : List ℕ
  pub before : ℕ
  pub after : ℕ

-- one of them, by its parts
abbrev pub held : List ℕ → ℕ → ℕ → Held
held name v w = record { name = name; before = v; after = w }

-- what a step found and left in a register, and in the flags
abbrev pub held_in_register : Step → ℕ → Held
held_in_register s n = held (register_name n) (slice_index s.before n) (slice_index s.after n)

abbrev pub held_in_flags : Step → Held
held_in_flags s = held (codes "flags") s.flags_before s.flags_after

-- the registers in turn, and the flags
abbrev pub all_held : Step → List Held
all_held s = map (held_in_register s) registers ++ held_in_flags s ∷ []

-- whether it holds something else after the step
abbrev pub has_changed : Held → Bool
has_changed h = not (h.before == h.after)

-- NAME V -> W
abbrev pub change_text : Held → List ℕ
change_text h = h.name ++ (32 ∷ (decimal h.before ++ (codes " -> " ++ decimal h.after)))

-- the texts of those that changed
abbrev pub change_texts : List Held → List (List ℕ)
change_texts hs = map change_text (filter has_changed hs)

-- the texts of what a step changed
abbrev pub changes : Step → List (List ℕ)
changes s = change_texts (all_held s)

-- texts with commas between them
abbrev pub after_comma : List ℕ → List ℕ
after_comma text = codes ", " ++ text

abbrev pub comma_joined : List (List ℕ) → List ℕ
comma_joined [] = []
comma_joined (text ∷ more) = text ++ flat_map after_comma more

-- the text of some changes, or that there are none
abbrev pub told : List ℕ → List ℕ
told text = cond (length text == 0) (codes "nothing changed") text

-- what a step changed, as one text
abbrev pub changes_text : Step → List ℕ
changes_text s = told (comma_joined (changes s))

-- a list of changes with a comma at its end, unless it is empty
abbrev pub parted : List ℕ → List ℕ
parted list = cond (length list == 0) list (list ++ codes ", ")

-- the list with one more change, if it is one
abbrev pub with_change : List ℕ → Held → List ℕ
with_change list h = cond (h.before == h.after) list (parted list ++ change_text h)
