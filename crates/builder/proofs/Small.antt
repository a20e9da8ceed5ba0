-- Addresses, and the numbers after `end` and `stack`, are below 2 ^ 20.
use Rattle.std.proofs.Common.{◌≡◌, ℕ, ◌^◌, ◌<◌, ◌≤◌, true, List, [], ◌∷◌, ◌++◌, Some, None, Option, unwrap_or, arith}
use Rattle.std.specs.Str.{bytes_eq}
use Rattle.std.proofs.lemmas.Bool.{and_parts, cond_both, ltb-true}
use Rattle.lexer.specs.Shown.{Shown}
use Rattle.assembler.specs.Emit.{address_of}
use Rattle.assembler.specs.Labels.{name_in}
use Rattle.std.specs.List.{find}
use Rattle.std.specs.Option.{option_map}
use Rattle.assembler.specs.Operands.{Place, an_address, a_target, each, in_range, is_below, label_in, natural_in, operand, natural_at}
use Rattle.assembler.specs.declared.label.Label.{Label}
use Rattle.assembler.specs.declared.mnemonic.Mnemonic.{Mnemonic}
use Rattle.assembler.specs.declared.mnemonic.Mnemonic.TheVariants.{Command, Word, Uint32, Text, Stack, End}
use Rattle.builder.specs.Source.{address_by, entry_at, stack_by, start_by}
use Rattle.builder.proofs.Said.{Right}

-- no label's address is above 65,536
abbrev pub Low : List Label → Type 0
Low [] = Unit {0}
Low (x ∷ xs) = (x.address ≤ 65536) × Low xs

pub low_entry : (p k : ℕ) (w : Option (List ℕ)) (xs : List Label) → k ≤ 65536 → Low xs → Low (entry_at p k w ++ xs)
low_entry p k None xs h more = more
low_entry p k (Some w) xs h more = (h, more)

address_low : (t w : List ℕ) (ls : List Label) → Low ls → address_of (name_in t) ls w ≤ 65536
address_low t w [] h = omega arith
address_low t w (x ∷ xs) h = cond_both (bytes_eq (name_in t x) w) (Some x) (find (λ (l : Label). bytes_eq (name_in t l) w) xs) (λ (o : Option Label). unwrap_or (option_map (λ (l : Label). l.address) o) 0 ≤ 65536) (λ e. h.0) (λ e. address_low t w xs h.1)

below : (o : Option ℕ) → is_below (2 ^ 20) o ≡ true → unwrap_or o 0 < 1048576
below None e = omega arith
below (Some n) e = ltb-true n (2 ^ 20) e

-- a number in a place whose limit is 2 ^ 20
number_low : (p : Place) (ws : List Shown) → ((w : Shown) → in_range p w ≡ true → is_below (2 ^ 20) (natural_in w) ≡ true) → each in_range (p ∷ []) ws ≡ true → natural_at 0 ws < 1048576
number_low p [] limit e = omega arith
number_low p (w ∷ ws) limit e = below (natural_in w) (limit w (and_parts (in_range p w) (each in_range [] ws) e).0)

target_low : (t : List ℕ) (ls : List Label) (n : ℕ) (o : Option (List ℕ)) → Low ls → n < 1048576 → address_by (name_in t) ls o n < 1048576
target_low t ls n None low h = h
target_low t ls n (Some l) low h = let a = address_low t l ls low in omega arith

pub start_low : (t : List ℕ) (ls : List Label) (o : Option Mnemonic) (ws : List Shown) (d : ℕ) → Right o ws → Low ls → d < 1048576 → start_by (name_in t) ls o ws d < 1048576
start_low t ls None ws d r low h = h
start_low t ls (Some (Command o)) ws d r low h = h
start_low t ls (Some Word) ws d r low h = h
start_low t ls (Some Uint32) ws d r low h = h
start_low t ls (Some Text) ws d r low h = h
start_low t ls (Some Stack) ws d r low h = h
start_low t ls (Some End) ws d r low h = target_low t ls (natural_at 0 ws) (label_in (operand 0 ws)) low (number_low a_target ws (λ w e. e) r.2)

pub stack_low : (o : Option Mnemonic) (ws : List Shown) (d : ℕ) → Right o ws → d < 1048576 → stack_by o ws d < 1048576
stack_low None ws d r h = h
stack_low (Some (Command o)) ws d r h = h
stack_low (Some Word) ws d r h = h
stack_low (Some Uint32) ws d r h = h
stack_low (Some Text) ws d r h = h
stack_low (Some Stack) ws d r h = number_low an_address ws (λ w e. e) r.2
stack_low (Some End) ws d r h = h
