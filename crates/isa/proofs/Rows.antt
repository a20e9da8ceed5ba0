-- The table's rules: each opcode stands at the place of its code, and a search by name finds what it looks for.
use Rattle.std.proofs.Common.{◌≡◌, ℕ, ◌<◌, Bool, true, false, cond, List, [], ◌∷◌, length, map, get_or, IfSome, Some, None, Option, Bor, sym, refl, ap, ◌∙◌, subst, arith, rules}
use Rattle.std.specs.List.{find, slice_get, range_with_len}
use Rattle.std.proofs.lemmas.List.{get_or-map}
use Rattle.std.proofs.lemmas.List.FromFn.{get_or-range_with_len}
use Rattle.std.specs.Option.{option_map}
use Rattle.std.specs.Slice.{IsItemAt}
use Rattle.std.specs.Str.{bytes_eq}
use Rattle.std.proofs.lemmas.Slice.Eq.{bytes_eq-Decides}
use Rattle.std.proofs.lemmas.Option.{slice_get-map, slice_get_past, slice_get_read, slice_get_within, get_or_from_slice_get}
use Rattle.std.proofs.lemmas.Bool.{cond_both}
use Rattle.isa.specs.declared.opcode.Opcode.{Opcode}
use Rattle.isa.specs.declared.opcode.Opcode.TheVariants.{Halt}
use Rattle.isa.specs.declared.opcode.Row.{Row}
use Rattle.isa.specs.Table.{code_of, name_of, opcodes, opcode_named, opcode_at}

-- the codes of the table are the numbers from 0 to 53, in this order
codes : map code_of opcodes ≡ range_with_len 0 54
codes = refl

-- the opcode at a place has that place as its code
pub code_at : (i : ℕ) → i < 54 → code_of (get_or opcodes i Halt) ≡ i
code_at i h = sym (get_or-map code_of opcodes i Halt 0 h) ∙ ap (λ ns. get_or ns i 0) codes ∙ get_or-range_with_len 0 54 i 0 h ∙ omega arith

-- every opcode stands in the table, at the place of its code
pub in_table : (o : Opcode) → opcode_at (code_of o) ≡ Some o
in_table o = search rules

-- a search for the name of an opcode finds it
named_here : (o : Opcode) → opcode_named (name_of o) ≡ Some o
named_here o = search rules

-- what a search by name finds has that name
named_back : (w : List ℕ) (os : List Opcode) → IfSome (find (λ o. bytes_eq (name_of o) w) os) (λ o. name_of o ≡ w)
named_back w [] = tt
named_back w (o ∷ os) =
    cond_both (bytes_eq (name_of o) w) (Some o) (find (λ q. bytes_eq (name_of q) w) os) (λ r. IfSome r (λ q. name_of q ≡ w))
    (λ e. (bytes_eq-Decides (name_of o) w).0 e) (λ e. named_back w os)

-- an answer that a search by name gives has the name
pub found : (w : List ℕ) (r : Option Opcode) → r ≡ opcode_named w → IfSome r (λ o. name_of o ≡ w)
found w r e = subst (λ x. IfSome x (λ o. name_of o ≡ w)) (sym e) (named_back w opcodes)

-- and every opcode with the name is that answer
pub finds_named : (w : List ℕ) (r : Option Opcode) → r ≡ opcode_named w → (o : Opcode) → name_of o ≡ w → r ≡ Some o
finds_named w r e o is = e ∙ ap opcode_named (sym is) ∙ named_here o

-- an answer that a search by code gives has the code
pub found_code : (n : ℕ) (r : Option Opcode) → r ≡ opcode_at n → IfSome r (λ o. code_of o ≡ n)
found_code n None e = tt
found_code n (Some o) e =
    let at : opcode_at n ≡ Some o = sym e in
    let is : get_or opcodes n Halt ≡ o = get_or_from_slice_get opcodes n o Halt at in
    sym (ap code_of is) ∙ code_at n (slice_get_within opcodes n o at)

-- and every opcode with the code is that answer
pub finds_code : (n : ℕ) (r : Option Opcode) → r ≡ opcode_at n → (o : Opcode) → code_of o ≡ n → r ≡ Some o
finds_code n r e o is = e ∙ ap opcode_at (sym is) ∙ in_table o

-- to map what is lent is to read it first
pub of_lent : {A B : Type 0} (f : A → B) (r : Option (Bor A)) → option_map (λ q. f q.now) r ≡ option_map f (option_map (λ q. q.now) r)
of_lent f None = refl
of_lent f (Some x) = refl

-- what a slice lends at an index, mapped, is what the mapped list has there
pub item_at : {A B : Type 0} (f : A → B) (xs : List A) (i : ℕ) (r : Option (Bor A)) → IsItemAt xs i r → option_map (λ q. f q.now) r ≡ slice_get (map f xs) i
item_at f xs i None h = sym (slice_get-map f xs i ∙ ap (option_map f) (slice_get_past xs i h.3))
item_at f xs i (Some x) h = sym (slice_get-map f xs i ∙ ap (option_map f) (slice_get_read xs (length xs) i x.now refl h.3.0 h.1))

-- a choice of a row is the choice of its opcode
of_choice : (b : Bool) (r : Row) (o : Opcode) (x : Option Row) (y : Option Opcode) → r.0 ≡ o → option_map (λ q. q.0) x ≡ y → option_map (λ q. q.0) (cond b (Some r) x) ≡ cond b (Some o) y
of_choice true r o x y here rest = ap Some here
of_choice false r o x y here rest = rest

-- the first row whose name passes a test is that of the first such opcode
pub first_row : (p : List ℕ → Bool) (rows : List Row) (os : List Opcode) → map (λ q. q.0) rows ≡ os → map (λ q. q.1.now) rows ≡ map name_of os → option_map (λ q. q.0) (find (λ q. p q.1.now) rows) ≡ find (λ o. p (name_of o)) os
first_row p [] [] e n = refl
first_row p [] (o ∷ os) e n = cc
first_row p (r ∷ rows) [] e n = cc
first_row p (r ∷ rows) (o ∷ os) e n =
    let opcodes : map (λ q. q.0) rows ≡ os = cc in
    let names : map (λ q. q.1.now) rows ≡ map name_of os = cc in
    let here : r.0 ≡ o = cc in
    let name : r.1.now ≡ name_of o = cc in
    of_choice (p r.1.now) r o _ _ here (first_row p rows os opcodes names) ∙ ap (λ n. cond (p n) (Some o) (find (λ q. p (name_of q)) os)) name
