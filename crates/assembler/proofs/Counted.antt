-- What a statement adds, and how it is kept.
use Rattle.std.proofs.Common.{◌≡◌, ℕ, ◌+◌, Bool, true, false, cond, ◌||◌, List, length, is_some, Some, None, Ok, Option, unwrap_or, sym, refl, ap, ◌∙◌, arith}
use Rattle.std.specs.Option.{option_map, option_or, ok_or, MatchOption}
use Rattle.assembler.specs.Progress.{Progress}
use Rattle.assembler.specs.Questions.{stack_in, stack_after, string_words}
use Rattle.assembler.specs.Statements.{Meant, code, labelled, constant, text, stack, end, end_at}

-- a string has a word for each character, and a 0
pub string_mapped : (o : Option (List ℕ)) (n : Option ℕ) (r : ℕ) (P : ℕ → Type 0) → n ≡ option_map length o → MatchOption n (r ≡ 0) P → ((k : ℕ) → P k → r ≡ k + 1) → r ≡ string_words o
string_mapped None None r P e h f = h
string_mapped None (Some k) r P e h f = let z : ◌≡◌ {A = Option ℕ} (Some k) None = e in absurd (cc)
string_mapped (Some cs) None r P e h f = let z : ◌≡◌ {A = Option ℕ} None (Some (length cs)) = e in absurd (cc)
string_mapped (Some cs) (Some k) r P e h f = let s : k ≡ length cs = cc in f k h ∙ ap (λ j. j + 1) s

-- sizes that were counted were few
pub counted_few : {X : Type 0} (b : Bool) (x y : X) → Some x ≡ cond b (Some y) None → (b ≡ true) × (x ≡ y)
counted_few true x y e = (refl, cc)
counted_few false x y e = let z : ◌≡◌ {A = ℕ} 0 1 = cc in absurd (omega arith)

pub same_progress : (p q : Progress) → p.waiting ≡ q.waiting → p.begun ≡ q.begun → p.stacked ≡ q.stacked → p.constants ≡ q.constants → p.ended ≡ q.ended → p.code ≡ q.code → p.pool ≡ q.pool → p.stack ≡ q.stack → p ≡ q
same_progress p q a b c d e f g h = λ i. record { waiting = a i; begun = b i; stacked = c i; constants = d i; ended = e i; code = f i; pool = g i; stack = h i }

-- where a statement sets the stack pointer, its mnemonic is `stack`
pub still_stacked : (st : Option Meant) (old : Option ℕ) (b : Bool) → b ≡ is_some (stack_in st) → is_some (option_or (stack_in st) old) ≡ (is_some old || b)
still_stacked st None b e = go (stack_in st) e where
  go : (n : Option ℕ) → b ≡ is_some n → is_some (option_or n None) ≡ b
  go None e = sym e
  go (Some k) e = sym e
still_stacked st (Some k) b e = go (stack_in st) where
  go : (n : Option ℕ) → is_some (option_or n (Some k)) ≡ true
  go None = refl
  go (Some m) = refl

pub stack_kept : (st : Option Meant) (old : Option ℕ) (d : ℕ) → unwrap_or (option_or (stack_in st) old) d ≡ stack_after (unwrap_or old d) st
stack_kept None None d = refl
stack_kept None (Some k) d = refl
stack_kept (Some (code w)) None d = refl
stack_kept (Some (code w)) (Some k) d = refl
stack_kept (Some (labelled w l)) None d = refl
stack_kept (Some (labelled w l)) (Some k) d = refl
stack_kept (Some (constant n)) None d = refl
stack_kept (Some (constant n)) (Some k) d = refl
stack_kept (Some (text cs)) None d = refl
stack_kept (Some (text cs)) (Some k) d = refl
stack_kept (Some (stack n)) None d = refl
stack_kept (Some (stack n)) (Some k) d = refl
stack_kept (Some (end n)) None d = refl
stack_kept (Some (end n)) (Some k) d = refl
stack_kept (Some (end_at l)) None d = refl
stack_kept (Some (end_at l)) (Some k) d = refl

pub ok_some : {X E : Type 0} (o : Option X) (e : E) (x : X) → Ok x ≡ ok_or o e → o ≡ Some x
ok_some None e x h = let z : ◌≡◌ {A = ℕ} 0 1 = cc in absurd (omega arith)
ok_some (Some y) e x h = let s : x ≡ y = cc in ap Some (sym s)
