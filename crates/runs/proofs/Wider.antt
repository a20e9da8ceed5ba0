-- What a wider permit can change: only a permit fault.
use Rattle.std.proofs.Common.{◌≡◌, ℕ, ◌+◌, ◌-◌, ◌≤◌, Bool, true, false, cond, List, length, Ok, Err, Result, ◌⊎◌, inl, inr, refl, arith, rules, nat_lt, nat_le, slice_index, slice_set}
use Rattle.std.specs.Result.{result_and}
use Rattle.host.specs.Meaning.{Meaning, after_get, after_write}
use Rattle.machine.specs.Act.{Act, fault, ask, get, put, load, store, push, done, Question, holds, register, pair, inside, answer, on_yes, perform}
use Rattle.machine.specs.Rules.{Rules, allows, asked, register_asked, pair_asked, cell_asked, push_asked, cell_level, fits_stack}
use Rattle.machine.specs.declared.access.Access.{Access}
use Rattle.machine.specs.declared.access.Access.TheVariants.{Reading, Writing}
use Rattle.machine.specs.declared.cause.Cause.{Cause}
use Rattle.machine.specs.declared.cause.Cause.TheVariants as cause
use Rattle.machine.specs.declared.layout.Layout.{Layout}
use Rattle.permit.specs.Rights.{Rights}
use Rattle.runs.specs.Laws.{is_permit_fault, Wider}

-- an answer that is a permit fault
abbrev pub faults : {A : Type 0} → Result A Cause → Bool
faults (Ok x) = false
faults (Err q) = is_permit_fault q

-- a second answer is the first, unless that is a permit fault
abbrev pub Follows : {A : Type 0} → Result A Cause → Result A Cause → Type 0
Follows a b = (faults a ≡ true) ⊎ (b ≡ a)

-- a level that is no higher allows what the other one allows
allows_lower : (x : Access) (l m : ℕ) → m ≤ l → allows x l ≡ true → allows x m ≡ true
allows_lower Reading l m h e = search rules
allows_lower Writing l m h e = search rules

-- one question by a test that is no stricter
follows_asked : (b d : Bool) (q : Cause) → is_permit_fault q ≡ true → (b ≡ true → d ≡ true) → Follows (asked b q) (asked d q)
follows_asked true true q f h = inr refl
follows_asked true false q f h = let e : false ≡ true = h refl in cc
follows_asked false d q f h = inl f

-- one answer after the other
follows_and : (a b c d : Result Unit Cause) → Follows a b → Follows c d → Follows (result_and a c) (result_and b d)
follows_and (Ok x) b c d (inl f) h = cc
follows_and (Ok x) b c d (inr e) (inl f) = inl f
follows_and (Ok tt) b c d (inr e) (inr i) = inr (rw (e, i) refl)
follows_and (Err q) b c d (inl f) h = inl f
follows_and (Err q) b c d (inr e) h = inr (rw e refl)

-- what goes on after a yes
follows_yes : {A B : Type 0} (a b : Result A Cause) (f g : A → Result B Cause) → Follows a b → ((x : A) → Follows (f x) (g x)) → Follows (on_yes a f) (on_yes b g)
follows_yes (Ok x) b f g (inl h) k = cc
follows_yes (Ok x) b f g (inr e) k = rw e (k x)
follows_yes (Err q) b f g (inl h) k = inl h
follows_yes (Err q) b f g (inr e) k = inr (rw e refl)

-- the rules of some rights over a layout
abbrev pub under : Rights → Layout → Rules
under p l = record { rights = p; layout = l }

-- question 34
follows_register : (p q : Rights) (l : Layout) → Wider p q → (x : Access) (r : ℕ) → Follows (register_asked (under p l) x r) (register_asked (under q l) x r)
follows_register p q l w x r = follows_asked _ _ cause.Register refl (allows_lower x _ _ (w.registers r))

follows_pair : (p q : Rights) (l : Layout) → Wider p q → (x : Access) (r : ℕ) → Follows (pair_asked (under p l) x r) (pair_asked (under q l) x r)
follows_pair p q l w x r = follows_and _ _ _ _ (follows_register p q l w x r) (follows_register p q l w x (r + 1))

-- a cell's level is no higher
level_lower : (p q : Rights) (l : Layout) → Wider p q → (a : ℕ) → cell_level (under q l) a ≤ cell_level (under p l) a
level_lower p q l w a = lower (nat_lt a l.code) (nat_lt a (l.code + l.constants))
  where
    lower : (b d : Bool) → cond b q.code (cond d q.constants 0) ≤ cond b p.code (cond d p.constants 0)
    lower true d = w.code
    lower false true = w.constants
    lower false false = omega arith

-- questions 39 and 40
follows_cell : (p q : Rights) (l : Layout) → Wider p q → (size : ℕ) (x : Access) (a : ℕ) → Follows (cell_asked (under p l) size x a) (cell_asked (under q l) size x a)
follows_cell p q l w size x a = follows_and _ _ _ _ (inr refl) (follows_asked _ _ cause.Segment refl (allows_lower x _ _ (level_lower p q l w a)))

-- question 41
fits_wider : (p q : Rights) (l : Layout) → Wider p q → (a : ℕ) → fits_stack (under p l) a ≡ true → fits_stack (under q l) a ≡ true
fits_wider p q l w a = fits (nat_le a l.stack)
  where
    fits : (b : Bool) → cond b (nat_le (l.stack - a + 1) p.stack) true ≡ true → cond b (nat_le (l.stack - a + 1) q.stack) true ≡ true
    fits true e = let h = w.stack in search rules
    fits false e = refl

follows_push : (p q : Rights) (l : Layout) → Wider p q → (size a : ℕ) → Follows (push_asked (under p l) size a) (push_asked (under q l) size a)
follows_push p q l w size a = follows_and _ _ _ _ (follows_cell p q l w size Writing a) (follows_asked _ _ cause.Stack refl (fits_wider p q l w a))

-- every question
follows_answer : (p q : Rights) (l : Layout) → Wider p q → (size : ℕ) (k : Question) → Follows (answer (under p l) size k) (answer (under q l) size k)
follows_answer p q l w size (holds b f) = inr refl
follows_answer p q l w size (register x r) = follows_register p q l w x r
follows_answer p q l w size (pair x r) = follows_pair p q l w x r
follows_answer p q l w size (inside a) = inr refl

-- every command does the same under a wider permit, or meets a permit fault
pub follows_command : (p q : Rights) (l : Layout) → Wider p q → (act : Act) (c : List ℕ) (m : Meaning) → Follows (perform (under p l) act c m) (perform (under q l) act c m)
follows_command p q l w (fault f) c m = inr refl
follows_command p q l w (ask k next) c m = follows_yes _ _ _ _ (follows_answer p q l w (length c) k) (λ u. follows_command p q l w next c m)
follows_command p q l w (get k next) c m = follows_yes _ _ _ _ (inr refl) (λ x. follows_command p q l w (next x) c (after_get k m))
follows_command p q l w (put x next) c m = follows_yes _ _ _ _ (inr refl) (λ u. follows_command p q l w next c (after_write x m))
follows_command p q l w (load a next) c m = follows_yes _ _ _ _ (follows_cell p q l w (length c) Reading a) (λ u. follows_command p q l w (next (slice_index c a)) c m)
follows_command p q l w (store a v next) c m = follows_yes _ _ _ _ (follows_cell p q l w (length c) Writing a) (λ u. follows_command p q l w next (slice_set c a v) m)
follows_command p q l w (push a v next) c m = follows_yes _ _ _ _ (follows_push p q l w (length c) a) (λ u. follows_command p q l w next (slice_set c a v) m)
follows_command p q l w (done core turn) c m = inr refl
