-- Calls with another memory.
use Rattle.std.proofs.Common.{◌≡◌, ◌≢◌, ℕ, ◌+◌, Bool, true, false, List, ◌++◌, length, take, drop, Ok, Err, Result, Some, None, refl, sym, ap, ◌∙◌, ◌==◌, ◌-◌, min, arith, eqb-true, append_assoc, length-drop}
use Rattle.std.proofs.lemmas.List.{drop-drop, drop_min, take_min, take-append-drop}
use Rattle.permit.specs.Rights.{Rights}
use Rattle.runs.specs.Compared.{met}
use Rattle.runs.specs.Looks.{register_seen, cell_seen}
use Rattle.runs.specs.Requests.{Made, made, told, seen, cells_in, with_part, Answered, with_own_back, answered_with, answered, IsOther}
use Rattle.runs.specs.Runs.{Settings, Held, held, Called, called, called_by, run_asked}
use Rattle.runs.specs.declared.refusal.CallRefusal.{CallRefusal}
use Rattle.runs.specs.declared.refusal.CallRefusal.TheVariants.{OtherMemory}
use Rattle.runs.specs.declared.request.Answer.{Answer}
use Rattle.runs.specs.declared.request.Answer.TheVariants.{Ran, Saw, Refused}
use Rattle.runs.specs.declared.request.Call.{Call}
use Rattle.runs.specs.declared.request.Call.TheVariants.{Run, Register, Flags, Cell}
use Rattle.runs.specs.declared.request.Memory.{Memory}
use Rattle.runs.specs.declared.request.Memory.TheVariants.{Own, Other}
use Rattle.runs.specs.declared.request.Part.{Part}
use Rattle.runs.specs.declared.request.Request.{Request}

-- whether an answer tells of a run that was taken
abbrev pub is_ran : Answer → Bool
is_ran (Ran r) = true
is_ran (Saw v) = false
is_ran (Refused q) = false

-- a run with a memory of another length is refused
pub run_other : (s : Settings) (h : Held) → length h.cells ≢ h.machine.size → ◌≡◌ {A = Called} (called s h) (record { answer = Err OtherMemory; held = h })
run_other s h apart = by (length h.cells == h.machine.size) refl
  where
    by : (x : Bool) → (length h.cells == h.machine.size) ≡ x → ◌≡◌ {A = Called} (called s h) (record { answer = Err OtherMemory; held = h })
    by true e = absurd (apart (eqb-true (length h.cells) h.machine.size e))
    by false e = rw e refl

-- what a call with such a memory answers
abbrev pub other_answer : Call → Held → Answer
other_answer (Run b) h = Refused OtherMemory
other_answer (Register r) h = seen (register_seen h.machine r)
other_answer Flags h = Saw h.machine.core.flags
other_answer (Cell a) h = seen (cell_seen h.machine h.cells a)

made_other : (p : Rights) (c : Call) (h : Held) → length h.cells ≢ h.machine.size → ◌≡◌ {A = Made} (made p c h) (record { answer = other_answer c h; held = h })
made_other p (Run b) h apart = ap (λ c. record { answer = told c.answer; held = c.held }) (run_other (record { rights = p; budget = b }) h apart)
made_other p (Register r) h apart = refl
made_other p Flags h apart = refl
made_other p (Cell a) h apart = refl

-- it tells of no run
seen_quiet : (a : Result ℕ CallRefusal) → is_ran (seen a) ≡ false
seen_quiet (Ok v) = refl
seen_quiet (Err q) = refl

pub other_quiet : (c : Call) (h : Held) → is_ran (other_answer c h) ≡ false
other_quiet (Run b) h = refl
other_quiet (Register r) h = seen_quiet (register_seen h.machine r)
other_quiet Flags h = refl
other_quiet (Cell a) h = seen_quiet (cell_seen h.machine h.cells a)

-- and so of no permit fault
pub quiet_none : (a : Answer) → is_ran a ≡ false → met a ≡ None
quiet_none (Ran r) e = cc
quiet_none (Saw v) e = refl
quiet_none (Refused q) e = refl

-- a memory with its own cells in a part
part_back : (p : Part) (c : List ℕ) → with_part p c (cells_in p c) ≡ c
part_back p c =
    append_assoc (take p.start c) (take p.len (drop p.start c)) (drop (p.start + p.len) c)
    ∙ ap (λ l. take p.start c ++ (take p.len (drop p.start c) ++ l)) (sym (drop-drop p.len p.start c))
    ∙ ap (λ l. take p.start c ++ l) (take-append-drop p.len (drop p.start c))
    ∙ take-append-drop p.start c

-- a request with another memory leaves everything
pub answered_other : (p : Rights) (c : Call) (part : Part) (h : Held) (o : List ℕ) → length (cells_in part o) ≢ h.machine.size
    → ◌≡◌ {A = Answered} (answered_with p c (Other part) h o) (record { answer = other_answer c (held h.machine (cells_in part o) h.meaning); held = h; other = o })
answered_other p c part h o apart =
    ap (with_own_back part h o) (made_other p c (held h.machine (cells_in part o) h.meaning) apart)
    ∙ ap (λ k. record { answer = other_answer c (held h.machine (cells_in part o) h.meaning); held = h; other = k }) (part_back part o)

-- where a part begins and ends in a memory
pub record Bounds (p : Part) (size start end : ℕ) : Type 0 where
  pub begins : start ≡ min p.start size
  pub ends : end ≡ start + min p.len (size - start)

-- the cells between these places, before them and past them are those of the part, before it and past it
rest_there : (p : Part) (o : List ℕ) (start end : ℕ) → Bounds p (length o) start end → drop start o ≡ drop p.start o
rest_there p o start end b = ap (λ n. drop n o) b.begins ∙ drop_min p.start o

long_there : (p : Part) (o : List ℕ) (start end : ℕ) → Bounds p (length o) start end → end - start ≡ min p.len (length (drop start o))
long_there p o start end b = simp length-drop (omega (arith, b.ends))

part_there : (p : Part) (o : List ℕ) (start end : ℕ) → Bounds p (length o) start end → take (end - start) (drop start o) ≡ cells_in p o
part_there p o start end b = ap (λ n. take n (drop start o)) (long_there p o start end b) ∙ take_min p.len (drop start o) ∙ ap (take p.len) (rest_there p o start end b)

before_there : (p : Part) (o : List ℕ) (start end : ℕ) → Bounds p (length o) start end → take start o ≡ take p.start o
before_there p o start end b = ap (λ n. take n o) b.begins ∙ take_min p.start o

past_there : (p : Part) (o : List ℕ) (start end : ℕ) → Bounds p (length o) start end → drop (end - start) (drop start o) ≡ drop (p.start + p.len) o
past_there p o start end b =
    ap (λ n. drop n (drop start o)) (long_there p o start end b) ∙ drop_min p.len (drop start o) ∙ ap (drop p.len) (rest_there p o start end b) ∙ drop-drop p.len p.start o

-- what a call with the cells between two places of a memory does is what a request with that part does
pub record HandedIn (p : Rights) (c : Call) (h : Held) (cells : List ℕ) (a : Answer) (after : Held) : Type 0 where
  pub answer : a ≡ (made p c (held h.machine cells h.meaning)).answer
  pub left : after ≡ (made p c (held h.machine cells h.meaning)).held

pub answered_there : (p : Rights) (r : Request) (part : Part) (h after : Held) (o : List ℕ) (start end : ℕ) (a : Answer) → r.memory ≡ Other part → Bounds part (length o) start end
    → HandedIn p r.call h (take (end - start) (drop start o)) a after
    → ◌≡◌ {A = Answered} (record { answer = a; held = held after.machine h.cells after.meaning; other = take start o ++ (after.cells ++ drop (end - start) (drop start o)) }) (answered p r h o)
answered_there p r part h after o start end a is b does =
    let cells = part_there part o start end b in
    ap (λ k. record { answer = k; held = held after.machine h.cells after.meaning; other = take start o ++ (after.cells ++ drop (end - start) (drop start o)) }) (does.answer ∙ ap (λ l. (made_by l).answer) cells)
    ∙ ap (λ l. record { answer = (made_by (cells_in part o)).answer; held = held after.machine h.cells after.meaning; other = take start o ++ (after.cells ++ l) }) (past_there part o start end b)
    ∙ ap (λ l. record { answer = (made_by (cells_in part o)).answer; held = held after.machine h.cells after.meaning; other = l }) (ap (λ l. l ++ (after.cells ++ drop (part.start + part.len) o)) (before_there part o start end b) ∙ sym (append_assoc (take part.start o) after.cells (drop (part.start + part.len) o)))
    ∙ ap (λ k. with_own_back part h o (record { answer = (made_by (cells_in part o)).answer; held = k })) (does.left ∙ ap (λ l. (made_by l).held) cells)
    ∙ ap (λ m. answered_with p r.call m h o) (sym is)
  where
    made_by : List ℕ → Made
    made_by l = made p r.call (held h.machine l h.meaning)

-- a call keeps the size of the machine's memory
run_size : (h : Held) (p : Rights) (r : Result ℕ CallRefusal) → (called_by h p r).held.machine.size ≡ h.machine.size
run_size h p (Ok n) = refl
run_size h p (Err q) = refl

pub size_kept : (p : Rights) (c : Call) (m : Memory) (h : Held) (o : List ℕ) → IsOther h.machine.size o m → (answered_with p c m h o).held.machine.size ≡ h.machine.size
size_kept p c (Other part) h o apart = ap (λ a. a.held.machine.size) (answered_other p c part h o apart)
size_kept p (Run n) Own h o apart = run_size h p (run_asked h.machine (length h.cells) n)
size_kept p (Register r) Own h o apart = refl
size_kept p Flags Own h o apart = refl
size_kept p (Cell a) Own h o apart = refl

-- and the other memory
pub other_kept : (p : Rights) (c : Call) (m : Memory) (h : Held) (o : List ℕ) → IsOther h.machine.size o m → (answered_with p c m h o).other ≡ o
other_kept p c (Other part) h o apart = ap (λ a. a.other) (answered_other p c part h o apart)
other_kept p c Own h o apart = refl
