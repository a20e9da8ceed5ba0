-- The law of permits, call by call.
use Rattle.std.proofs.Common.{◌≡◌, ℕ, zero, suc, ◌+◌, Bool, true, false, List, [], ◌∷◌, length, Ok, Err, Result, Some, None, Option, inl, inr, refl, sym, ap, ◌∙◌, subst, zero-add, arith}
use Rattle.permit.specs.Rights.{Rights, rights_of}
use Rattle.permit.specs.declared.permit.Permit.{Permit}
use Rattle.machine.specs.declared.fault.Fault.{Fault}
use Rattle.runs.specs.Agreement.{AsOpenAt, AllAsOpen, AllOther, AnswersAlike, SpentThere, AlikeFor, AlikeThrough, AlikeToFault, SeenAlike, Agrees, NeverDifferent}
use Rattle.runs.specs.Compared.{Both, met, asked_then, wanted, first_answered, second_answered, second_wanted, both_after, End, end_at, AfterBoth, Compared, agreed}
use Rattle.runs.specs.Laws.{by_permit, ended_so, is_permit_fault, Wider}
use Rattle.runs.specs.Looks.{register_seen, cell_seen}
use Rattle.runs.specs.Requests.{Made, made, told, seen, cells_in, Answered, answered_with, IsOther}
use Rattle.runs.specs.Runs.{Held, held, called}
use Rattle.runs.specs.declared.comparison.Outcome.{Outcome}
use Rattle.runs.specs.declared.comparison.Outcome.TheVariants.{Same, PermitFault, Different}
use Rattle.runs.specs.declared.comparison.Pairing.{Pairing}
use Rattle.runs.specs.declared.refusal.CallRefusal.{CallRefusal}
use Rattle.runs.specs.declared.report.Ending.{Ending}
use Rattle.runs.specs.declared.report.Ending.TheVariants.{Spent, Halted, Exited, Fault as Faulted}
use Rattle.runs.specs.declared.report.Report.{Report}
use Rattle.runs.specs.declared.request.Answer.{Answer}
use Rattle.runs.specs.declared.request.Answer.TheVariants.{Ran, Saw, Refused}
use Rattle.runs.specs.declared.request.Call.{Call}
use Rattle.runs.specs.declared.request.Call.TheVariants.{Run, Register, Flags, Cell}
use Rattle.runs.specs.declared.request.Memory.{Memory}
use Rattle.runs.specs.declared.request.Memory.TheVariants.{Own, Other}
use Rattle.runs.proofs.Faulting.{spent_at_permit_faults}
use Rattle.runs.proofs.Opens.{wider_of}
use Rattle.runs.proofs.Requested.{answered_other, other_answer, other_quiet, quiet_none, size_kept, other_kept}
use Rattle.runs.proofs.WiderRuns.{same_under_wider}

-- an answer that tells of no permit fault, by the run's answer
met_none : (a : Result Report CallRefusal) → met (told a) ≡ None → ended_so by_permit a ≡ false
met_none (Ok r) e = by (by_permit r.ending) refl e
  where
    by : (b : Bool) → by_permit r.ending ≡ b → met (told (Ok r)) ≡ None → by_permit r.ending ≡ false
    by true i e = let no = rw i at e in cc
    by false i e = i
met_none (Err q) e = refl

-- what is asked of the permits at a call, over their rights
abbrev WiderAt : Call → Rights → Rights → Type 0
WiderAt (Run b) p q = Wider p q
WiderAt (Register r) p q = Unit
WiderAt Flags p q = Unit
WiderAt (Cell a) p q = Unit

wider_at : (c : Call) (p q : Permit) → AsOpenAt c p q → WiderAt c (rights_of p) (rights_of q)
wider_at (Run b) p q o = wider_of p q o
wider_at (Register r) p q o = tt
wider_at Flags p q o = tt
wider_at (Cell a) p q o = tt

-- a call without a permit fault is the same under a wider permit
made_wider : (p q : Rights) (c : Call) → WiderAt c p q → (h : Held) → met (made p c h).answer ≡ None → made q c h ≡ made p c h
made_wider p q (Run b) w h e = ap (λ c. record { answer = told c.answer; held = c.held }) (same_under_wider (record { rights = p; budget = b }) h q w (met_none (called (record { rights = p; budget = b }) h).answer e))
made_wider p q (Register r) w h e = refl
made_wider p q Flags w h e = refl
made_wider p q (Cell a) w h e = refl

-- an ending that is a permit fault
faulted_by : (e : Ending) → by_permit e ≡ true → (f : Fault) × (e ≡ Faulted f) × (is_permit_fault f.cause ≡ true)
faulted_by Spent so = cc
faulted_by Halted so = cc
faulted_by (Exited c) so = cc
faulted_by (Faulted f) so = (f, refl, so)

-- an answer that tells of a permit fault
met_some : (a : Result Report CallRefusal) (n : ℕ) → met (told a) ≡ Some n → (f : Fault) × (a ≡ Ok (record { steps = n; ending = Faulted f })) × (is_permit_fault f.cause ≡ true)
met_some (Err q) n e = cc
met_some (Ok r) n e = by (by_permit r.ending) refl e
  where
    by : (b : Bool) → by_permit r.ending ≡ b → met (told (Ok r)) ≡ Some n → (f : Fault) × (◌≡◌ {A = Result Report CallRefusal} (Ok r) (Ok (record { steps = n; ending = Faulted f }))) × (is_permit_fault f.cause ≡ true)
    by false i so = let other = rw i at so in cc
    by true i so =
        let fault = faulted_by r.ending i in
        let count : r.steps ≡ n = let other = rw i at so in cc in
        (fault.0, ap (λ k. Ok (record { steps = k; ending = r.ending })) count ∙ ap (λ f. Ok (record { steps = n; ending = f })) fault.1, fault.2)

-- where a call met a permit fault, the wider one of as many steps is spent, and leaves the same
made_spent : (p q : Rights) (c : Call) → WiderAt c p q → (h : Held) (n : ℕ) → met (made p c h).answer ≡ Some n → made q (Run n) h ≡ record { answer = Ran (record { steps = n; ending = Spent }); held = (made p c h).held }
made_spent p q (Run b) w h n e =
    let fault = met_some (called (record { rights = p; budget = b }) h).answer n e in
    ap (λ c. record { answer = told c.answer; held = c.held }) (spent_at_permit_faults (record { rights = p; budget = b }) h q w n fault.0 fault.1 fault.2)
made_spent p q (Register r) w h n e = absurd (look (register_seen h.machine r) e)
  where
    look : (a : Result ℕ CallRefusal) → met (seen a) ≡ Some n → ⊥
    look (Ok v) i = cc
    look (Err f) i = cc
made_spent p q Flags w h n e = cc
made_spent p q (Cell a) w h n e = absurd (look (cell_seen h.machine h.cells a) e)
  where
    look : (a : Result ℕ CallRefusal) → met (seen a) ≡ Some n → ⊥
    look (Ok v) i = cc
    look (Err f) i = cc

-- a request with another memory meets no permit fault
other_none : (p : Rights) (c : Call) (m : Memory) (h : Held) (o : List ℕ) → IsOther h.machine.size o m → (n : ℕ) → met (answered_with p c m h o).answer ≡ Some n → m ≡ Own
other_none p c Own h o apart n e = refl
other_none p c (Other part) h o apart n e =
    let none : met (answered_with p c (Other part) h o).answer ≡ None = ap (λ a. met a.answer) (answered_other p c part h o apart) ∙ quiet_none _ (other_quiet c (held h.machine (cells_in part o) h.meaning)) in
    cc

-- a request without a permit fault is answered alike under a wider permit
request_wider : (p q : Rights) (c : Call) (m : Memory) → WiderAt c p q → (h : Held) (o : List ℕ) → IsOther h.machine.size o m → met (answered_with p c m h o).answer ≡ None
    → answered_with q c m h o ≡ answered_with p c m h o
request_wider p q c (Other part) w h o apart e = answered_other q c part h o apart ∙ sym (answered_other p c part h o apart)
request_wider p q c Own w h o apart e = ap (λ m. record { answer = m.answer; held = m.held; other = o }) (made_wider p q c w h e)

-- where it met one, the run of as many steps under a wider permit is spent, and leaves the same
request_spent : (p q : Rights) (c : Call) (m : Memory) → WiderAt c p q → (h : Held) (o : List ℕ) → IsOther h.machine.size o m → (n : ℕ) → met (answered_with p c m h o).answer ≡ Some n
    → answered_with q (Run n) m h o ≡ record { answer = Ran (record { steps = n; ending = Spent }); held = (answered_with p c m h o).held; other = o }
request_spent p q c (Other part) w h o apart n e = let no : Other part ≡ Own = other_none p c (Other part) h o apart n e in cc
request_spent p q c Own w h o apart n e = ap (λ m. record { answer = m.answer; held = m.held; other = o }) (made_spent p q c w h n e)

-- two machines that are equal
abbrev Equal : Both → Type 0
Equal b = b.second ≡ b.first

-- the second is asked with the other memory as it was
second_is : (x : Pairing) (b : Both) → IsOther b.first.machine.size b.other x.request.memory → Equal b
    → second_answered x b ≡ answered_with (rights_of x.second) (asked_then x.request (met (first_answered x b).answer)).call (asked_then x.request (met (first_answered x b).answer)).memory b.first b.other
second_is x b apart same =
    let r = asked_then x.request (met (first_answered x b).answer) in
    ap (λ k. answered_with (rights_of x.second) r.call r.memory k (first_answered x b).other) same
    ∙ ap (answered_with (rights_of x.second) r.call r.memory b.first) (other_kept (rights_of x.first) x.request.call x.request.memory b.first b.other apart)

-- a call without a permit fault
second_alike : (x : Pairing) (b : Both) → IsOther b.first.machine.size b.other x.request.memory → AsOpenAt x.request.call x.first x.second → Equal b
    → met (first_answered x b).answer ≡ None → second_answered x b ≡ first_answered x b
second_alike x b apart wide same none =
    second_is x b apart same
    ∙ ap (λ k. answered_with (rights_of x.second) (asked_then x.request k).call (asked_then x.request k).memory b.first b.other) none
    ∙ request_wider (rights_of x.first) (rights_of x.second) x.request.call x.request.memory (wider_at x.request.call x.first x.second wide) b.first b.other apart none

-- a call with one
second_spent : (x : Pairing) (b : Both) → IsOther b.first.machine.size b.other x.request.memory → AsOpenAt x.request.call x.first x.second → Equal b
    → (n : ℕ) → met (first_answered x b).answer ≡ Some n → second_answered x b ≡ record { answer = Ran (record { steps = n; ending = Spent }); held = (first_answered x b).held; other = b.other }
second_spent x b apart wide same n some =
    second_is x b apart same
    ∙ ap (λ k. answered_with (rights_of x.second) (asked_then x.request k).call (asked_then x.request k).memory b.first b.other) some
    ∙ request_spent (rights_of x.first) (rights_of x.second) x.request.call x.request.memory (wider_at x.request.call x.first x.second wide) b.first b.other apart n some

-- the second answers what it has to, and both are equal after it
answers_alike : (x : Pairing) (b : Both) → IsOther b.first.machine.size b.other x.request.memory → AsOpenAt x.request.call x.first x.second → Equal b → met (first_answered x b).answer ≡ None → AnswersAlike x b
answers_alike x b apart wide same none =
    let is = second_alike x b apart wide same none in
    record { quiet = none; answer = ap (λ a. a.answer) is; held = ap (λ a. a.held) is }

spent_there : (x : Pairing) (b : Both) → IsOther b.first.machine.size b.other x.request.memory → AsOpenAt x.request.call x.first x.second → Equal b → (n : ℕ) → met (first_answered x b).answer ≡ Some n → SpentThere n x b
spent_there x b apart wide same n some =
    let is = second_spent x b apart wide same n some in
    record { fault = some; spent = ap (λ a. a.answer) is; held = ap (λ a. a.held) is }

-- the other memory after it
other_after : (x : Pairing) (b : Both) → IsOther b.first.machine.size b.other x.request.memory → AsOpenAt x.request.call x.first x.second → Equal b → (m : Option ℕ) → met (first_answered x b).answer ≡ m → (both_after x b).other ≡ b.other
other_after x b apart wide same None none = ap (λ a. a.other) (second_alike x b apart wide same none) ∙ other_kept (rights_of x.first) x.request.call x.request.memory b.first b.other apart
other_after x b apart wide same (Some n) some = ap (λ a. a.other) (second_spent x b apart wide same n some)

-- what is shown of an outcome, of a list from some place on
abbrev Shown : ℕ → List Pairing → Both → Outcome → Type 0
Shown at xs b Same = AlikeThrough (length xs) xs b
Shown at xs b (PermitFault k n) = (j : ℕ) × (k ≡ at + j) × AlikeToFault j n xs b
Shown at xs b (Different k) = ⊥

record Law (at : ℕ) (xs : List Pairing) (b : Both) (e : End) : Type 0 where
  seen : Shown at xs b e.outcome
  held : e.both.second ≡ e.both.first
  other : e.both.other ≡ b.other

-- one call more before it
seen_more : (at : ℕ) (x : Pairing) (xs : List Pairing) (b : Both) (o : Outcome) → AnswersAlike x b → Shown (at + 1) xs (both_after x b) o → Shown at (x ∷ xs) b o
seen_more at x xs b Same alike s = (alike, s)
seen_more at x xs b (PermitFault k n) alike (j, is, s) = (suc j, omega (arith, is), (alike, s))
seen_more at x xs b (Different k) alike s = s

-- what is owed of a list
record Owed (xs : List Pairing) (b : Both) : Type 0 where
  wide : AllAsOpen xs
  others : AllOther b.first.machine.size b.other xs
  same : Equal b

owed_more : (x : Pairing) (xs : List Pairing) (b : Both) → Owed (x ∷ xs) b → met (first_answered x b).answer ≡ None → Owed xs (both_after x b)
owed_more x xs b w none = record {
  wide = w.wide.1;
  others = rw (size_kept (rights_of x.first) x.request.call x.request.memory b.first b.other w.others.0, other_after x b w.others.0 w.wide.0 w.same None none) w.others.1;
  same = (answers_alike x b w.others.0 w.wide.0 w.same none).held;
}

-- the second answers what it has to
second_right : (x : Pairing) (xs : List Pairing) (b : Both) → Owed (x ∷ xs) b → (m : Option ℕ) → met (first_answered x b).answer ≡ m → (second_answered x b).answer ≡ second_wanted x b
second_right x xs b w None none = (answers_alike x b w.others.0 w.wide.0 w.same none).answer ∙ ap (wanted (first_answered x b).answer) (sym none)
second_right x xs b w (Some n) some = (spent_there x b w.others.0 w.wide.0 w.same n some).spent ∙ ap (wanted (first_answered x b).answer) (sym some)

law_from : (xs : List Pairing) (at : ℕ) (b : Both) (e : End) → Compared xs at b e → Owed xs b → Law at xs b e
law_from [] at b e is w = subst (Law at [] b) (sym is) (record { seen = refl; held = w.same; other = refl })
law_from (x ∷ xs) at b e (inr other) w = absurd (other.0 (second_right x xs b w (met (first_answered x b).answer) refl))
law_from (x ∷ xs) at b e (inl both) w = by (met (first_answered x b).answer) refl both.1 (law_from xs (at + 1) (both_after x b) e)
  where
    by : (m : Option ℕ) → met (first_answered x b).answer ≡ m → AfterBoth m at (both_after x b) e (Compared xs (at + 1) (both_after x b) e)
        → (Compared xs (at + 1) (both_after x b) e → Owed xs (both_after x b) → Law (at + 1) xs (both_after x b) e) → Law at (x ∷ xs) b e
    by None none after rest =
        let more = rest after (owed_more x xs b w none) in
        record {
          seen = seen_more at x xs b e.outcome (answers_alike x b w.others.0 w.wide.0 w.same none) more.seen;
          held = more.held;
          other = more.other ∙ other_after x b w.others.0 w.wide.0 w.same None none;
        }
    by (Some n) some after rest =
        let there = spent_there x b w.others.0 w.wide.0 w.same n some in
        subst (Law at (x ∷ xs) b) (sym after) (record {
          seen = (0, omega arith, there);
          held = there.held;
          other = other_after x b w.others.0 w.wide.0 w.same (Some n) some;
        })

-- from the first request on
seen_all : (o : Outcome) (xs : List Pairing) (b : Both) → Shown 0 xs b o → SeenAlike o xs b
seen_all Same xs b s = s
seen_all (PermitFault k n) xs b (j, is, s) = subst (λ (i : ℕ). AlikeToFault i n xs b) (sym (is ∙ zero-add j)) s
seen_all (Different k) xs b s = s

-- the law
pub never_different : (xs : List Pairing) (b : Both) (e : End) → Compared xs 0 b e → NeverDifferent xs b e
never_different xs b e is wide others same =
    let law = law_from xs 0 b e is (record { wide = wide; others = others; same = same }) in
    record { calls = seen_all e.outcome xs b law.seen; held = law.held; other = law.other }

-- so many calls as an outcome counts were answered alike
through_for : (k : ℕ) (xs : List Pairing) (b : Both) → AlikeThrough k xs b → AlikeFor k xs b
through_for zero xs b s = tt
through_for (suc k) [] b s = absurd (omega (arith, s))
through_for (suc k) (x ∷ xs) b s = (s.0, through_for k xs (both_after x b) s.1)

fault_for : (k n : ℕ) (xs : List Pairing) (b : Both) → AlikeToFault k n xs b → AlikeFor k xs b
fault_for zero n xs b s = tt
fault_for (suc k) n [] b s = s
fault_for (suc k) n (x ∷ xs) b s = (s.0, fault_for k n xs (both_after x b) s.1)

pub alike_for : (o : Outcome) (xs : List Pairing) (b : Both) → SeenAlike o xs b → AlikeFor (agreed o (length xs)) xs b
alike_for Same xs b s = through_for (length xs) xs b s
alike_for (PermitFault k n) xs b s = fault_for k n xs b s
alike_for (Different k) xs b s = absurd s

-- what is handed in is another memory for both machines
record OtherFor (x : Pairing) (b : Both) : Type 0 where
  first : IsOther b.first.machine.size b.other x.request.memory
  second : IsOther b.second.machine.size b.other x.request.memory

-- the second is asked with the same memory
then_memory : (x : Pairing) (b : Both) (m : Option ℕ) → (asked_then x.request m).memory ≡ x.request.memory
then_memory x b None = refl
then_memory x b (Some n) = refl

second_other : (x : Pairing) (b : Both) → OtherFor x b → IsOther b.second.machine.size (first_answered x b).other (asked_then x.request (met (first_answered x b).answer)).memory
second_other x b o =
    rw (then_memory x b (met (first_answered x b).answer), other_kept (rights_of x.first) x.request.call x.request.memory b.first b.other o.first) o.second

-- both machines know their memories as before, and the other memory is as it was
record KeptAt (x : Pairing) (b : Both) : Type 0 where
  first : (both_after x b).first.machine.size ≡ b.first.machine.size
  second : (both_after x b).second.machine.size ≡ b.second.machine.size
  other : (both_after x b).other ≡ b.other

kept_at : (x : Pairing) (b : Both) → OtherFor x b → KeptAt x b
kept_at x b o =
    let r = asked_then x.request (met (first_answered x b).answer) in
    record {
      first = size_kept (rights_of x.first) x.request.call x.request.memory b.first b.other o.first;
      second = size_kept (rights_of x.second) r.call r.memory b.second (first_answered x b).other (second_other x b o);
      other = other_kept (rights_of x.second) r.call r.memory b.second (first_answered x b).other (second_other x b o)
          ∙ other_kept (rights_of x.first) x.request.call x.request.memory b.first b.other o.first;
    }

-- the other memory at an end, whatever the permits are
pub leaves_other_of_both : (xs : List Pairing) (at : ℕ) (b : Both) (e : End) → Compared xs at b e → AllOther b.first.machine.size b.other xs → AllOther b.second.machine.size b.other xs → e.both.other ≡ b.other
leaves_other_of_both [] at b e is first second = ap (λ k. k.both.other) is
leaves_other_of_both (x ∷ xs) at b e (inr other) first second = ap (λ k. k.both.other) other.1 ∙ (kept_at x b (record { first = first.0; second = second.0 })).other
leaves_other_of_both (x ∷ xs) at b e (inl both) first second = by (met (first_answered x b).answer) both.1 (leaves_other_of_both xs (at + 1) (both_after x b) e)
  where
    by : (m : Option ℕ) → AfterBoth m at (both_after x b) e (Compared xs (at + 1) (both_after x b) e)
        → (Compared xs (at + 1) (both_after x b) e → AllOther (both_after x b).first.machine.size (both_after x b).other xs → AllOther (both_after x b).second.machine.size (both_after x b).other xs → e.both.other ≡ (both_after x b).other)
        → e.both.other ≡ b.other
    by None after rest =
        let kept = kept_at x b (record { first = first.0; second = second.0 }) in
        rest after (rw (kept.first, kept.other) first.1) (rw (kept.second, kept.other) second.1) ∙ kept.other
    by (Some n) after rest = ap (λ k. k.both.other) after ∙ (kept_at x b (record { first = first.0; second = second.0 })).other
