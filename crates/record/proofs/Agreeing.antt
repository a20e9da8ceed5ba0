-- A record that is made agrees with itself.
use Rattle.std.proofs.Common.{◌≡◌, ℕ, ◌-◌, true, ◌&&◌, List, ◌++◌, length, drop, Ok, Err, Result, IfOk, refl, sym, ap, ◌∙◌, subst, arith, ◌==◌}
use Rattle.std.proofs.Math.Seq.{drop-append_seam}
use Rattle.std.proofs.lemmas.List.{length-append}
use Rattle.std.proofs.lemmas.Slice.Eq.{bytes_eq-Decides}
use Rattle.std.specs.List.{ends_with}
use Rattle.std.specs.Str.{bytes_eq}
use Rattle.assembler.specs.declared.question.Refusal as question
use Rattle.listing.specs.declared.refusal.Refusal as listing
use Rattle.permit.specs.Rights.{Rights}
use Rattle.permit_text.specs.Files.{permit_in}
use Rattle.permit_text.specs.declared.error.PermitError.{PermitError}
use Rattle.play.specs.Whole.{Outcome, whole_run}
use Rattle.play.specs.declared.refusal.Refusal as playing
use Rattle.tasks.specs.Assembling.{made}
use Rattle.tasks.specs.Assembling as tasks
use Rattle.tasks.specs.Listing.{listed_whole}
use Rattle.record.specs.Filing.{Inputs, Made, Files, ReplayAgrees, contents_with, filed_by, made_by, shown_made, with_listing, with_permit, with_run}
use Rattle.record.specs.Findings.{texts_found, tapes_found}
use Rattle.record.specs.Opened.{facts, is_agreed, opened, opened_by, orders_for, run_agrees, run_found}
use Rattle.record.specs.declared.file.FileError.{FileError}
use Rattle.record.specs.declared.file.FileError.TheVariants.{Source, Permit, Run, Memory}
use Rattle.record.specs.declared.file.Made as code
use Rattle.record.specs.declared.finding.Finding.TheVariants.{Agrees}

-- a text is equal to itself
bytes_same : (xs : List ℕ) → bytes_eq xs xs ≡ true
bytes_same xs = (bytes_eq-Decides xs xs).1 refl

texts_same : (xs : List ℕ) → texts_found xs xs ≡ Agrees
texts_same xs = rw (bytes_same xs) refl

tapes_same : (xs : List ℕ) → tapes_found xs xs ≡ Agrees
tapes_same xs = rw (bytes_same xs) refl

-- a page ends with what was put behind its preamble
behind : (front back : List ℕ) → ends_with (λ a b. a == b) (front ++ back) back ≡ true
behind front back =
    let long : length (front ++ back) - length back ≡ length front = omega (arith, length-append front back) in
    let rest : drop (length (front ++ back) - length back) (front ++ back) ≡ back = ap (λ n. drop n (front ++ back)) long ∙ drop-append_seam front back in
    subst (λ x. bytes_eq back x ≡ true) (sym rest) (bytes_same back)

-- what is found of the run of a record that was made
run_same : (i : Inputs) (a : tasks.Made) (rights : Rights) (page : List ℕ) (o : Outcome) → permit_in i.permit ≡ Ok rights → whole_run (orders_for a.bytes i.readings rights) ≡ Ok o
    → run_agrees (run_found (contents_with i (made_by i a page o))) ≡ true
run_same i a rights page o permit run = rw (permit, run, tapes_same o.results, behind i.preamble (facts o)) refl

all_same : (i : Inputs) (a : tasks.Made) (rights : Rights) (page : List ℕ) (o : Outcome) → listed_whole a.bytes ≡ Ok page → permit_in i.permit ≡ Ok rights → whole_run (orders_for a.bytes i.readings rights) ≡ Ok o
    → ReplayAgrees (opened (contents_with i (made_by i a page o)))
all_same i a rights page o list permit run =
    let found : opened (contents_with i (made_by i a page o)) ≡ Ok (record { listing = texts_found page page; run = run_found (contents_with i (made_by i a page o)) }) = ap (opened_by (contents_with i (made_by i a page o))) list in
    subst ReplayAgrees (sym found)
    (ap (λ x. is_agreed x && run_agrees (run_found (contents_with i (made_by i a page o)))) (texts_same page) ∙ run_same i a rights page o permit run)

-- by what was made
by_run : (i : Inputs) (a : tasks.Made) (rights : Rights) (page : List ℕ) (m : Made) (r : Result Outcome playing.Refusal) → listed_whole a.bytes ≡ Ok page → permit_in i.permit ≡ Ok rights
    → whole_run (orders_for a.bytes i.readings rights) ≡ r → with_run i a page r ≡ Ok m → ReplayAgrees (opened (contents_with i m))
by_run i a rights page m (Err q) list permit run e = absurd (apart e)
  where
    apart : ◌≡◌ {A = Result Made FileError} (Err (Run q)) (Ok m) → ⊥
    apart e = cc
by_run i a rights page m (Ok o) list permit run e = subst (λ x. ReplayAgrees (opened (contents_with i x))) (same e) (all_same i a rights page o list permit run)
  where
    same : ◌≡◌ {A = Result Made FileError} (Ok (made_by i a page o)) (Ok m) → made_by i a page o ≡ m
    same e = cc

by_listing : (i : Inputs) (a : tasks.Made) (rights : Rights) (m : Made) (r : Result (List ℕ) listing.Refusal) → permit_in i.permit ≡ Ok rights
    → listed_whole a.bytes ≡ r → with_listing i a rights r ≡ Ok m → ReplayAgrees (opened (contents_with i m))
by_listing i a rights m (Err q) permit list e = absurd (apart e)
  where
    apart : ◌≡◌ {A = Result Made FileError} (Err Memory) (Ok m) → ⊥
    apart e = cc
by_listing i a rights m (Ok page) permit list e = by_run i a rights page m (whole_run (orders_for a.bytes i.readings rights)) list permit refl e

by_permit : (i : Inputs) (a : tasks.Made) (m : Made) (r : Result Rights PermitError) → permit_in i.permit ≡ r → with_permit i a r ≡ Ok m → ReplayAgrees (opened (contents_with i m))
by_permit i a m (Err q) permit e = absurd (apart e)
  where
    apart : ◌≡◌ {A = Result Made FileError} (Err (Permit q)) (Ok m) → ⊥
    apart e = cc
by_permit i a m (Ok rights) permit e = by_listing i a rights m (listed_whole a.bytes) permit refl e

by_source : (i : Inputs) (m : Made) (r : Result tasks.Made question.Refusal) → filed_by i r ≡ Ok m → ReplayAgrees (opened (contents_with i m))
by_source i m (Err q) e = absurd (apart e)
  where
    apart : ◌≡◌ {A = Result Made FileError} (Err (Source q)) (Ok m) → ⊥
    apart e = cc
by_source i m (Ok a) e = by_permit i a m (permit_in i.permit) refl e

-- whatever was made, opened again, agrees
pub made_agrees : (i : Inputs) (r : Result code.Made FileError) → Files i r → IfOk r (λ m. ReplayAgrees (opened (contents_with i (shown_made m))))
made_agrees i (Ok m) is = by_source i (shown_made m) (made i.source) is
made_agrees i (Err e) is = tt
