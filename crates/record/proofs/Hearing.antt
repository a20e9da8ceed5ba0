-- What is heard where a record is not made or not opened.
use Rattle.std.proofs.Common.{◌≡◌, ◌⊎◌, inl, inr, ℕ, List, [], Ok, Err, Result, refl, sym, subst}
use Rattle.assembler.specs.declared.question.Refusal as question
use Rattle.listing.specs.declared.refusal.Refusal as listing
use Rattle.permit.specs.Rights.{Rights}
use Rattle.permit_text.specs.Files.{permit_in}
use Rattle.permit_text.specs.declared.error.PermitError.{PermitError}
use Rattle.play.specs.Watched.{Told, told_of_whole, HearsAll}
use Rattle.play.specs.Whole.{Outcome, whole_run}
use Rattle.play.specs.declared.refusal.Refusal as playing
use Rattle.play.proofs.Telling.{none_of_refused}
use Rattle.tasks.specs.Assembling.{made}
use Rattle.tasks.specs.Assembling as tasks
use Rattle.tasks.specs.Listing.{listed_whole}
use Rattle.record.specs.Filing.{Inputs, Made, filed, filed_by, told_by, told_of_filing, told_under, with_listing, with_permit, with_run}
use Rattle.record.specs.Opened.{Contents, Opened, opened, opened_by, orders_for, told_of_opening}
use Rattle.record.specs.Opened as opening
use Rattle.record.specs.declared.file.FileError.{FileError}
use Rattle.record.specs.declared.file.FileError.TheVariants.{Memory}

-- nothing is told of a run that is refused
by_run : (i : Inputs) (a : tasks.Made) (page : List ℕ) (rights : Rights) (e : FileError) (x : Result Outcome playing.Refusal) → whole_run (orders_for a.bytes i.readings rights) ≡ x
    → with_run i a page x ≡ Err e → told_of_whole (orders_for a.bytes i.readings rights) ≡ []
by_run i a page rights e (Ok o) is eq = let off : ◌≡◌ {A = Result Made FileError} (Ok _) (Err e) = eq in cc
by_run i a page rights e (Err q) is eq = none_of_refused (orders_for a.bytes i.readings rights) q is

-- an executable that was assembled has a listing
by_listing : (i : Inputs) (a : tasks.Made) (rights : Rights) (e : FileError) (x : Result (List ℕ) listing.Refusal) → (e ≡ Memory → ⊥)
    → with_listing i a rights x ≡ Err e → told_of_whole (orders_for a.bytes i.readings rights) ≡ []
by_listing i a rights e (Ok page) other eq = by_run i a page rights e (whole_run (orders_for a.bytes i.readings rights)) refl eq
by_listing i a rights e (Err q) other eq = absurd (other (same eq))
  where
    same : ◌≡◌ {A = Result Made FileError} (Err Memory) (Err e) → e ≡ Memory
    same eq = cc

by_permit : (i : Inputs) (a : tasks.Made) (e : FileError) (x : Result Rights PermitError) → (e ≡ Memory → ⊥) → with_permit i a x ≡ Err e → told_under i a x ≡ []
by_permit i a e (Ok rights) other eq = by_listing i a rights e (listed_whole a.bytes) other eq
by_permit i a e (Err p) other eq = refl

by_source : (i : Inputs) (e : FileError) (x : Result tasks.Made question.Refusal) → (e ≡ Memory → ⊥) → filed_by i x ≡ Err e → told_by i x ≡ []
by_source i e (Ok a) other eq = by_permit i a e (permit_in i.permit) other eq
by_source i e (Err r) other eq = refl

-- where a record is not made, its answer being one about which all or nothing is heard, all of it is heard
pub heard_unmade : {W : Type 0} (hears : W → Told → W → Type 0) (i : Inputs) (e : FileError) (a b : W) → filed i ≡ Err e → (e ≡ Memory → ⊥)
    → HearsAll hears (told_of_filing i) a b ⊎ (b ≡ a) → HearsAll hears (told_of_filing i) a b
heard_unmade hears i e a b is other (inl all) = all
heard_unmade hears i e a b is other (inr same) = subst (λ ts. HearsAll hears ts a b) (sym (by_source i e (made i.source) other is)) same

-- so it is where a record is not opened
by_program : (c : Contents) (q : listing.Refusal) (x : Result (List ℕ) listing.Refusal) → opened_by c x ≡ Err q → opening.told_by c x ≡ []
by_program c q (Ok page) eq = let off : ◌≡◌ {A = Result Opened listing.Refusal} (Ok _) (Err q) = eq in cc
by_program c q (Err r) eq = refl

pub heard_unopened : {W : Type 0} (hears : W → Told → W → Type 0) (c : Contents) (q : listing.Refusal) (a b : W) → opened c ≡ Err q
    → HearsAll hears (told_of_opening c) a b ⊎ (b ≡ a) → HearsAll hears (told_of_opening c) a b
heard_unopened hears c q a b is (inl all) = all
heard_unopened hears c q a b is (inr same) = subst (λ ts. HearsAll hears ts a b) (sym (by_program c q (listed_whole c.executable) is)) same
