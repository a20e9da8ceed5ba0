-- What the replies tell, by the answers of the calls.
use Rattle.std.proofs.Common.{◌≡◌, Ok, Err, IfOk, Result, refl, sym, subst}
use Rattle.permit.specs.Open.{AsOpen}
use Rattle.permit.specs.Rights.{Rights, rights_of}
use Rattle.permit.specs.declared.permit.Permit.{Permit}
use Rattle.play.specs.Parting.{Parts}
use Rattle.play.specs.Whole.{Orders, Outcome}
use Rattle.play.specs.declared.comparing.Parting.{Parting}
use Rattle.reply.specs.Replies.{Reply}
use Rattle.run_replies.specs.Comparing.{BothTold, IsDoneWhereOpen, IsDoneWhereRun, PartsTold, ReadTold, RunTold}
use Rattle.run_replies.specs.Partings.{parted}
use Rattle.run_replies.specs.Running.{shown_running}
use Rattle.run_replies.specs.declared.running.Extras.{Extras}
use Rattle.run_replies.specs.declared.running.Running as code
use Rattle.run_replies.specs.Wishes.{Wishes, orders_with}

module _ {E : Type 0} where
  pub parts_told : (o : Orders) (x : Extras) (one other : Permit) (run : Outcome) (p : Parting) (r : Result code.Running E) → Parts o one other (Ok p) → IfOk r (λ r. shown_running r ≡ parted o x p run) → IfOk r (λ r. PartsTold o x one other run (shown_running r))
  parts_told o x one other run p (Ok r) parts told = (p, parts, told)
  parts_told o x one other run p (Err e) parts told = tt

  -- where both permits are read
  pub both_told : (w : Wishes) (e : Extras) (p : Rights) (o : Orders) (one other : Permit) (x : Result Rights Reply) (r : Result code.Running E) → o ≡ orders_with w p → rights_of one ≡ p → Ok (rights_of other) ≡ x → IfOk r (λ r. RunTold o e one other (shown_running r)) → IfOk r (λ r. ReadTold w e (Ok p) x (shown_running r))
  unfolding ReadTold
  both_told w e p o one other x (Ok r) orders rights read told =
      let both : BothTold w e p (rights_of other) (shown_running r) = record { first = one; second = other; first_rights = rights; second_rights = refl; told = subst (λ (o : Orders). RunTold o e one other (shown_running r)) orders told } in
      subst (λ (x : Result Rights Reply). ReadTold w e (Ok p) x (shown_running r)) read both
  both_told w e p o one other x (Err n) orders rights read told = tt

  pub both_lawful : (w : Wishes) (p : Rights) (o : Orders) (one other : Permit) (x : Result Rights Reply) (r : Result code.Running E) → o ≡ orders_with w p → rights_of one ≡ p → Ok (rights_of other) ≡ x → (AsOpen (rights_of one) (rights_of other) → IfOk r (λ r. IsDoneWhereRun o (shown_running r))) → IfOk r (λ r. IsDoneWhereOpen w (Ok p) x (shown_running r))
  unfolding IsDoneWhereOpen
  both_lawful w p o one other x (Ok r) orders rights read law =
      let both : AsOpen p (rights_of other) → IsDoneWhereRun (orders_with w p) (shown_running r) =
      λ more. subst (λ (o : Orders). IsDoneWhereRun o (shown_running r)) orders (law (subst (λ (p : Rights). AsOpen p (rights_of other)) (sym rights) more))
      in
      subst (λ (x : Result Rights Reply). IsDoneWhereOpen w (Ok p) x (shown_running r)) read both
  both_lawful w p o one other x (Err n) orders rights read law = tt
