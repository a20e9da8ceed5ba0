-- An append that finds a free entry, and one that finds none.
use Rattle.std.proofs.Common.{◌≡◌, ℕ, ◌+◌, ◌<◌, ◌≤◌, true, false, ltb, List, length, take, set, Ok, Err, sym, ap, ◌∙◌, arith, take_all}
use Rattle.std.proofs.lemmas.List.{take_more_set, length-take-le}
use Rattle.std.proofs.lemmas.Bool.{cond-true, cond-false, lt-ltb, le-ltb}
use Rattle.bounded.specs.Held.{answer, appended, items_after, length_after}

module _ {X : Type 0} (items : List X) (n : ℕ) (x : X) (free : n < length items) where
  held_length : length (take n items) ≡ n
  held_length = length-take-le n items (omega arith)

  free_is : ltb (length (take n items)) (length items) ≡ true
  free_is = ap (λ k. ltb k (length items)) held_length ∙ lt-ltb n (length items) free

  pub answer_free : answer (take n items) (length items) ≡ Ok tt
  answer_free = cond-true _ _ _ free_is

  pub appended_free : take (n + 1) (set items n x) ≡ appended (take n items) (length items) x
  appended_free = take_more_set items n x free ∙ sym (cond-true _ _ _ free_is)

  pub items_free : set items n x ≡ items_after (take n items) items x
  items_free = ap (λ k. set items k x) (sym held_length) ∙ sym (cond-true _ _ _ free_is)

  pub count_free : n + 1 ≡ length_after n (length items)
  count_free = sym (cond-true _ _ _ (lt-ltb n (length items) free))

module _ {X : Type 0} (items : List X) (n : ℕ) (x : X) (full : length items ≤ n) where
  none_free : ltb (length (take n items)) (length items) ≡ false
  none_free = ap (λ l. ltb (length l) (length items)) (take_all n items full) ∙ le-ltb (length items) (length items) (omega arith)

  pub answer_full : answer (take n items) (length items) ≡ Err (record {})
  answer_full = cond-false _ _ _ none_free

  pub appended_full : take n items ≡ appended (take n items) (length items) x
  appended_full = sym (cond-false _ _ _ none_free)

  pub items_full : items ≡ items_after (take n items) items x
  items_full = sym (cond-false _ _ _ none_free)

  pub count_full : n ≡ length_after n (length items)
  count_full = sym (cond-false _ _ _ (le-ltb n (length items) full))
