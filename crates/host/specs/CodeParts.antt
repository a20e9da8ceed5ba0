-- Units that begin no item, by how they are read.
use Rattle.std.proofs.Common.{◌≡◌, true, false, List, [], ◌∷◌, ◌++◌, sym, ap, ◌∙◌}
use Rattle.std.proofs.lemmas.Bool.{true≢false}
use Rattle.host.specs.declared.item.Item.{Item}
use Rattle.host.specs.Codes.{Code, ReadsAs, BeginNoItem}
use Rattle.host.specs.Ranges.{InRange}

-- what is read as no item, with a spoiled end, begins no item
pub begin_no_item : {X : Type 0} (c : Code X)
    → ReadsAs c [] [] → ((us vs : List X) → c.spoiled us ≡ false → c.items (us ++ vs) ≡ c.items us ++ c.items vs)
    → ((x : Item) → InRange x → ReadsAs c (c.coded x) (x ∷ []))
    → (us : List X) → c.items us ≡ [] → c.spoiled us ≡ true → BeginNoItem c us
begin_no_item {X} c empty append coded us none spoiled = record {
  some = λ e. true≢false (sym spoiled ∙ ap c.spoiled e ∙ empty.clean);
  items = none;
  spoiled = spoiled;
  none = λ x more range e.
      let is : c.items us ≡ x ∷ c.items more = ap c.items e ∙ append (c.coded x) more (coded x range).clean ∙ ap (λ (ys : List Item). ys ++ c.items more) (coded x range).items in
      let no : ◌≡◌ {A = List Item} [] (x ∷ c.items more) = sym none ∙ is in
      cc;
}
