-- One write of a writer after another.
use Rattle.std.proofs.Common.{◌≡◌, List, ℕ, [], ◌++◌, refl, ◌∙◌, subst}
use Rattle.output.specs.Writes.{Put}
use Rattle.output.specs.declared.writer.Writer.{Writer}
use Rattle.output.proofs.Writes.{wrote_none, wrote_then}

-- before the first write, as where a loop begins
pub put_none : (w : Writer) → Put w [] w
put_none w = record { wrote = wrote_none w.out.now w.len w.reach; lender = refl }

-- two writes write both texts
pub put_then : {a b c : Writer} {x y : List ℕ} → Put a x b → Put b y c → Put a (x ++ y) c
put_then {a} {b} {c} f g = record {
  wrote = wrote_then _ _ _ _ _ _ _ _ a.room f.wrote g.wrote;
  lender = g.lender ∙ f.lender;
}

-- a text in another form
pub put_same : {a b : Writer} {x y : List ℕ} → x ≡ y → Put a x b → Put a y b
put_same {a} {b} e f = subst (λ text. Put a text b) e f
