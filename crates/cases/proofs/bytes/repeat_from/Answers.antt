use Rattle.std.proofs.Common.{◌≡◌, ℕ, zero, suc, ◌+◌, ◌-◌, ◌*◌, ◌≤◌, min, List, ◌++◌, take, drop, length, refl, arith, rules, sym, ap, ◌∙◌}
use Rattle.std.proofs.lemmas.Grind.{common_steps}
use Rattle.std.proofs.lemmas.List.{take_rest}
use Rattle.cases.specs.Repeated.{repeated}
use Rattle.cases.proofs.bytes.repeat_from.Goals as goal

put_back : (len start : ℕ) (all part : List ℕ) → length all ≡ len → start ≤ len → length part + start ≡ len → take len (take start all ++ (part ++ drop (length part) (drop start all)) ++ drop (length (take start all ++ (part ++ drop (length part) (drop start all)))) all) ≡ take start all ++ part
put_back len start all part is inside split = grind (arith, common_steps)

kept : (start whole : ℕ) (old filler : List ℕ) → start ≤ length old → start ≤ whole → take start (take whole old ++ filler) ≡ take start old
kept start whole old filler inside in_whole = grind (arith, common_steps)

tail : (size start whole : ℕ) (old filler : List ℕ) → start + size ≡ length old → length old ≤ whole → take size (drop start (take whole old ++ filler)) ≡ drop start old
tail size start whole old filler split in_whole = grind (arith, common_steps)

tails : (n size start whole : ℕ) (old filler : List ℕ) → start + size ≡ length old → whole ≡ start + n * size → repeated n (take size (drop start (take whole old ++ filler))) ≡ repeated n (drop start old)
tails zero size start whole old filler _ _ = refl
tails (suc n) size start whole old filler split is =
    let reaches : length old ≤ whole = omega (arith, split, is) in
    ap (λ l. repeated (suc n) l) (tail size start whole old filler split reaches)

least_take : (n : ℕ) (l : List ℕ) → take (min n (length l)) l ≡ take n l
least_take n l = grind (arith, common_steps)

least_drop : (n : ℕ) (l : List ℕ) → drop (min n (length l)) l ≡ drop n l
least_drop n l = grind (arith, common_steps)

pub returns : goal.returns
returns c =
    let start = c.min-at.result in
    let all = c.resize.new.self.items in
    let old = c.args.bytes.now.items in
    let n = c.args.times in
    let size = c.len-2.result - start in
    let whole = c.in_ok-ok_or.field-0 in
    let least : start ≡ min c.args.at (length old) = search rules in
    let inside : start ≤ length old = omega (arith, least) in
    let split : start + size ≡ length old = search rules in
    let is : whole ≡ start + n * size = search rules in
    let counted : c.resize.new.self.len ≡ length all = c.resize.new.self.ok.0 in
    let seen : c.slice_mut.result.now ≡ drop start all = c.slice_mut.ensures.value ∙ ap (λ k. take (k - start) (drop start all)) counted ∙ take_rest all start in
    let made : c.spread.new.bytes ≡ repeated n (take size (drop start all)) = c.spread.ensures ∙ ap (λ l. repeated n (take size l)) seen in
    let long : length all ≡ whole = search rules in
    let room : start ≤ whole = omega (arith, is) in
    let stays : length c.spread.new.bytes + start ≡ c.resize.new.self.len = search rules in
    let resized = c.in_ok-resize.ensures.items in
    let first : take start all ≡ take c.args.at old =
    ap (λ l. take start l) resized ∙ kept start whole old _ inside room ∙ ap (λ k. take k old) least ∙ least_take c.args.at old in
    let rest : repeated n (take size (drop start all)) ≡ repeated n (drop c.args.at old) =
    ap (λ l. repeated n (take size (drop start l))) resized ∙ tails n size start whole old _ split is
    ∙ ap (λ k. repeated n (drop k old)) least ∙ ap (λ l. repeated n l) (least_drop c.args.at old) in
    put_back c.resize.new.self.len start all c.spread.new.bytes (sym counted) (omega (arith, counted, long, room)) stays
    ∙ ap (λ l. l ++ c.spread.new.bytes) first
    ∙ ap (λ l. take c.args.at old ++ l) (made ∙ rest)
