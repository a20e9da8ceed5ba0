use Rattle.std.proofs.Common.{◌≡◌, ℕ, ◌≤◌, List, [], ◌++◌, Some, None, Option, option_map, IfSome, length, take, ap, ◌∙◌, subst, arith, length-take}
use Rattle.std.specs.Bool.{if◌then◌else◌, ◌==◌}
use Rattle.std.proofs.lemmas.List.{take_all}
use Rattle.lister.proofs.program.read_input.Goals as goal

take_short : (n : ℕ) (xs : List ℕ) → length (take n xs) ≤ n
take_short n xs = omega (arith, length-take n xs)

-- what is read up to a limit, with no byte held before, are the first bytes of all
front : (known all : Option (List ℕ)) (begun held read cut : List ℕ) (most limit : ℕ) → known ≡ all → most ≡ limit → begun ≡ [] → held ≡ [] → cut ≡ take limit read
    → IfSome (option_map (λ xs. held ++ xs) (option_map (take most) known)) (λ xs. read ≡ begun ++ xs) → IfSome all (λ xs. cut ≡ take limit xs)
front (Some xs) (Some ys) begun held read cut most limit same m b h c is =
    let e : xs ≡ ys = cc in
    let all : read ≡ take limit ys = is ∙ ap (λ l. l ++ (held ++ take most xs)) b ∙ ap (λ l. l ++ take most xs) h ∙ ap (λ n. take n xs) m ∙ ap (take limit) e in
    c ∙ ap (take limit) all ∙ take_all limit (take limit ys) (take_short limit ys)
front (Some xs) None begun held read cut most limit same m b h c is = tt
front None None begun held read cut most limit same m b h c is = tt
front None (Some ys) begun held read cut most limit same m b h c is = cc

-- a reader with room is its buffer and then what is behind it
roomy : (capacity : ℕ) (known : Option (List ℕ)) (P : Option (List ℕ) → Type 0) → capacity ≡ 8193 → P (if capacity == 0 then None else known) → P known
roomy capacity known P e is = subst (λ n. P (if n == 0 then None else known)) e is

pub returns-clause-front : goal.returns-clause-front
returns-clause-front g c =
    let reader = c.in_ok-reader.reader in
    let made = c.in_ok-reader.ensures in
    let read = c.read_to_end.new.buf.items in
    let left = ap (λ x. g.R.Read.remaining x.now) (ap (λ t. t.inner) made.inner ∙ c.take.ensures.inner) in
    front _ _ c.new-bytes.result.items _ read c.truncate.new.self.items reader.inner.limit _ left (ap (λ t. t.limit) made.inner ∙ c.take.ensures.limit) c.new-bytes.ensures.items made.empty c.truncate.ensures.items
    (roomy _ _ (λ k. IfSome k (λ xs. read ≡ c.new-bytes.result.items ++ xs)) made.capacity c.in_ok-read_to_end.ensures.bytes)

pub returns-clause-within : goal.returns-clause-within
returns-clause-within g c = omega (arith, ap length c.truncate.ensures.items, take_short 8193 c.read_to_end.new.buf.items)
