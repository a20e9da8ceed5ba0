-- Permits that are at least as open close nothing more, whatever the register.
use Rattle.std.proofs.Common.{◌≡◌, ℕ, ◌<◌, ◌≤◌, map, inl, inr, ◌⊎◌, arith}
use Rattle.std.proofs.lemmas.Bool.{cases_lt}
use Rattle.std.proofs.lemmas.List.{get_or_past, length-map}
use Rattle.permit.specs.Levels.{number_of}
use Rattle.permit.specs.Open.{AsOpen}
use Rattle.permit.specs.Rights.{rights_of, register_level}
use Rattle.permit.specs.declared.permit.Permit.{Permit}
use Rattle.runs.specs.Laws.{Wider}

-- past the sixteen registers there is no level
none_past : (p : Permit) (r : ℕ) → 16 ≤ r → register_level (rights_of p) r ≡ 0
none_past p r past = get_or_past (map number_of p.registers) r 0 (rw (length-map, p.sixteen) past)

-- every register
registers_of : (p q : Permit) → AsOpen (rights_of p) (rights_of q) → (r : ℕ) → (r < 16) ⊎ (16 ≤ r) → register_level (rights_of q) r ≤ register_level (rights_of p) r
registers_of p q o r (inl few) = o.registers r few
registers_of p q o r (inr past) = rw (none_past p r past, none_past q r past) (omega arith)

pub wider_of : (p q : Permit) → AsOpen (rights_of p) (rights_of q) → Wider (rights_of p) (rights_of q)
wider_of p q o = record { registers = λ r. registers_of p q o r (cases_lt r 16); code = o.code; constants = o.constants; stack = o.stack }
