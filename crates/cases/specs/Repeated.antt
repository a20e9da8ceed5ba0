-- A part written again and again.
use Rattle.std.specs.Prelude.{ℕ, zero, suc, List, [], ◌++◌}

-- n times the part
abbrev pub repeated : ℕ → List ℕ → List ℕ
repeated zero part = []
repeated (suc n) part = part ++ repeated n part
