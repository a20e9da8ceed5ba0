-- Escapes in strings.
use Rattle.std.specs.Prelude.{ℕ, cond, Some, None, Option, ◌==◌}

-- what n, 0, a quote and a backslash mean after a backslash
abbrev pub escaped_as : ℕ → Option ℕ
escaped_as b = cond (b == 110) (Some 10) (cond (b == 48) (Some 0) (cond (b == 34) (Some 34) (cond (b == 92) (Some 92) None)))
