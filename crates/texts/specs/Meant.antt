-- What a byte of a text stands for.
use Rattle.std.specs.Prelude.{ℕ, cond, ◌==◌}

-- in a case a tilde stands for a blank, a bar for a line end and a caret for a tab
abbrev pub meant : ℕ → ℕ
meant byte = cond (byte == 126) 32 (cond (byte == 124) 10 (cond (byte == 94) 9 byte))
