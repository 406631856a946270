-- Bytes of text.
use Rattle.std.specs.Prelude.{ℕ, List, [], ◌∷◌}

-- what ends a line
abbrev pub newline : List ℕ
newline = 0x0A ∷ []
