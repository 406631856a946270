-- How bytes begin, against bytes that are wanted.
use Rattle.std.specs.Prelude.{ℕ, ◌+◌, ◌==◌, List, [], ◌∷◌, if◌then◌else◌}

pub data Start : Type 0 where
  -- with all wanted bytes, and these follow
  Begins : List ℕ → Start
  -- with a front of the wanted bytes, and they end there
  Arriving : Start
  -- otherwise
  Differs : Start

abbrev pub start_of : List ℕ → List ℕ → Start
start_of [] bytes = Begins bytes
start_of (wanted ∷ more) [] = Arriving
start_of (wanted ∷ more) (byte ∷ bytes) = if wanted == byte then start_of more bytes else Differs

-- how many bytes two lists have in common at their fronts
abbrev pub common_front : List ℕ → List ℕ → ℕ
common_front [] bytes = 0
common_front (wanted ∷ more) [] = 0
common_front (wanted ∷ more) (byte ∷ bytes) = if wanted == byte then common_front more bytes + 1 else 0
