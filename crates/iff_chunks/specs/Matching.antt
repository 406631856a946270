-- What a match says of the file, however it goes on behind the bytes that were used.
use Rattle.std.specs.Prelude.{ℕ, ◌≡◌, ◌<◌, ◌≤◌, ◌++◌, List, length, take, drop}
use Rattle.iff_chunks.specs.declared.fronts.Match.{Match}
use Rattle.iff_chunks.specs.declared.fronts.Match.TheVariants as matching
use Rattle.iff_chunks.specs.Start.{Begins, Arriving, Differs, start_of}

-- before the last of so many bytes, the piece didn't settle how the bytes begin
abbrev pub IsUnsettled : List ℕ → List ℕ → ℕ → Type 0
IsUnsettled wanted piece used = (n : ℕ) → n < used → start_of wanted (take n piece) ≡ Arriving

abbrev pub Matches : List ℕ → ℕ → List ℕ → Match → Type 0
Matches wanted matched piece (matching.Whole used) =
    (used ≤ length piece) × ((more : List ℕ) → start_of (drop matched wanted) (take used piece ++ more) ≡ Begins more)
    × IsUnsettled (drop matched wanted) piece used
Matches wanted matched piece (matching.Part now) =
    (now < length wanted) × ((more : List ℕ) → start_of (drop matched wanted) (piece ++ more) ≡ start_of (drop now wanted) more)
    × IsUnsettled (drop matched wanted) piece (length piece)
Matches wanted matched piece (matching.Differs used) =
    (used ≤ length piece) × ((more : List ℕ) → start_of (drop matched wanted) (take used piece ++ more) ≡ Differs)
    × IsUnsettled (drop matched wanted) piece used
