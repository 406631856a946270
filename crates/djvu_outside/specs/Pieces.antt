-- What one read of a file brings.
use Rattle.std.specs.Prelude.{ℕ, ◌≡◌, ◌+◌, ◌≤◌, ◌++◌, ◌↔◌, List, [], ◌∷◌, length, take, drop, Option, Some, None, Result, Ok, Err}
use Rattle.djvu_base.specs.Library.{Files}
use Rattle.djvu_outside.specs.declared.stops.Stop.{Stop}
use Rattle.djvu_outside.specs.Faults.{Failure, Reading, Rises}
use Rattle.djvu_outside.specs.Reading.{Opened, bytes_in}

-- so many of the open file's next bytes came after others, or the reading failed
abbrev pub CameBytes : Files → Opened → Option ℕ → List ℕ → List ℕ → List Failure → List Failure → Type 0
CameBytes files here (Some count) before after old new =
    (after ≡ before ++ take count (drop here.position (bytes_in files here.name))) × ((count ≡ 0) ↔ (length (bytes_in files here.name) ≤ here.position)) × (new ≡ old)
CameBytes files here None before after old new = (after ≡ before) × (new ≡ old ++ Reading here.name here.position ∷ [])

abbrev pub Counted : Option ℕ → ℕ → ℕ → Type 0
Counted (Some count) before after = after ≡ before + count
Counted None before after = after ≡ before

-- the folder's count of faults rose where the reading failed
abbrev pub CountsCame : Result (Option ℕ) Stop → ℕ → ℕ → Type 0
CountsCame (Ok (Some count)) before after = after ≡ before
CountsCame (Ok None) before after = Rises before after
CountsCame (Err fault) before after = after ≡ before
