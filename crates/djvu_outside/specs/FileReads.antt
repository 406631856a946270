-- What came of a file that is read.
use Rattle.std.specs.Prelude.{ℕ, Bool, true, false, ◌≡◌, ◌+◌, ◌++◌, List, [], ◌∷◌, length, take, Result, Ok, Err}
use Rattle.djvu_base.specs.declared.ends.FileEnd.{FileEnd}
use Rattle.djvu_base.specs.declared.ends.FileEnd.TheVariants as file_end
use Rattle.djvu_outside.specs.declared.read.FileRead.{FileRead}
use Rattle.djvu_outside.specs.declared.stops.Stop.{Stop}
use Rattle.djvu_outside.specs.Faults.{Failure, Reading, Rises}

-- reading the file failed
abbrev pub is_broken : FileEnd → Bool
is_broken file_end.Whole = false
is_broken file_end.Broken = true

-- all of these bytes came, or the reading failed after some of them, the first of which has this place in the file
abbrev pub IsReadTo : FileEnd → List ℕ → List ℕ → List ℕ → ℕ → List Failure → List Failure → Type 0
IsReadTo file_end.Whole bytes content name position old new = (bytes ≡ content) × (new ≡ old)
IsReadTo file_end.Broken bytes content name position old new = (bytes ≡ take (length bytes) content) × (new ≡ old ++ Reading name (position + length bytes) ∷ [])

-- the file's bytes from this place on, and what was added to the folder's failures
abbrev pub Reads : Result FileRead Stop → List ℕ → List ℕ → ℕ → List Failure → List Failure → Type 0
Reads (Ok file) content name position old new = IsReadTo file.end file.bytes.items content name position old new
Reads (Err stop) content name position old new = new ≡ old

-- the folder's count of faults rose where the reading failed, and is the same at any other answer
abbrev pub CountsEnd : FileEnd → ℕ → ℕ → Type 0
CountsEnd file_end.Whole before after = after ≡ before
CountsEnd file_end.Broken before after = Rises before after

abbrev pub CountsRead : Result FileRead Stop → ℕ → ℕ → Type 0
CountsRead (Ok file) before after = CountsEnd file.end before after
CountsRead (Err stop) before after = after ≡ before
