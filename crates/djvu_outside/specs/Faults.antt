-- Counts of faults, and which answers raise them.
use Rattle.std.specs.Prelude.{ℕ, ◌≡◌, ◌-◌, ◌^◌, ◌<◌, ◌≤◌, ◌++◌, List, [], ◌∷◌, Result, Ok, Err}
use Rattle.djvu_outside.specs.declared.faults.Failed.{Failed}
use Rattle.djvu_outside.specs.declared.faults.FolderFault.{FolderFault}
use Rattle.djvu_outside.specs.declared.faults.FolderFault.TheVariants as folder
use Rattle.djvu_outside.specs.declared.faults.SinkFault.{SinkFault}
use Rattle.djvu_outside.specs.declared.faults.SinkFault.TheVariants as sink

-- a count of faults went up, unless it stands at its type's end
pub record Rises (before after : ℕ) : Type 0 where
  pub later : before ≤ after
  pub more : before < 2 ^ 64 - 1 → before < after

-- a call that failed raised the count, and no other did
abbrev pub FolderCounts : {T : Type 0} → Result T FolderFault → ℕ → ℕ → Type 0
FolderCounts (Ok value) before after = after ≡ before
FolderCounts (Err folder.Failed) before after = Rises before after
FolderCounts (Err folder.OutOfMemory) before after = after ≡ before

abbrev pub ReadCounts : {T : Type 0} → Result T Failed → ℕ → ℕ → Type 0
ReadCounts (Ok value) before after = after ≡ before
ReadCounts (Err fault) before after = Rises before after

abbrev pub SinkCounts : {T : Type 0} → Result T SinkFault → ℕ → ℕ → Type 0
SinkCounts (Ok value) before after = after ≡ before
SinkCounts (Err sink.Failed) before after = Rises before after
SinkCounts (Err sink.OutOfMemory) before after = after ≡ before

-- what failed: the listing of a folder, or a file, after so many of its bytes were given since it was opened
pub data Failure : Type 0 where
  Listing : Failure
  Reading : List ℕ → ℕ → Failure

-- a call that failed added this entry to the failures, and no other did
abbrev pub FolderAdds : {T : Type 0} → Result T FolderFault → Failure → List Failure → List Failure → Type 0
FolderAdds (Ok value) entry before after = after ≡ before
FolderAdds (Err folder.Failed) entry before after = after ≡ before ++ entry ∷ []
FolderAdds (Err folder.OutOfMemory) entry before after = after ≡ before

abbrev pub ReadAdds : {T : Type 0} → Result T Failed → Failure → List Failure → List Failure → Type 0
ReadAdds (Ok value) entry before after = after ≡ before
ReadAdds (Err fault) entry before after = after ≡ before ++ entry ∷ []
