-- The parts of a run, which may have stopped, with one folder, two sinks and one meter.
use Rattle.std.specs.Prelude.{ℕ, false, ◌≡◌, ◌++◌, ◌≤◌, ⊤, List, [], Option, Result, Ok, Err}
use Rattle.djvu_base.specs.Library.{Files, Library, library_of}
use Rattle.djvu_outside.specs.declared.stops.Status.{Status}
use Rattle.djvu_outside.specs.declared.stops.Stop.{Stop}
use Rattle.djvu_outside.specs.declared.stops.Stop.TheVariants as stop
use Rattle.djvu_outside.specs.Faults.{Failure, Rises}
use Rattle.djvu_outside.specs.Parts.{Ticks}
use Rattle.djvu_outside.specs.Puts.{Sinks, sinks, GivesBoth}
use Rattle.viewer_run.specs.EarlyFailures.{front_failed, NamesRead}
use Rattle.viewer_run.specs.Offline.{Written, IsOutcome}
use Rattle.viewer_run.specs.Runs.{FolderEnds}

-- what is around a part of a run: the folder's failures, what both sinks tell, and the meter's count
pub record Around : Type 0 where
  pub failures : List Failure
  pub told : Sinks
  pub count : ℕ

abbrev pub around : List Failure → Option (List ℕ) → Option (List ℕ) → ℕ → Around
around failures out report count = record { failures = failures; told = sinks out report; count = count }

-- a run that stops for the folder has the status 3
abbrev pub EndsSo : Result Status Stop → ℕ → Type 0
EndsSo (Ok status) wanted = status.0 ≡ wanted
EndsSo (Err stop.Folder) wanted = wanted ≡ 3
EndsSo (Err stop.Sink) wanted = ⊤
EndsSo (Err stop.Memory) wanted = ⊤

-- a run doesn't go on to its end where the listing or the table failed
abbrev pub GoesOnFrom : Result Status Stop → Library → List (List ℕ) → List Failure → Type 0
GoesOnFrom (Ok status) library words added = front_failed library words added ≡ false
GoesOnFrom (Err stop.Folder) library words added = ⊤
GoesOnFrom (Err stop.Sink) library words added = ⊤
GoesOnFrom (Err stop.Memory) library words added = ⊤

-- the folder's count rose where the status is 3, and stayed where it is below; it never falls
abbrev pub RunCounts : Result Status Stop → ℕ → ℕ → Type 0
RunCounts (Ok status) before after = FolderEnds status.0 before after
RunCounts (Err stop.Folder) before after = Rises before after
RunCounts (Err stop.Sink) before after = before ≤ after
RunCounts (Err stop.Memory) before after = before ≤ after

-- a run that may have stopped; where it stopped for the folder it put nothing and counted nothing
pub record Runs (files : Files) (words : List (List ℕ)) (result : Result Status Stop) (before after : Around) : Type 0 where
  pub added : List Failure
  pub grown : after.failures ≡ before.failures ++ added
  pub only : NamesRead (library_of files) words added
  pub goes_on : GoesOnFrom result (library_of files) words added
  pub written : Written
  pub outcome : IsOutcome added added (library_of files) words written
  pub puts : GivesBoth result written.puts before.told after.told
  pub status : EndsSo result written.status
  pub ticks : Ticks result written.work before.count after.count
  pub nothing : result ≡ Err stop.Folder → (written.puts ≡ []) × (written.work ≡ 0)
