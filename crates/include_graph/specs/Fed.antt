-- How an outline reader stands to the bytes that it was fed.
use Rattle.std.specs.Prelude.{ℕ, ◌≡◌, ◌<◌, ◌^◌, ◌++◌, ⊤, false, List, length, Option, Some, None, IsSome, Result, Ok, Err}
use Rattle.djvu_base.specs.Library.{Mark, Open}
use Rattle.std.specs.declared.alloc.AllocError.{AllocError}
use Rattle.iff_chunks.specs.Chunks.{chunks_of}
use Rattle.iff_chunks.specs.declared.walker.WalkEnd.{WalkEnd}
use Rattle.iff_chunks.specs.declared.walker.WalkEnd.TheVariants as walk_end
use Rattle.iff_chunks.specs.declared.walker.WalkStep.{WalkStep}
use Rattle.iff_chunks.specs.declared.walker.WalkStep.TheVariants as walk_step
use Rattle.iff_chunks.specs.Events.{Event, events_of, IsOpen}
use Rattle.iff_chunks.specs.Walk.{HasTold}
use Rattle.iff_chunks.specs.Told.{Told}
use Rattle.include_graph.specs.declared.outline.Outline.{Outline}
use Rattle.include_graph.specs.declared.progress.Place.{Place}
use Rattle.include_graph.specs.declared.progress.Place.TheVariants as place
use Rattle.include_graph.specs.declared.progress.Progress.{Progress}
use Rattle.include_graph.specs.declared.reader.OutlineStep.{OutlineStep}
use Rattle.include_graph.specs.declared.reader.OutlineStep.TheVariants as step
use Rattle.include_graph.specs.declared.file_walk.FileWalk.{FileWalk}
use Rattle.include_graph.specs.Outlines.{outline_of}
use Rattle.include_graph.specs.Reading.{Passing, InInclude, Known, at_start, after_events, is_known, with_fault}
use Rattle.include_graph.specs.Reading as reading

abbrev pub place_of : Place → reading.Place
place_of place.Passing = Passing
place_of (place.InInclude offset bytes) = InInclude offset bytes.items
place_of place.Known = Known

abbrev pub progress_of : Progress → reading.Progress
progress_of progress = record { place = place_of progress.place; has_dictionary = progress.has_dictionary; items = progress.items.items }

-- so many bytes came, as far as they are counted
abbrev pub Counts : List ℕ → ℕ → Type 0
Counts bytes arrived = length bytes < 2 ^ 32 → arrived ≡ length bytes

-- the outline isn't known, and every event of these bytes was read
pub record IsReading (mark : Mark) (bytes : List ℕ) (walk : FileWalk) : Type 0 where
  pub is_open : mark ≡ Open
  pub told : Told bytes (events_of (chunks_of bytes)) walk.walker
  pub goes_on : IsOpen (chunks_of bytes).tail
  pub progress : progress_of walk.progress ≡ after_events at_start (events_of (chunks_of bytes))
  pub unknown : is_known (progress_of walk.progress).place ≡ false
  pub counts : Counts bytes walk.arrived

abbrev pub outline_read : FileWalk → Outline
outline_read walk = record { items = walk.progress.items.items }

-- a walk came to all that these bytes settle, where the reader answers so from then on
abbrev pub FedBy : OutlineStep → Mark → List ℕ → FileWalk → Type 0
FedBy step.NeedBytes mark bytes walk = IsReading mark bytes walk
FedBy step.Done mark bytes walk = outline_of mark bytes ≡ Some (outline_read walk)
FedBy step.OutOfMemory mark bytes walk = ⊤

-- what contracts see of a reader: what it answers from now on, and what it alone reads
pub record Outlining : Type 0 where
  pub answered : OutlineStep
  pub kept : FileWalk

-- a reader was fed these bytes, and told this of their end
unfoldable pub Fed : Mark → List ℕ → Outlining → Type 0
Fed mark bytes reader = FedBy reader.answered mark bytes reader.kept

-- an answer says whether the outline is known
abbrev pub Reports : OutlineStep → Option Outline → Type 0
Reports step.NeedBytes outline = outline ≡ None
Reports step.Done outline = IsSome outline
Reports step.OutOfMemory outline = ⊤

-- the walker answered so where it told no event, and the walk over the file answers so
abbrev pub PausesSo : WalkStep → FileWalk → OutlineStep → FileWalk → Type 0
PausesSo walk_step.NeedBytes before answer after = (answer ≡ step.NeedBytes) × (after ≡ before)
PausesSo walk_step.FormEnd before answer after = (answer ≡ step.Done) × (after ≡ before)
PausesSo (walk_step.Broken kind offset) before answer after = (answer ≡ step.Done) × (progress_of after.progress ≡ with_fault kind offset
    (progress_of before.progress))
PausesSo (walk_step.Form kind size) before answer after = ⊤
PausesSo (walk_step.Header id offset size) before answer after = ⊤
PausesSo walk_step.Data before answer after = ⊤
PausesSo walk_step.ChunkEnd before answer after = ⊤

-- behind the last event, where the file ends so
abbrev pub ended_so : WalkEnd → reading.Progress → reading.Progress
ended_so walk_end.FormEnd so_far = so_far
ended_so (walk_end.Broken kind offset) so_far = with_fault kind offset so_far

-- a walk is over a piece behind these bytes: all events of the bytes were read, and all bytes are counted
pub record IsWalking (bytes piece : List ℕ) (walk : FileWalk) : Type 0 where
  pub told : Told bytes (events_of (chunks_of bytes)) walk.walker
  pub progress : progress_of walk.progress ≡ after_events at_start (events_of (chunks_of bytes))
  pub unknown : is_known (progress_of walk.progress).place ≡ false
  pub counts : Counts (bytes ++ piece) walk.arrived

-- a walk came to this rest of the file
pub record Reaches (file rest : List ℕ) (walk : FileWalk) : Type 0 where
  pub told : List Event
  pub has : HasTold file rest told walk.walker
  pub progress : progress_of walk.progress ≡ after_events at_start told
  pub unknown : is_known (progress_of walk.progress).place ≡ false
  pub counts : Counts file walk.arrived

abbrev pub answer_of : Result OutlineStep AllocError → OutlineStep
answer_of (Ok answer) = answer
answer_of (Err error) = step.OutOfMemory
