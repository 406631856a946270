-- Parts of a run: which answers they stop with, and what each did to a folder, to sinks and to a meter.
use Rattle.std.specs.Prelude.{ℕ, ◌≡◌, ◌++◌, ◌⊎◌, ⊤, List, Option, Some, Result, Ok, Err}
use Rattle.djvu_base.specs.Meter.{TicksExactly, TicksAtMost}
use Rattle.djvu_outside.specs.declared.stops.Stop.{Stop}
use Rattle.djvu_outside.specs.declared.stops.Stop.TheVariants as stop
use Rattle.djvu_outside.specs.Faults.{Rises}
use Rattle.djvu_outside.specs.Reading.{GrowsWithin}

-- the status of a run that stops so
abbrev pub status_of : Stop → ℕ
status_of stop.Folder = 3
status_of stop.Sink = 4
status_of stop.Memory = 5

-- of a part that reads alone: it stops for the folder exactly where the folder failed
abbrev pub FolderStops : {T : Type 0} → Result T Stop → ℕ → ℕ → Type 0
FolderStops (Ok value) before after = after ≡ before
FolderStops (Err stop.Folder) before after = Rises before after
FolderStops (Err stop.Sink) before after = ⊥
FolderStops (Err stop.Memory) before after = after ≡ before

-- of a part that puts alone: it stops for the sink exactly where the sink failed
abbrev pub SinkStops : {T : Type 0} → Result T Stop → ℕ → ℕ → Type 0
SinkStops (Ok value) before after = after ≡ before
SinkStops (Err stop.Folder) before after = ⊥
SinkStops (Err stop.Sink) before after = Rises before after
SinkStops (Err stop.Memory) before after = after ≡ before

-- a part that doesn't stop for the folder
abbrev pub NeverFolder : {T : Type 0} → Result T Stop → Type 0
NeverFolder (Ok value) = ⊤
NeverFolder (Err stop.Folder) = ⊥
NeverFolder (Err stop.Sink) = ⊤
NeverFolder (Err stop.Memory) = ⊤

-- one sink's count rose, and the other's didn't; first the counts of the one sink, and then those of the other
abbrev pub OneRises : ℕ → ℕ → ℕ → ℕ → Type 0
OneRises before after other_before other_after =
    (Rises before after × (other_after ≡ other_before)) ⊎ ((after ≡ before) × Rises other_before other_after)

-- of a part with two sinks: a sink's count rose exactly where it stopped for a sink
abbrev pub SinksEnd : {T : Type 0} → Result T Stop → ℕ → ℕ → ℕ → ℕ → Type 0
SinksEnd (Ok value) before after other_before other_after = (after ≡ before) × (other_after ≡ other_before)
SinksEnd (Err stop.Folder) before after other_before other_after = (after ≡ before) × (other_after ≡ other_before)
SinksEnd (Err stop.Sink) before after other_before other_after = OneRises before after other_before other_after
SinksEnd (Err stop.Memory) before after other_before other_after = (after ≡ before) × (other_after ≡ other_before)

-- all of the text was put, or, where the part stopped, a prefix of it
abbrev pub Delivers : {T : Type 0} → Result T Stop → List ℕ → List ℕ → List ℕ → Type 0
Delivers (Ok value) before text after = after ≡ before ++ text
Delivers (Err fault) before text after = GrowsWithin before text after

-- what a sink tells went on with the text, or, where the part stopped, with a prefix of it
abbrev pub Gives : {T : Type 0} → Result T Stop → Option (List ℕ) → Option (List ℕ) → List ℕ → Type 0
Gives result old new text = (before : List ℕ) → old ≡ Some before → (after : List ℕ) × (new ≡ Some after) × Delivers result before text after

-- a meter counts the work of a part, or, where the part stopped, no more than that
abbrev pub Ticks : {T : Type 0} → Result T Stop → ℕ → ℕ → ℕ → Type 0
Ticks (Ok value) work before after = TicksExactly work before after
Ticks (Err fault) work before after = TicksAtMost work before after
