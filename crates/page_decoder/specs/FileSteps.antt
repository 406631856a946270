-- What the steps of a file's reader do to what it keeps.
use Rattle.std.specs.Prelude.{ℕ, ◌≡◌, ◌≢◌, ◌+◌, ◌-◌, ◌≤◌, ◌<◌, ◌^◌, ⊤, List, [], ◌∷◌, ◌++◌, length, Option, Some, None, Bool, true, false, ◌==◌, min, if◌then◌else◌}
use Rattle.std.specs.Arc.{arc_value}
use Rattle.djvu_base.specs.declared.faults.FaultKind.{FaultKind}
use Rattle.djvu_base.specs.Library.{Mark}
use Rattle.djvu_base.specs.Meter.{TicksExactly, ticked}
use Rattle.zp_table.specs.declared.rows.Row.{Row}
use Rattle.iff_chunks.specs.Chunks.{chunks_of}
use Rattle.iff_chunks.specs.declared.walker.WalkEnd.{WalkEnd}
use Rattle.iff_chunks.specs.declared.walker.WalkEnd.TheVariants as walk_end
use Rattle.include_graph.specs.Verdicts.{fault_at}
use Rattle.iw44_image.specs.Layer.{data_of}
use Rattle.page_decoder.specs.declared.file_reader.FileReader.{FileReader}
use Rattle.page_decoder.specs.declared.file_reader.FileClose.{FileClose}
use Rattle.page_decoder.specs.declared.file_reader.FileClose.TheVariants as close
use Rattle.page_decoder.specs.declared.file_reader.Stage.TheVariants as stage
use Rattle.page_decoder.specs.declared.file_reader.ChunkAtHand.{ChunkAtHand}
use Rattle.page_decoder.specs.declared.decoder.PageStep.{PageStep}
use Rattle.page_decoder.specs.declared.decoder.PageStep.TheVariants as step
use Rattle.page_decoder.specs.declared.closing.ChunkCame.{ChunkCame}
use Rattle.page_decoder.specs.declared.closing.Closed.{Closed}
use Rattle.page_decoder.specs.declared.closing.ChunkCame.TheVariants as came
use Rattle.page_decoder.specs.declared.resolving.Resolution.{Resolution}
use Rattle.page_decoder.specs.declared.resolving.Resolution.TheVariants as resolution
use Rattle.page_decoder.specs.Kinds.{ChunkKind}
use Rattle.page_decoder.specs.Kinds as kind
use Rattle.page_decoder.specs.Given.{Role, Page, Included, Home, Known, Given}
use Rattle.page_decoder.specs.PageRead.{NeedOutline, NeedFile, Refused, Include, Decoded, Left}
use Rattle.page_decoder.specs.Headers.{Head}
use Rattle.page_decoder.specs.ChunkData.{Unfinished, Fails, came as data_came}
use Rattle.page_decoder.specs.Acts.{close_in, origin_of}
use Rattle.page_decoder.specs.Resolving.{Resolving, with_include, Resolves, IsResolved, Stops, Needs}
use Rattle.page_decoder.specs.Kept.{Keeping, Keeps}
use Rattle.page_decoder.specs.Opened.{Opens, ClosesTo, LayersStay, decisions_of}
use Rattle.page_decoder.specs.FileReading.{Stands, StandsBefore, close_of}

-- it was fed something
pub record IsHeld (reader : FileReader) : Type 0 where
  pub given : Given
  pub stands : Stands given reader

-- a file among these names is given, and so much is known of others
pub record IsKnown (names : List (List ℕ)) (known : Known) (given : Given) : Type 0 where
  pub names_are : given.home.names ≡ names
  pub known_is : given.known ≡ known

-- ---- bytes

-- where the FORM's first chunk may begin
abbrev pub origin_so : ℕ → List ℕ → ℕ
origin_so origin [] = origin
origin_so origin (byte ∷ bytes) = if byte == 0x41 then 16 else 12

abbrev pub origin_with : ℕ → List ℕ → ℕ → ℕ
origin_with arrived taken origin = if arrived == 0 then origin_so origin taken else origin

abbrev pub counted_with : ℕ → List ℕ → ℕ
counted_with arrived taken = min (arrived + length taken) (2 ^ 32 - 1)

-- ---- answers

abbrev pub fault_answer : ℕ → ℕ → Option FaultKind → Option PageStep
fault_answer file offset None = None
fault_answer file offset (Some kind) = Some (step.Refused (fault_at kind file offset))

-- want of memory is the one answer
abbrev pub IsNoMemory : PageStep → Type 0
IsNoMemory answer = answer ≡ step.OutOfMemory

abbrev pub MayLackMemory : Option PageStep → Type 0
MayLackMemory None = ⊤
MayLackMemory (Some answer) = IsNoMemory answer

abbrev pub stop_of : Resolution → Option PageStep
stop_of resolution.Resolved = None
stop_of (resolution.NeedOutline file) = Some (step.NeedOutline file)
stop_of (resolution.NeedFile file) = Some (step.NeedFile file)
stop_of (resolution.Refused fault) = Some (step.Refused fault)
stop_of resolution.OutOfMemory = Some step.OutOfMemory

-- ---- a header

abbrev pub AtHeader : Option FaultKind → Head → Option PageStep → FileReader → FileReader → Type 0
AtHeader (Some kind) head answer before after = (answer ≡ Some (step.Refused (fault_at kind before.file head.offset))) × (after ≡ before)
AtHeader None head answer before after = (answer ≡ None) × (after ≡ record before { stage = stage.Before head })

-- ---- data

-- a chunk at hand got these data
pub record TakesIn (piece : List ℕ) (before after : ChunkAtHand) : Type 0 where
  pub head_is : after.head ≡ before.head
  pub same : decisions_of after.opened ≡ decisions_of before.opened
  pub opens : (table : List Row) (decoded : Decoded) (bytes : List ℕ) (kept : Keeping) → Opens table before.head decoded bytes kept before.opened
      → length piece ≤ before.opened.to_come → Opens table after.head decoded (bytes ++ piece) kept after.opened

abbrev pub TakesData : List ℕ → Option ChunkAtHand → Option ChunkAtHand → Type 0
TakesData piece None None = ⊤
TakesData piece (Some before) (Some after) = TakesIn piece before after
TakesData piece None (Some after) = ⊥
TakesData piece (Some before) None = ⊥

-- what the data so far of a chunk at hand come to, where they aren't all there
pub record ReadsOn (answer : Option PageStep) (file : ℕ) (before after : ChunkAtHand) : Type 0 where
  pub head_is : after.head ≡ before.head
  pub unfinished : (table : List Row) (decoded : Decoded) (bytes : List ℕ) (kept : Keeping) → Opens table before.head decoded bytes kept before.opened
      → length bytes < before.head.size → answer ≡ None → ((data_came table before.head (data_of bytes false) decoded).outcome ≡ Unfinished)
      × Opens table after.head decoded bytes kept after.opened
  pub fails : (table : List Row) (decoded : Decoded) (bytes : List ℕ) (kept : Keeping) → Opens table before.head decoded bytes kept before.opened
      → length bytes < before.head.size → (stop : PageStep) → answer ≡ Some stop → stop ≢ step.OutOfMemory
      → (kind : FaultKind) × ((data_came table before.head (data_of bytes false) decoded).outcome ≡ Fails kind)
      × (stop ≡ step.Refused (fault_at kind file before.head.offset))
  pub decisions : (table : List Row) (decoded : Decoded) (bytes : List ℕ) (kept : Keeping) → Opens table before.head decoded bytes kept before.opened
      → length bytes < before.head.size → answer ≢ Some step.OutOfMemory
      → TicksExactly (data_came table before.head (data_of bytes false) decoded).decisions 0 (decisions_of after.opened)
  pub at_most : (table : List Row) (decoded : Decoded) (bytes : List ℕ) (kept : Keeping) → Opens table before.head decoded bytes kept before.opened
      → length bytes < before.head.size → decisions_of after.opened ≤ ticked (data_came table before.head (data_of bytes false) decoded).decisions 0

abbrev pub Advances : Option PageStep → ℕ → Option ChunkAtHand → Option ChunkAtHand → Type 0
Advances answer file None None = answer ≡ None
Advances answer file (Some before) (Some after) = ReadsOn answer file before after
Advances answer file None (Some after) = ⊥
Advances answer file (Some before) None = ⊥

-- ---- the end of a chunk

-- one include more is pending, behind so many chunks
abbrev pub Adds : Include → ℕ → Option PageStep → FileReader → FileReader → Type 0
Adds include chunks None before after = after ≡ record before { includes = with_include include before.includes; chunks = chunks }
Adds include chunks (Some answer) before after = IsNoMemory answer × (after ≡ before)

-- a chunk was closed, with which there are so many, and came to this
abbrev pub HasLeft : Head → ℕ → ChunkCame → Option PageStep → FileReader → FileReader → Type 0
HasLeft head chunks (came.Drew notice) answer before after =
    (answer ≡ Some (step.Drew notice)) × (after ≡ record before { chunks = chunks; drawn = min (before.drawn + 1) (2 ^ 32 - 1) })
HasLeft head chunks came.Left answer before after = (answer ≡ None) × (after ≡ record before { chunks = chunks })
HasLeft head chunks (came.Include name) answer before after = Adds (record { name = name; offset = head.offset }) chunks answer before after
HasLeft head chunks (came.Refused kind) answer before after = (answer ≡ Some (step.Refused (fault_at kind before.file head.offset))) × (after ≡ before)
HasLeft head chunks came.OutOfMemory answer before after = (answer ≡ Some step.OutOfMemory) × (after ≡ before)

-- a chunk whose data are all there was closed
pub record HasClosed (chunk : ChunkAtHand) (answer : Option PageStep) (before after : FileReader) : Type 0 where
  pub closed : Closed
  pub closes : (table : List Row) (decoded : Decoded) (bytes : List ℕ) → Opens table chunk.head decoded bytes before.kept chunk.opened
      → length bytes ≡ chunk.head.size
      → ClosesTo closed (min (before.chunks + 1) (2 ^ 32 - 1)) table chunk.head decoded (data_came table chunk.head (data_of bytes true) decoded) after.kept
  pub decisions_are : after.decisions ≡ ticked closed.decisions before.decisions
  pub has_left : HasLeft chunk.head (min (before.chunks + 1) (2 ^ 32 - 1)) closed.came answer
      (record before { kept = after.kept; decisions = after.decisions }) after
  pub layers_stay : LayersStay closed.came before.kept.layers after.kept.layers

-- ---- before a chunk

-- how the resolving of includes stands that answered so
abbrev pub StopsSo : Home → Known → Left → Option PageStep → Resolving → Type 0
StopsSo home known left None it = IsResolved home known left it
StopsSo home known left (Some (step.NeedOutline file)) it = Needs home known left (NeedOutline file) it
StopsSo home known left (Some (step.NeedFile file)) it = Needs home known left (NeedFile file) it
StopsSo home known left (Some (step.Refused fault)) it = Stops home known left (Refused fault)
StopsSo home known left (Some step.OutOfMemory) it = ⊤
StopsSo home known left (Some step.Finished) it = ⊥
StopsSo home known left (Some step.NeedBytes) it = ⊥
StopsSo home known left (Some (step.Drew notice)) it = ⊥

abbrev pub HasResolved : Home → Known → Left → Option PageStep → Resolving → Resolving → Type 0
HasResolved home known left answer before after = Resolves home known left before → StopsSo home known left answer after

abbrev pub ResolvesBefore : ChunkKind → Home → Known → Left → Option PageStep → Resolving → Resolving → Type 0
ResolvesBefore kind.Dictionary home known left answer before after = HasResolved home known left answer before after
ResolvesBefore kind.Mask home known left answer before after = HasResolved home known left answer before after
ResolvesBefore other home known left answer before after = (answer ≡ None) × (after ≡ before)

-- the chunk with this header is at hand
pub record Begins (head : Head) (before after : FileReader) : Type 0 where
  pub chunk : ChunkAtHand
  pub head_is : chunk.head ≡ head
  pub is : after ≡ record before { kept = after.kept; chunk = Some chunk; stage = stage.Walking }
  pub opens : (decoded : Decoded) → Keeps (arc_value before.table) decoded before.kept → decoded.inherited ≡ before.includes.inherited
      → Opens (arc_value before.table) head decoded [] after.kept chunk.opened
  pub none_read : decisions_of chunk.opened ≡ 0

-- the reader stands behind a header, or behind the FORM's end, in front of the rest of the bytes
pub record IsEntering (given : Given) (rest : List ℕ) (head : Head) (reader : FileReader) : Type 0 where
  pub stage_is : reader.stage ≡ stage.Before head
  pub stands : StandsBefore given rest reader

pub record IsFinishing (given : Given) (rest : List ℕ) (reader : FileReader) : Type 0 where
  pub stage_is : reader.stage ≡ stage.AtEnd
  pub stands : StandsBefore given rest reader

-- ---- behind all events

abbrev pub close_by : WalkEnd → FileClose
close_by walk_end.FormEnd = close.Over
close_by (walk_end.Broken kind offset) = close.Breaks kind offset

-- this stands behind all acts of a file with these bytes, of whose end this is known
abbrev pub IsBehind : Mark → List ℕ → FileClose → Type 0
IsBehind mark bytes behind = close_in mark bytes ≡ close_of (origin_of (chunks_of bytes).form) behind

abbrev pub lacks_info : Role → ℕ → Bool
lacks_info Page chunks = chunks == 0
lacks_info Included chunks = false
