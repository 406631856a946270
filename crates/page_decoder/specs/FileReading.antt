-- How the reader of a file stands to what was given of the file: where it stands among the acts, and what it keeps of those that are complete.
use Rattle.std.specs.Prelude.{ℕ, ◌≡◌, ◌≢◌, ◌+◌, ◌*◌, ◌≤◌, ◌<◌, ◌^◌, ◌-◌, min, ⊤, List, [], ◌∷◌, ◌++◌, length, Option, Some, None, false, ◌==◌, if◌then◌else◌}
use Rattle.std.specs.Arc.{arc_value}
use Rattle.bit_plane.specs.Pixels.{Pixels}
use Rattle.djvu_base.specs.Library.{Mark, Open, mark_of}
use Rattle.djvu_base.specs.declared.ends.FileEnd.{FileEnd}
use Rattle.djvu_base.specs.Meter.{TicksExactly, ticked}
use Rattle.zp_table.specs.declared.rows.Row.{Row}
use Rattle.zp_table.specs.Rows.{IsTable}
use Rattle.iff_chunks.specs.Chunks.{chunks_of, FormEnd, Broken}
use Rattle.iff_chunks.specs.Events.{Event, events_of, GoesOn, IsOpen}
use Rattle.iff_chunks.specs.Told.{Walking, Told as WasTold, pending}
use Rattle.iff_chunks.specs.declared.walker.WalkStep.{WalkStep}
use Rattle.iff_chunks.specs.declared.walker.WalkStep.TheVariants as event
use Rattle.include_graph.specs.declared.outline.Outline.{Outline}
use Rattle.jb2_records.specs.declared.results.FileResult.{FileResult}
use Rattle.page_decoder.specs.declared.file_reader.FileReader.{FileReader}
use Rattle.page_decoder.specs.declared.file_reader.FileClose.{FileClose}
use Rattle.page_decoder.specs.declared.file_reader.FileClose.TheVariants as close
use Rattle.page_decoder.specs.declared.file_reader.Stage.{Stage}
use Rattle.page_decoder.specs.declared.file_reader.Stage.TheVariants as stage
use Rattle.page_decoder.specs.declared.file_reader.ChunkAtHand.{ChunkAtHand}
use Rattle.page_decoder.specs.declared.decoder.PageStep.{PageStep}
use Rattle.page_decoder.specs.declared.decoder.PageStep.TheVariants as step
use Rattle.page_decoder.specs.Given.{Home, Known, Given, Within}
use Rattle.page_decoder.specs.PageRead.{last_layers, Decoded, Left, or_else, in_force, at_start}
use Rattle.iw44_image.specs.Layer.{data_of}
use Rattle.page_decoder.specs.Headers.{Head, header_fault}
use Rattle.page_decoder.specs.ChunkData.{came}
use Rattle.page_decoder.specs.Acts.{Act, Close, Breaks, Over, acts_of, close_in}
use Rattle.page_decoder.specs.Acts as acts
use Rattle.page_decoder.specs.Read.{Step, On, and_then, after, all_resolved, at_header, at_close, finished, step_through, read}
use Rattle.page_decoder.specs.ActsTold.{OpenChunk, ActsTold, nothing_told, begun_at, all_told, after_events, after_step}
use Rattle.page_decoder.specs.Resolving.{Resolving, home_of, known_of, Waits, Resolves}
use Rattle.page_decoder.specs.Kinds.{ChunkKind, kind_of}
use Rattle.page_decoder.specs.Kinds as kind
use Rattle.page_decoder.specs.Kept.{Keeping, Keeps}
use Rattle.page_decoder.specs.Opened.{Opens, decisions_of}
use Rattle.page_decoder.specs.Decoder.{next_entry, answer_to, decisions_to, drawn_with, Shows}

-- the place behind the FORM's kind. Only a file that begins with "AT&T" has its FORM behind that
abbrev pub origin_by : List ℕ → ℕ
origin_by [] = 12
origin_by (byte ∷ bytes) = if byte == 0x41 then 16 else 12

-- so many bytes came, as far as they are counted
abbrev pub Counts : List ℕ → ℕ → Type 0
Counts bytes arrived = arrived ≡ min (length bytes) (2 ^ 32 - 1)

-- the decisions of a chunk at hand, and of all that was read
abbrev pub decisions_at_hand : Option ChunkAtHand → ℕ
decisions_at_hand None = 0
decisions_at_hand (Some chunk) = decisions_of chunk.opened

abbrev pub decisions_in : FileReader → ℕ
decisions_in reader = ticked (decisions_at_hand reader.chunk) reader.decisions

-- it is the reader of the same file
abbrev pub SameFile : FileReader → FileReader → Type 0
SameFile before after = (names : List (List ℕ))
    → home_of after.role (arc_value after.table) names after.file ≡ home_of before.role (arc_value before.table) names before.file

-- ---- what is kept

-- the layers and the dictionary that chunks left
pub record IsLike (decoded : Decoded) (kept : Keeping) : Type 0 where
  pub layers_are : kept.layers ≡ decoded.layers
  pub own_is : kept.own ≡ decoded.own

-- the reader is one of this file
pub record IsOf (given : Given) (reader : FileReader) : Type 0 where
  pub home_is : given.home ≡ home_of reader.role (arc_value reader.table) given.home.names reader.file
  pub is_table : IsTable given.home.table
  pub origin_is : reader.origin ≡ origin_by given.bytes
  pub counts : Counts given.bytes reader.arrived

-- the file's walker told these acts, and the chunk behind them, of the bytes so far
pub record Walks (given : Given) (walker : Walking) (so_far : ActsTold) : Type 0 where
  pub told : List Event
  pub is_told : WasTold given.bytes told walker
  pub acts_are : so_far ≡ after_events nothing_told told
  pub goes : (more : List ℕ) → GoesOn told (events_of (chunks_of (given.bytes ++ more)))
  pub is_open : given.mark ≡ Open

-- the counts are those of what was left
pub record Tallies (left : Left) (reader : FileReader) : Type 0 where
  pub chunks_are : reader.chunks ≡ left.chunks
  pub drawn_are : reader.drawn ≡ length left.told.drawings
  pub last_is : left.decoded.layers ≡ last_layers left.told.drawings

-- behind the acts that were told, and behind all that the header of the chunk at hand brings
abbrev pub reached : Home → Known → List Act → Option OpenChunk → Step
reached home known acts None = step_through home known acts at_start
reached home known acts (Some chunk) =
    and_then (step_through home known acts at_start) (λ left. at_header home known chunk.head (header_fault home.role left chunk.head) left)

-- the chunk at hand is the one that was told, and no more decisions of it were read than its bytes so far determine
pub record HasOpened (table : List Row) (told : OpenChunk) (chunk : ChunkAtHand) (decoded : Decoded) (kept : Keeping) : Type 0 where
  pub head_is : chunk.head ≡ told.head
  pub opens : Opens table told.head decoded told.bytes kept chunk.opened
  pub few : decisions_of chunk.opened ≤ ticked (came table told.head (data_of told.bytes false) decoded).decisions 0

-- what is kept of what was left, and of the chunk at hand
abbrev pub HoldsChunk : List Row → Option OpenChunk → Option ChunkAtHand → Decoded → Keeping → Type 0
HoldsChunk table None None decoded kept = Keeps table decoded kept
HoldsChunk table (Some told) (Some chunk) decoded kept = HasOpened table told chunk decoded kept
HoldsChunk table None (Some chunk) decoded kept = ⊥
HoldsChunk table (Some told) None decoded kept = ⊥

-- all that a reader keeps, where these acts were told
pub record Holds (home : Home) (known : Known) (so_far : ActsTold) (left : Left) (reader : FileReader) : Type 0 where
  pub on : reached home known so_far.acts so_far.chunk ≡ On left
  pub holds_chunk : HoldsChunk home.table so_far.chunk reader.chunk left.decoded reader.kept
  pub waits : Waits home known left.decoded reader.includes
  pub decisions_are : TicksExactly left.told.decisions 0 reader.decisions
  pub tallies : Tallies left reader

-- ---- where the reader stands

-- between chunks, or within one
pub record IsWalking (given : Given) (reader : FileReader) : Type 0 where
  pub so_far : ActsTold
  pub left : Left
  pub of : IsOf given reader
  pub walks : Walks given reader.walker so_far
  pub holds : Holds given.home given.known so_far left reader

-- the includes before a chunk of this kind: they are resolved as far as this, or wait where it brings nothing of them
abbrev pub ResolvesAt : ChunkKind → Home → Known → Left → Resolving → Type 0
ResolvesAt kind.Dictionary home known left it = Resolves home known left it
ResolvesAt kind.Mask home known left it = Resolves home known left it
ResolvesAt other home known left it = Waits home known left.decoded it

-- behind the header of a chunk, which is right. What it brings is to be resolved
pub record IsBefore (given : Given) (head : Head) (reader : FileReader) : Type 0 where
  pub acts : List Act
  pub left : Left
  pub of : IsOf given reader
  pub walks : Walks given reader.walker (record { acts = acts; chunk = begun_at head })
  pub on : step_through given.home given.known acts at_start ≡ On left
  pub fine : header_fault given.home.role left head ≡ None
  pub none : reader.chunk ≡ None
  pub keeps : Keeps given.home.table left.decoded reader.kept
  pub resolves : ResolvesAt (kind_of head.id) given.home given.known left reader.includes
  pub decisions_are : TicksExactly left.told.decisions 0 reader.decisions
  pub tallies : Tallies left reader

-- behind the FORM's end, of a file with enough chunks: whatever is given later, the pending includes are all that is left
pub record IsAtEnd (given : Given) (reader : FileReader) : Type 0 where
  pub left : Left
  pub of : IsOf given reader
  pub ends : (later : Given) → Within given later → read later ≡ after (all_resolved later.home later.known left) finished
  pub none : reader.chunk ≡ None
  pub like : IsLike left.decoded reader.kept
  pub resolves : Resolves given.home given.known left reader.includes
  pub decisions_are : TicksExactly left.told.decisions 0 reader.decisions
  pub tallies : Tallies left reader

abbrev pub StandsAt : Given → Stage → FileReader → Type 0
StandsAt given stage.Walking reader = IsWalking given reader
StandsAt given (stage.Before head) reader = IsBefore given head reader
StandsAt given stage.AtEnd reader = IsAtEnd given reader

-- a reader was fed these bytes, knew this, and came here
abbrev pub Stands : Given → FileReader → Type 0
Stands given reader = StandsAt given reader.stage reader

-- ---- what a run comes to

abbrev pub mark_by : Option FileEnd → Mark
mark_by None = Open
mark_by (Some end) = mark_of end

-- a reader that was fed as much as before is given the rest of a file's bytes, what is known of its end, and these gifts
pub record IsGiven (names : List (List ℕ)) (outlines : List (Option Outline)) (results : List (Option FileResult)) (piece : List ℕ) (end : Option FileEnd)
    (before given : Given) : Type 0 where
  pub names_are : given.home.names ≡ names
  pub known_is : given.known ≡ known_of outlines results
  pub within : Within before given
  pub bytes_are : given.bytes ≡ before.bytes ++ piece
  pub mark_is : given.mark ≡ mark_by end

-- it was fed something, and something is given
pub record IsReady (names : List (List ℕ)) (outlines : List (Option Outline)) (results : List (Option FileResult)) (piece : List ℕ) (end : Option FileEnd)
    (reader : FileReader) : Type 0 where
  pub before : Given
  pub given : Given
  pub is_given : IsGiven names outlines results piece end before given
  pub stands : Stands before reader

-- the reader stands before the rest of the bytes
pub record StandsBefore (given : Given) (rest : List ℕ) (reader : FileReader) : Type 0 where
  pub now : Given
  pub within : Within now given
  pub bytes_are : given.bytes ≡ now.bytes ++ rest
  pub known_is : now.known ≡ given.known
  pub stands : Stands now reader

abbrev pub IsPause : PageStep → Type 0
IsPause (step.Drew notice) = ⊤
IsPause step.NeedBytes = ⊤
IsPause (step.NeedOutline file) = ⊤
IsPause (step.NeedFile file) = ⊤
IsPause step.Finished = ⊥
IsPause (step.Refused fault) = ⊥
IsPause step.OutOfMemory = ⊥

-- the file's own dictionary, or else the first one of its includes
abbrev pub dictionary_in : FileReader → Option (List Pixels)
dictionary_in reader = or_else reader.kept.own reader.includes.inherited

-- the reader answered so, where this was given, and stands then in front of the rest of the bytes
pub record Answers (given : Given) (rest : List ℕ) (answer : PageStep) (before after : FileReader) : Type 0 where
  pub told : answer ≢ step.OutOfMemory → answer ≡ answer_to (next_entry (read given) before.drawn)
  pub decisions : answer ≢ step.OutOfMemory → TicksExactly (decisions_to (next_entry (read given) before.drawn) (read given)) 0 (decisions_in after)
  pub at_most : decisions_in after ≤ ticked (read given).left.told.decisions 0
  pub drawn : after.drawn ≡ drawn_with answer before.drawn
  pub shows : Shows after.kept.layers after.drawn (read given).left.told
  pub finished : answer ≡ step.Finished → in_force (read given).left.decoded ≡ dictionary_in after
  pub pauses : IsPause answer → StandsBefore given rest after

-- behind one more step the reader came nearer, or it answers
pub record Moves (given : Given) (rest : List ℕ) (before after : FileReader) : Type 0 where
  pub drawn : after.drawn ≡ before.drawn
  pub stands : StandsBefore given rest after

abbrev pub ComesTo : Given → List ℕ → Option PageStep → FileReader → FileReader → Type 0
ComesTo given rest None before after = Moves given rest before after
ComesTo given rest (Some answer) before after = Answers given rest answer before after

-- how much a reader has to go over: bytes, events that need none, and what a header brings
abbrev pub stage_left : Stage → ℕ
stage_left stage.Walking = 0
stage_left (stage.Before head) = 1
stage_left stage.AtEnd = 0

abbrev pub left_over : FileReader → ℕ → ℕ
left_over reader bytes = 2 * (2 * bytes + pending reader.walker) + stage_left reader.stage

-- ---- behind one more event

-- where an answer tells no event, all were told
abbrev pub Settles : WalkStep → List Event → List ℕ → List ℕ → Type 0
Settles event.NeedBytes told bytes rest = (rest ≡ []) × (events_of (chunks_of bytes) ≡ told) × IsOpen (chunks_of bytes).tail
Settles event.FormEnd told bytes rest = (more : List ℕ) → (events_of (chunks_of (bytes ++ more)) ≡ told) × ((chunks_of (bytes ++ more)).tail ≡ FormEnd)
Settles (event.Broken kind offset) told bytes rest =
    (more : List ℕ) → (events_of (chunks_of (bytes ++ more)) ≡ told) × ((chunks_of (bytes ++ more)).tail ≡ Broken kind offset)
Settles (event.Form kind size) told bytes rest = ⊤
Settles (event.Header id offset size) told bytes rest = ⊤
Settles event.Data told bytes rest = ⊤
Settles event.ChunkEnd told bytes rest = ⊤

-- a FORM and a header come between chunks
abbrev pub IsInOrder : WalkStep → Option OpenChunk → Type 0
IsInOrder (event.Form kind size) chunk = chunk ≡ None
IsInOrder (event.Header id offset size) chunk = chunk ≡ None
IsInOrder event.Data chunk = ⊤
IsInOrder event.ChunkEnd chunk = ⊤
IsInOrder event.NeedBytes chunk = ⊤
IsInOrder event.FormEnd chunk = ⊤
IsInOrder (event.Broken kind offset) chunk = ⊤

-- the walker told one more event, for which these bytes were used. What the reader keeps is that of before
pub record IsTold (given : Given) (rest : List ℕ) (event : WalkStep) (used : List ℕ) (reader : FileReader) : Type 0 where
  pub now : Given
  pub so_far : ActsTold
  pub left : Left
  pub within : Within now given
  pub bytes_are : given.bytes ≡ now.bytes ++ rest
  pub known_is : now.known ≡ given.known
  pub of : IsOf now reader
  pub walks : Walks now reader.walker (after_step so_far event used)
  pub holds : Holds now.home now.known so_far left reader
  pub is_walking : reader.stage ≡ stage.Walking
  pub settles : Settles event walks.told now.bytes rest
  pub order : IsInOrder event so_far.chunk

abbrev pub close_of : ℕ → FileClose → Close
close_of origin close.Waits = acts.Waits
close_of origin (close.Breaks kind offset) = Breaks kind offset
close_of origin close.Over = Over origin

-- all acts of the file were told, and what stands behind them
pub record Pauses (given : Given) (so_far : ActsTold) (behind : Close) : Type 0 where
  pub acts_are : acts_of (chunks_of given.bytes) ≡ all_told so_far
  pub close_is : close_in given.mark given.bytes ≡ behind

-- the reader told all events of the file
pub record IsPaused (given : Given) (rest : List ℕ) (behind : FileClose) (reader : FileReader) : Type 0 where
  pub now : Given
  pub within : Within now given
  pub bytes_are : given.bytes ≡ now.bytes ++ rest
  pub known_is : now.known ≡ given.known
  pub so_far : ActsTold
  pub left : Left
  pub of : IsOf now reader
  pub pauses : Pauses given so_far (close_of reader.origin behind)
  pub stays : behind ≡ close.Over → (later : Given) → Within now later → Pauses later so_far (Over reader.origin)
  pub holds : Holds now.home now.known so_far left reader
  pub waits : behind ≡ close.Waits → (rest ≡ []) × Walks now reader.walker so_far × (reader.stage ≡ stage.Walking)

-- what stands behind the events is all that is left
pub record IsClosing (given : Given) (rest : List ℕ) (behind : FileClose) (reader : FileReader) : Type 0 where
  pub now : Given
  pub within : Within now given
  pub bytes_are : given.bytes ≡ now.bytes ++ rest
  pub known_is : now.known ≡ given.known
  pub left : Left
  pub of : IsOf now reader
  pub reads : read given ≡ at_close now.home now.known (close_of reader.origin behind) left
  pub stays : behind ≡ close.Over → (later : Given) → Within now later → read later ≡ at_close later.home later.known (Over reader.origin) left
  pub like : IsLike left.decoded reader.kept
  pub includes_wait : Waits now.home now.known left.decoded reader.includes
  pub decisions_are : TicksExactly left.told.decisions 0 (decisions_in reader)
  pub tallies : Tallies left reader
  pub waits : behind ≡ close.Waits → StandsBefore given rest reader
