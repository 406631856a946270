-- The text of `info`, read off the chunks of a file alone. No decision is read.
use Rattle.std.specs.Prelude.{ℕ, Bool, true, false, ◌≡◌, ◌++◌, List, [], Option, Some, None, slice_get}
use Rattle.std.specs.List.{flat_map}
use Rattle.djvu_base.specs.Library.{File, Library, Mark}
use Rattle.djvu_outside.specs.Puts.{to_report}
use Rattle.iff_chunks.specs.declared.walker.WalkStep.{WalkStep}
use Rattle.iff_chunks.specs.declared.walker.WalkStep.TheVariants as step
use Rattle.iff_chunks.specs.Chunks.{Form, Chunk, Chunks, Tail, InHead, InHeader, InData, InPad, FormEnd, Broken, chunks_of}
use Rattle.iff_chunks.specs.Events.{Event, Begun, Header, Data, ChunkEnd, events_of}
use Rattle.iff_chunks.specs.Ends.{file_end}
use Rattle.iff_chunks.specs.Told.{Walking}
use Rattle.iff_chunks.specs.Walk.{HasTold, HasToldAll}
use Rattle.djvu_base.specs.declared.faults.FaultKind.{FaultKind}
use Rattle.page_decoder.specs.Libraries.{names_in}
use Rattle.viewer_words.specs.Lines.{name_at, form_line, chunk_line, fault_line}
use Rattle.viewer_run.specs.Texts.{Texts, no_texts}

abbrev pub form_lines : List ℕ → Option Form → List ℕ
form_lines name None = []
form_lines name (Some form) = form_line name form.kind form.size

-- the line of a chunk whose header was read and is neither a bad identifier's nor an overrun's
abbrev pub header_line : List ℕ → Chunk → List ℕ
header_line name chunk = chunk_line name chunk.id chunk.offset chunk.size

abbrev pub tail_line : List ℕ → Tail → List ℕ
tail_line name (InData chunk) = header_line name chunk
tail_line name InHead = []
tail_line name (InHeader offset bytes) = []
tail_line name (InPad offset is_last) = []
tail_line name FormEnd = []
tail_line name (Broken kind offset) = []

abbrev pub heading_lines : List ℕ → Chunks → List ℕ
heading_lines name chunks = form_lines name chunks.form ++ (flat_map (header_line name) chunks.whole ++ tail_line name chunks.tail)

-- the line of a fault in the file of a page, which has this number among the names of the folder
abbrev pub page_fault : List (List ℕ) → ℕ → FaultKind → ℕ → List ℕ
page_fault names page kind offset = fault_line (name_at names page) (record { kind = kind; place = record { file = page; offset = offset } }) names

-- the line of a fault of form, or none
abbrev pub fault_text : List (List ℕ) → ℕ → Tail → List ℕ
fault_text names page InHead = []
fault_text names page (InHeader offset bytes) = []
fault_text names page (InData chunk) = []
fault_text names page (InPad offset is_last) = []
fault_text names page FormEnd = []
fault_text names page (Broken kind offset) = page_fault names page kind offset

abbrev pub has_fault : Tail → Bool
has_fault InHead = false
has_fault (InHeader offset bytes) = false
has_fault (InData chunk) = false
has_fault (InPad offset is_last) = false
has_fault FormEnd = false
has_fault (Broken kind offset) = true

-- the FORM, the chunks and the fault of form of a page's file, by what is known of its end
abbrev pub info_lines : List (List ℕ) → ℕ → Mark → List ℕ → List ℕ
info_lines names page mark bytes = heading_lines (name_at names page) (chunks_of bytes) ++ fault_text names page (file_end mark bytes)

abbrev pub info_of_file : List (List ℕ) → ℕ → File → Texts
info_of_file names page file = record { puts = to_report (info_lines names page file.mark file.bytes); refused = has_fault (file_end file.mark file.bytes) }

abbrev pub info_of_found : List (List ℕ) → ℕ → Option File → Texts
info_of_found names page None = no_texts
info_of_found names page (Some file) = info_of_file names page file

-- a page of a library, by its number there
abbrev pub info_of_page : Library → ℕ → Texts
info_of_page library page = info_of_found (names_in library) page (slice_get library page)

-- the line of an event, or none
abbrev pub event_line : List ℕ → Event → List ℕ
event_line name (Begun kind size) = form_line name kind size
event_line name (Header id offset size) = chunk_line name id offset size
event_line name (Data bytes) = []
event_line name ChunkEnd = []

abbrev pub event_lines : List ℕ → List Event → List ℕ
event_lines name events = flat_map (event_line name) events

abbrev pub step_line : List ℕ → WalkStep → List ℕ
step_line name (step.Form kind size) = form_line name kind size
step_line name (step.Header id offset size) = chunk_line name id offset size
step_line name step.Data = []
step_line name step.ChunkEnd = []
step_line name step.NeedBytes = []
step_line name step.FormEnd = []
step_line name (step.Broken kind offset) = []

-- the walker told these events of the file, of which these are the lines, and this is the rest of it
pub record Informs (file rest name lines : List ℕ) (walker : Walking) : Type 0 where
  pub told : List Event
  pub walk : HasTold file rest told walker
  pub lines_so : lines ≡ event_lines name told

-- all events of the file were told
pub record InformsWhole (file name lines : List ℕ) (walker : Walking) : Type 0 where
  pub walk : HasToldAll file walker
  pub lines_so : lines ≡ event_lines name (events_of (chunks_of file))
