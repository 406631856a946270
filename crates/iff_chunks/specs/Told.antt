-- How a walker stands to the bytes that it took and the events that it told.
use Rattle.std.specs.Prelude.{ℕ, Bool, true, false, ◌≡◌, ◌+◌, ◌-◌, ◌^◌, ◌<◌, ◌≤◌, ◌==◌, ◌++◌, ◌⊎◌, ⊤, Option, Some, None, List, [], ◌∷◌, length, take, drop, if◌then◌else◌}
use Rattle.std.specs.List.{flat_map}
use Rattle.byteorder.specs.Endian.{big_number}
use Rattle.djvu_base.specs.declared.faults.FaultKind.{FaultKind}
use Rattle.djvu_base.specs.declared.faults.FaultKind.TheVariants.{NotForm, Truncated}
use Rattle.iff_chunks.specs.declared.walker.WalkStep.{WalkStep}
use Rattle.iff_chunks.specs.declared.walker.WalkStep.TheVariants as step
use Rattle.iff_chunks.specs.declared.stages.Fed.{Fed}
use Rattle.iff_chunks.specs.declared.stages.ChunkPlace.{ChunkPlace}
use Rattle.iff_chunks.specs.declared.stages.OpenChunk.{OpenChunk}
use Rattle.iff_chunks.specs.declared.stages.Stage.{Stage}
use Rattle.iff_chunks.specs.declared.stages.Stage.TheVariants as stage
use Rattle.iff_chunks.specs.declared.gathering.Gathered.{Gathered}
use Rattle.iff_chunks.specs.Gathering.{gathered}
use Rattle.iff_chunks.specs.Start.{Start, Begins, Arriving, Differs, start_of}
use Rattle.iff_chunks.specs.Chunks.{Form, Chunk, Chunks, Rest, Tail, Broken, FormEnd, Has, magic, form_word, in_head, no_form, in_form, form_at, length_at, kind_at, rest_at, found_so, behind_so, data_at, behind_data, pad_at, is_padded, header_fault, chunks_of, chunks_in_all}
use Rattle.iff_chunks.specs.Events.{Event, form_events, chunk_events, open_events, events_of, tell, IsOpen, Settles, IsLast}

-- whatever follows, the file is what this makes of it
abbrev pub Becomes : List ℕ → (List ℕ → Chunks) → Type 0
Becomes taken become = (more : List ℕ) → chunks_of (taken ++ more) ≡ become more

-- a file that began with the first byte of "AT&T" goes on so
abbrev pub within_magic : Start → Chunks
within_magic (Begins rest) = form_at 4 (start_of form_word rest)
within_magic Arriving = in_head
within_magic Differs = no_form NotForm

abbrev pub is_none_of : List Chunk → Bool
is_none_of [] = true
is_none_of (chunk ∷ chunks) = false

-- behind these chunks
abbrev pub behind_chunks : List Chunk → Rest → Rest
behind_chunks whole rest = record { whole = whole ++ rest.whole; tail = rest.tail }

-- the FORM was told, these whole chunks, and of the chunk at the end these events
abbrev pub told_of : Form → List Chunk → List Event → List Event
told_of form whole last = (form_events (Some form) ++ flat_map chunk_events whole) ++ last

-- behind these chunks the file goes on as this says
pub record InForm (taken : List ℕ) (told : List Event) (whole : List Chunk) (last : List Event) (next : List ℕ → Rest) : Type 0 where
  pub form : Form
  pub told_so : told ≡ told_of form whole last
  pub on : Becomes taken (λ more. in_form form (behind_chunks whole (next more)))

-- a chunk may begin, and these bytes of its header arrived
pub record AtChunk (taken : List ℕ) (told : List Event) (place : ChunkPlace) (got : List ℕ) : Type 0 where
  pub whole : List Chunk
  pub first : place.is_first ≡ is_none_of whole
  pub in_form : InForm taken told whole [] (λ more. rest_at place.offset place.left (got ++ more))

abbrev pub chunk_of : List ℕ → OpenChunk → List ℕ → Chunk
chunk_of id chunk bytes = record { id = id; offset = chunk.offset; size = chunk.length; bytes = bytes }

-- the data of a chunk are arriving
pub record InChunk (taken : List ℕ) (told : List Event) (chunk : OpenChunk) (left : ℕ) : Type 0 where
  pub whole : List Chunk
  pub id : List ℕ
  pub bytes : List ℕ
  pub some : 0 < left
  pub count : length bytes + left ≡ chunk.length
  pub in_form : InForm taken told whole (open_events (chunk_of id chunk bytes))
      (λ more. found_so rest_at (data_at id chunk.offset chunk.length chunk.behind (bytes ++ more)))

-- the data of a chunk arrived
pub record BehindData (taken : List ℕ) (told : List Event) (chunk : OpenChunk) : Type 0 where
  pub whole : List Chunk
  pub id : List ℕ
  pub bytes : List ℕ
  pub in_form : InForm taken told whole (open_events (chunk_of id chunk bytes))
      (λ more. found_so rest_at (Has (chunk_of id chunk bytes) (behind_data chunk.offset chunk.length chunk.behind more)))

-- the end of a chunk was told, and its pad byte is to come
pub record BeforePad (taken : List ℕ) (told : List Event) (chunk : OpenChunk) : Type 0 where
  pub whole : List Chunk
  pub some : is_none_of whole ≡ false
  pub in_form : InForm taken told whole [] (λ more. behind_so rest_at (pad_at chunk.offset (chunk.offset + 9 + chunk.length) chunk.behind more))

-- whatever follows, every event was told, and the file's bytes end so
pub record IsSettled (taken : List ℕ) (told : List Event) (tail : Tail) : Type 0 where
  pub all : (more : List ℕ) → events_of (chunks_of (taken ++ more)) ≡ told
  pub ends : (more : List ℕ) → (chunks_of (taken ++ more)).tail ≡ tail

-- nothing is told of a file before its FORM's kind is there
abbrev pub BeforeForm : List ℕ → List Event → (List ℕ → Chunks) → Type 0
BeforeForm taken told become = Becomes taken become × (told ≡ [])

abbrev pub Stands : Stage → List ℕ → List Event → Type 0
Stands stage.Start taken told = (taken ≡ []) × (told ≡ [])
Stands (stage.Magic matched) taken told = BeforeForm taken told (λ more. within_magic (start_of (drop matched magic) more))
Stands (stage.Word offset matched) taken told = BeforeForm taken told (λ more. form_at offset (start_of (drop matched form_word) more))
Stands (stage.Length offset got) taken told = BeforeForm taken told (λ more. length_at offset (gathered got ++ more))
Stands (stage.Kind offset size got) taken told = BeforeForm taken told (λ more. kind_at offset size (gathered got ++ more))
Stands (stage.Header place got) taken told = AtChunk taken told place (gathered got)
Stands (stage.Data chunk left) taken told = InChunk taken told chunk left
Stands (stage.DataEnd chunk) taken told = BehindData taken told chunk
Stands (stage.Pad chunk) taken told = BeforePad taken told chunk
Stands stage.Ended taken told = IsSettled taken told FormEnd
Stands (stage.Broken kind offset) taken told = IsSettled taken told (Broken kind offset)

-- where a walker stands
abbrev pub Walking : Type 0
Walking = Stage

-- the walker took these bytes, and told these events
unfoldable pub Told : List ℕ → List Event → Walking → Type 0
Told taken told walker = Stands walker taken told

-- the walker answers so from now on, and nothing else
unfoldable pub Over : WalkStep → Stage → Type 0
Over step.FormEnd walker = walker ≡ stage.Ended
Over (step.Broken kind offset) walker = walker ≡ stage.Broken kind offset
Over (step.Form kind size) walker = ⊥
Over (step.Header id offset size) walker = ⊥
Over step.Data walker = ⊥
Over step.ChunkEnd walker = ⊥
Over step.NeedBytes walker = ⊥

-- 1 where the end of a chunk is to be told
abbrev pub due : Stage → ℕ
due stage.Start = 0
due (stage.Magic matched) = 0
due (stage.Word offset matched) = 0
due (stage.Length offset got) = 0
due (stage.Kind offset size got) = 0
due (stage.Header place got) = 0
due (stage.Data chunk left) = 0
due (stage.DataEnd chunk) = 1
due (stage.Pad chunk) = 0
due stage.Ended = 0
due (stage.Broken kind offset) = 0

-- how many events a walker can tell without a further byte
unfoldable pub pending : Stage → ℕ
pending walker = due walker

-- the end of a chunk is told where it was due
abbrev pub Spends : WalkStep → Stage → Stage → Type 0
Spends step.ChunkEnd from to = (due from ≡ 1) × (due to ≡ 0)
Spends step.NeedBytes from to = ⊤
Spends step.Data from to = ⊤
Spends step.FormEnd from to = ⊤
Spends (step.Broken kind offset) from to = ⊤
Spends (step.Form kind length) from to = ⊤
Spends (step.Header id offset length) from to = ⊤

-- fewer bytes were gathered than these
pub record IsGathering (got : Gathered) (wanted : ℕ) : Type 0 where
  pub room : length got.bytes ≡ 8
  pub short : got.count < wanted

-- a FORM of this length can stand at this offset
pub record IsForm (offset size : ℕ) : Type 0 where
  pub kind : 4 ≤ size
  pub fits : offset + 8 + size < 2 ^ 32

abbrev pub IsPlace : ChunkPlace → Type 0
IsPlace place = place.offset + place.left < 2 ^ 32

-- the chunk and what is behind it in the FORM
abbrev pub IsChunk : OpenChunk → Type 0
IsChunk chunk = chunk.offset + 8 + chunk.length + chunk.behind < 2 ^ 32

-- the counts of a place are within what they count
abbrev pub IsSound : Stage → Type 0
IsSound stage.Start = ⊤
IsSound (stage.Magic matched) = matched < 4
IsSound (stage.Word offset matched) = (offset ≤ 4) × (matched < 4)
IsSound (stage.Length offset got) = (offset ≤ 4) × IsGathering got 4
IsSound (stage.Kind offset size got) = IsForm offset size × IsGathering got 4
IsSound (stage.Header place got) = IsPlace place × IsGathering got 8
IsSound (stage.Data chunk left) = IsChunk chunk × (0 < left) × (left ≤ chunk.length)
IsSound (stage.DataEnd chunk) = IsChunk chunk
IsSound (stage.Pad chunk) = IsChunk chunk × (is_padded chunk.length chunk.behind ≡ true)
IsSound stage.Ended = ⊤
IsSound (stage.Broken kind offset) = ⊤

-- every event of the bytes was told, and they end within the FORM
pub record AllTold (bytes : List ℕ) (told : List Event) : Type 0 where
  pub all : events_of (chunks_of bytes) ≡ told
  pub more : IsOpen (chunks_of bytes).tail

abbrev pub IsDataEnd : Stage → Type 0
IsDataEnd stage.Start = ⊥
IsDataEnd (stage.Magic matched) = ⊥
IsDataEnd (stage.Word offset matched) = ⊥
IsDataEnd (stage.Length offset got) = ⊥
IsDataEnd (stage.Kind offset size got) = ⊥
IsDataEnd (stage.Header place got) = ⊥
IsDataEnd (stage.Data chunk left) = ⊥
IsDataEnd (stage.DataEnd chunk) = ⊤
IsDataEnd (stage.Pad chunk) = ⊥
IsDataEnd stage.Ended = ⊥
IsDataEnd (stage.Broken kind offset) = ⊥

-- what an answer says of the place where the walker stands then
abbrev pub Fits : WalkStep → Stage → ℕ → ℕ → Type 0
Fits step.NeedBytes place used size = used ≡ size
Fits step.Data place used size = (0 < used) × ((used ≡ size) ⊎ IsDataEnd place)
Fits step.FormEnd place used size = place ≡ stage.Ended
Fits (step.Broken kind offset) place used size = place ≡ stage.Broken kind offset
Fits (step.Form kind length) place used size = 0 < used
Fits (step.Header id offset length) place used size = 0 < used
Fits step.ChunkEnd place used size = ⊤

-- the walker needs all bytes of the piece, or all but the last one
abbrev pub quiet_until : WalkStep → ℕ → ℕ
quiet_until step.NeedBytes used = used + 1
quiet_until step.FormEnd used = used
quiet_until (step.Broken kind offset) used = used
quiet_until (step.Form kind length) used = used
quiet_until (step.Header id offset length) used = used
quiet_until step.ChunkEnd used = used
quiet_until step.Data used = 0

-- behind the FORM's end and behind a break the same is answered again, and no byte is used
abbrev pub Stays : Stage → Fed → Type 0
Stays stage.Start fed = ⊤
Stays (stage.Magic matched) fed = ⊤
Stays (stage.Word offset matched) fed = ⊤
Stays (stage.Length offset got) fed = ⊤
Stays (stage.Kind offset size got) fed = ⊤
Stays (stage.Header place got) fed = ⊤
Stays (stage.Data chunk left) fed = ⊤
Stays (stage.DataEnd chunk) fed = ⊤
Stays (stage.Pad chunk) fed = ⊤
Stays stage.Ended fed = fed ≡ record { used = 0; stage = stage.Ended; step = step.FormEnd }
Stays (stage.Broken kind offset) fed = fed ≡ record { used = 0; stage = stage.Broken kind offset; step = step.Broken kind offset }

-- the piece was fed to a walker that stood at this place
pub record Feeds (from : Stage) (piece : List ℕ) (fed : Fed) : Type 0 where
  pub sound : IsSound fed.stage
  pub within : fed.used ≤ length piece
  pub fits : Fits fed.step fed.stage fed.used (length piece)
  pub stays : Stays from fed
  pub spends : Spends fed.step from fed.stage
  pub quiet : (taken : List ℕ) (told : List Event) (fewer : ℕ) → Stands from taken told → fewer < quiet_until fed.step fed.used
      → AllTold (taken ++ take fewer piece) told
  pub told : (taken : List ℕ) (told : List Event) → Stands from taken told
      → Stands fed.stage (taken ++ take fed.used piece) (tell told fed.step (take fed.used piece))

-- where a walker stands behind a chunk's header
abbrev pub data_stage : OpenChunk → Stage
data_stage chunk = if chunk.length == 0 then stage.DataEnd chunk else stage.Data chunk chunk.length

-- the chunk that a header begins at this place
abbrev pub opened_by : ChunkPlace → ℕ → OpenChunk
opened_by place size = record { offset = place.offset; length = size; behind = place.left - 8 - size }

-- how a walker goes on from the whole header of a chunk
abbrev pub header_fed : Option FaultKind → ChunkPlace → List ℕ → ℕ → Fed
header_fed (Some kind) place header used = record { used = used; stage = stage.Broken kind place.offset; step = step.Broken kind place.offset }
header_fed None place header used =
    record {
      used = used;
      stage = data_stage (opened_by place (big_number 4 (drop 4 header)));
      step = step.Header (take 4 header) place.offset (big_number 4 (drop 4 header));
    }

abbrev pub begun : ChunkPlace → List ℕ → ℕ → Fed
begun place header used = header_fed (header_fault (take 4 header) (big_number 4 (drop 4 header)) (place.left - 8)) place header used

-- what a walker at this place answers where no more bytes come
pub record Closes (place : Stage) (answer : WalkStep) : Type 0 where
  pub all : (taken : List ℕ) (told : List Event) → Stands place taken told → Settles answer (chunks_in_all taken).tail
  pub last : IsLast answer

abbrev pub StaysClosed : Stage → WalkStep → Type 0
StaysClosed stage.Start answer = ⊤
StaysClosed (stage.Magic matched) answer = ⊤
StaysClosed (stage.Word offset matched) answer = ⊤
StaysClosed (stage.Length offset got) answer = ⊤
StaysClosed (stage.Kind offset size got) answer = ⊤
StaysClosed (stage.Header place got) answer = ⊤
StaysClosed (stage.Data chunk left) answer = ⊤
StaysClosed (stage.DataEnd chunk) answer = ⊤
StaysClosed (stage.Pad chunk) answer = ⊤
StaysClosed stage.Ended answer = answer ≡ step.FormEnd
StaysClosed (stage.Broken kind offset) answer = answer ≡ step.Broken kind offset

-- behind data, before a pad byte
abbrev pub cut_before_pad : ℕ → ℕ → WalkStep
cut_before_pad offset behind = if behind == 1 then step.FormEnd else step.Broken Truncated offset
