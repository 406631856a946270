-- The events of a file's chunks, in order, and what a walker told of them.
use Rattle.std.specs.Prelude.{ℕ, Bool, true, false, ◌≡◌, ◌<◌, ◌++◌, List, [], ◌∷◌, Option, Some, None, flat_map, ⊤}
use Rattle.iff_chunks.specs.declared.walker.WalkStep.{WalkStep}
use Rattle.iff_chunks.specs.declared.walker.WalkStep.TheVariants as step
use Rattle.iff_chunks.specs.Chunks.{Form, Chunk, Chunks, Tail, InHead, InHeader, InData, InPad, FormEnd, Broken}

pub data Event : Type 0 where
  Begun : List ℕ → ℕ → Event
  Header : List ℕ → ℕ → ℕ → Event
  -- as many of the chunk's data as arrived
  Data : List ℕ → Event
  ChunkEnd : Event

abbrev pub form_events : Option Form → List Event
form_events None = []
form_events (Some form) = Begun form.kind form.size ∷ []

abbrev pub data_events : List ℕ → List Event
data_events [] = []
data_events (byte ∷ bytes) = Data (byte ∷ bytes) ∷ []

-- of a chunk whose data are still arriving
abbrev pub open_events : Chunk → List Event
open_events chunk = Header chunk.id chunk.offset chunk.size ∷ data_events chunk.bytes

abbrev pub chunk_events : Chunk → List Event
chunk_events chunk = open_events chunk ++ ChunkEnd ∷ []

abbrev pub tail_events : Tail → List Event
tail_events InHead = []
tail_events (InHeader offset bytes) = []
tail_events (InData chunk) = open_events chunk
tail_events (InPad offset is_last) = []
tail_events FormEnd = []
tail_events (Broken kind offset) = []

abbrev pub events_of : Chunks → List Event
events_of chunks = form_events chunks.form ++ (flat_map chunk_events chunks.whole ++ tail_events chunks.tail)

-- the bytes go on the data that were told last, or begin them
abbrev pub with_data : List Event → List ℕ → List Event
with_data [] bytes = Data bytes ∷ []
with_data (Data told ∷ []) bytes = Data (told ++ bytes) ∷ []
with_data (event ∷ events) bytes = event ∷ with_data events bytes

-- what was told after one more answer, for which these bytes were used
abbrev pub tell : List Event → WalkStep → List ℕ → List Event
tell told (step.Form kind size) used = told ++ Begun kind size ∷ []
tell told (step.Header id offset size) used = told ++ Header id offset size ∷ []
tell told step.Data used = with_data told used
tell told step.ChunkEnd used = told ++ ChunkEnd ∷ []
tell told step.NeedBytes used = told
tell told step.FormEnd used = told
tell told (step.Broken kind offset) used = told

-- the events go on from what was told, whose last data may be a front of theirs
abbrev pub GoesOn : List Event → List Event → Type 0
GoesOn [] events = ⊤
GoesOn (Data told ∷ []) (Data bytes ∷ events) = (rest : List ℕ) × (bytes ≡ told ++ rest)
GoesOn (event ∷ told) (first ∷ events) = (event ≡ first) × GoesOn told events
GoesOn (event ∷ told) [] = ⊥

-- the bytes end within the FORM
abbrev pub IsOpen : Tail → Type 0
IsOpen InHead = ⊤
IsOpen (InHeader offset bytes) = ⊤
IsOpen (InData chunk) = ⊤
IsOpen (InPad offset is_last) = ⊤
IsOpen FormEnd = ⊥
IsOpen (Broken kind offset) = ⊥

-- where this answer is the last of the file, every event was told, and the file's bytes end so
abbrev pub Ends : WalkStep → List Event → Chunks → Type 0
Ends step.FormEnd told chunks = (events_of chunks ≡ told) × (chunks.tail ≡ FormEnd)
Ends (step.Broken kind offset) told chunks = (events_of chunks ≡ told) × (chunks.tail ≡ Broken kind offset)
Ends (step.Form kind size) told chunks = ⊤
Ends (step.Header id offset size) told chunks = ⊤
Ends step.Data told chunks = ⊤
Ends step.ChunkEnd told chunks = ⊤
Ends step.NeedBytes told chunks = ⊤

-- what is answered of a file whose bytes ended so
abbrev pub Settles : WalkStep → Tail → Type 0
Settles step.FormEnd tail = tail ≡ FormEnd
Settles (step.Broken kind offset) tail = tail ≡ Broken kind offset
Settles (step.Form kind size) tail = ⊥
Settles (step.Header id offset size) tail = ⊥
Settles step.Data tail = ⊥
Settles step.ChunkEnd tail = ⊥
Settles step.NeedBytes tail = ⊥

-- nothing else is answered from then on
abbrev pub IsLast : WalkStep → Type 0
IsLast step.FormEnd = ⊤
IsLast (step.Broken kind offset) = ⊤
IsLast (step.Form kind size) = ⊥
IsLast (step.Header id offset size) = ⊥
IsLast step.Data = ⊥
IsLast step.ChunkEnd = ⊥
IsLast step.NeedBytes = ⊥

-- a FORM, a header and data take at least one byte
abbrev pub Takes : WalkStep → ℕ → Type 0
Takes (step.Form kind size) used = 0 < used
Takes (step.Header id offset size) used = 0 < used
Takes step.Data used = 0 < used
Takes step.ChunkEnd used = ⊤
Takes step.NeedBytes used = ⊤
Takes step.FormEnd used = ⊤
Takes (step.Broken kind offset) used = ⊤

-- the answer tells an event
abbrev pub is_event : WalkStep → Bool
is_event (step.Form kind size) = true
is_event (step.Header id offset size) = true
is_event step.Data = true
is_event step.ChunkEnd = true
is_event step.NeedBytes = false
is_event step.FormEnd = false
is_event (step.Broken kind offset) = false
