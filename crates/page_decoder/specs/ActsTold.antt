-- The acts of a file by its events: what a walker told so far says of the acts to come.
use Rattle.std.specs.Prelude.{ℕ, ◌≡◌, ◌++◌, Bool, true, false, List, [], ◌∷◌, Option, Some, None}
use Rattle.iff_chunks.specs.Events.{Event, Begun, Header, Data, ChunkEnd}
use Rattle.iff_chunks.specs.declared.walker.WalkStep.{WalkStep}
use Rattle.iff_chunks.specs.declared.walker.WalkStep.TheVariants as step
use Rattle.iw44_image.specs.Layer.{data_of}
use Rattle.page_decoder.specs.Headers.{Head}
use Rattle.page_decoder.specs.Acts.{Act, Kind, Reads}

-- a chunk whose data are arriving
pub record OpenChunk : Type 0 where
  pub head : Head
  pub bytes : List ℕ

-- the complete acts that were told, and the chunk behind them, of which no end was told
pub record ActsTold : Type 0 where
  pub acts : List Act
  pub chunk : Option OpenChunk

abbrev pub nothing_told : ActsTold
nothing_told = record { acts = []; chunk = None }

abbrev pub acts_so : Bool → Option OpenChunk → List Act
acts_so ended None = []
acts_so ended (Some chunk) = Reads chunk.head (data_of chunk.bytes ended) ∷ []

-- with the act of the chunk that is open
abbrev pub all_told : ActsTold → List Act
all_told so_far = so_far.acts ++ acts_so false so_far.chunk

abbrev pub with_bytes : List ℕ → Option OpenChunk → Option OpenChunk
with_bytes bytes None = None
with_bytes bytes (Some chunk) = Some (record { head = chunk.head; bytes = chunk.bytes ++ bytes })

abbrev pub begun_at : Head → Option OpenChunk
begun_at head = Some (record { head = head; bytes = [] })

abbrev pub after_event : ActsTold → Event → ActsTold
after_event so_far (Begun kind size) = record { acts = all_told so_far ++ Kind kind ∷ []; chunk = None }
after_event so_far (Header id offset size) = record { acts = all_told so_far; chunk = begun_at (record { id = id; offset = offset; size = size }) }
after_event so_far (Data bytes) = record { acts = so_far.acts; chunk = with_bytes bytes so_far.chunk }
after_event so_far ChunkEnd = record { acts = so_far.acts ++ acts_so true so_far.chunk; chunk = None }

abbrev pub after_events : ActsTold → List Event → ActsTold
after_events so_far [] = so_far
after_events so_far (event ∷ events) = after_events (after_event so_far event) events

-- one more answer of the walker, for which these bytes were used
abbrev pub after_step : ActsTold → WalkStep → List ℕ → ActsTold
after_step so_far (step.Form kind size) used = after_event so_far (Begun kind size)
after_step so_far (step.Header id offset size) used = after_event so_far (Header id offset size)
after_step so_far step.Data used = after_event so_far (Data used)
after_step so_far step.ChunkEnd used = after_event so_far ChunkEnd
after_step so_far step.NeedBytes used = so_far
after_step so_far step.FormEnd used = so_far
after_step so_far (step.Broken kind offset) used = so_far

-- the acts of a file go on from those that were told. The data of an open chunk may be more, and all that there are
abbrev pub GoOnFrom : List Act → Option OpenChunk → List Act → Type 0
GoOnFrom acts None all = (others : List Act) × (all ≡ acts ++ others)
GoOnFrom acts (Some chunk) all = (rest : List ℕ) × (ended : Bool) × (others : List Act)
    × (all ≡ acts ++ Reads chunk.head (data_of (chunk.bytes ++ rest) ended) ∷ others)
