-- The chunks of a layer: its planes, slice by slice.
use Rattle.std.specs.Prelude.{ℕ, zero, suc, ◌+◌, ◌-◌, Bool, true, false, ◌&&◌, not, nat_le, if◌then◌else◌, List, [], ◌∷◌, ◌++◌, Option, Some, None}
use Rattle.djvu_base.specs.declared.faults.FaultKind.{FaultKind}
use Rattle.djvu_base.specs.declared.faults.FaultKind.TheVariants as fault
use Rattle.zp_table.specs.declared.rows.Row.{Row}
use Rattle.zp_decoder.specs.Chunk.{Chunk, chunk}
use Rattle.zp_decoder.specs.Decision.{Interval}
use Rattle.zp_decoder.specs.States.{fresh}
use Rattle.iw44_blocks.specs.Plane.{Plane, zero_plane}
use Rattle.iw44_slices.specs.Slice.{Course, slice_course}
use Rattle.iw44_slices.specs.Reading.{States, Reading, standing, plane_of, read_on}
use Rattle.iw44_slices.specs.declared.steps.SliceStep.{SliceStep}
use Rattle.iw44_slices.specs.declared.steps.SliceStep.TheVariants as step
use Rattle.iw44_image.specs.declared.headers.Header.{Header}
use Rattle.iw44_image.specs.declared.planes.Channel.{Channel}
use Rattle.iw44_image.specs.declared.planes.Channel.TheVariants.{Y, B, R}
use Rattle.iw44_image.specs.Header.{Opening, Short, Wrong, Opened, open_chunk, checked}

-- the coefficients and the contexts of a plane
pub record Coded : Type 0 where
  pub plane : Plane
  pub states : States

-- three planes, of which a grey image uses the first
pub record Planes : Type 0 where
  pub y : Coded
  pub b : Coded
  pub r : Coded

abbrev pub plane_for : Planes → Channel → Coded
plane_for planes Y = planes.y
plane_for planes B = planes.b
plane_for planes R = planes.r

abbrev pub with_plane : Planes → Channel → Coded → Planes
with_plane planes Y coded = record { y = coded; b = planes.b; r = planes.r }
with_plane planes B coded = record { y = planes.y; b = coded; r = planes.r }
with_plane planes R coded = record { y = planes.y; b = planes.b; r = coded }

-- every coefficient is 0, and no context has moved
abbrev pub new_coded : Header → Coded
new_coded header = record { plane = zero_plane header.width header.height; states = fresh }

abbrev pub new_planes : Header → Planes
new_planes header = record { y = new_coded header; b = new_coded header; r = new_coded header }

-- a slice of a plane
pub record Task : Type 0 where
  pub channel : Channel
  pub slice : ℕ

abbrev pub task : Channel → ℕ → Task
task channel slice = record { channel = channel; slice = slice }

-- a slice of the image does that slice of y, and an earlier one of b and then of r, once chroma has begun
abbrev pub has_chroma : Header → ℕ → Bool
has_chroma header slice = not header.grey && nat_le header.delay slice

abbrev pub chroma_tasks : Header → ℕ → List Task
chroma_tasks header slice = if has_chroma header slice then task B (slice - header.delay) ∷ task R (slice - header.delay) ∷ [] else []

abbrev pub slice_tasks : Header → ℕ → List Task
slice_tasks header slice = task Y slice ∷ chroma_tasks header slice

-- so many slices from one on
abbrev pub tasks : Header → ℕ → ℕ → List Task
tasks header zero from = []
tasks header (suc count) from = slice_tasks header from ++ tasks header count (from + 1)

-- what was read of a layer: its header once it is known, its planes, how many slices and chunks are done, and the decisions of all chunks
pub record Layer : Type 0 where
  pub header : Option Header
  pub planes : Planes
  pub slices : ℕ
  pub chunks : ℕ
  pub decisions : ℕ

-- how a layer's chunks answer: all are done, more bytes of the last one are needed, or one is refused
pub data Answer : Type 0 where
  Done : Answer
  Need : Answer
  Fault : FaultKind → Answer

pub record LayerReading : Type 0 where
  pub answer : Answer
  pub layer : Layer

abbrev pub ends : Answer → Layer → LayerReading
ends answer layer = record { answer = answer; layer = layer }

-- the planes and the decisions, after what was read of a slice
abbrev pub coded_after : Reading → Coded
coded_after reading = record { plane = plane_of reading.left; states = reading.at.states }

abbrev pub layer_after : Layer → Channel → Reading → Layer
layer_after layer channel reading = record {
  header = layer.header;
  planes = with_plane layer.planes channel (coded_after reading);
  slices = layer.slices;
  chunks = layer.chunks;
  decisions = reading.at.decisions;
}

-- after a slice of a plane: the next task comes, from where the decoder stands; or the chunk ends here
abbrev pub after_slice : SliceStep → Layer → Option Interval → (Layer → Option Interval → LayerReading) → LayerReading
after_slice step.SliceEnd layer place rest = rest layer place
after_slice step.NeedBytes layer place rest = ends Need layer
after_slice step.Exhausted layer place rest = ends (Fault fault.ZpExhausted) layer

-- what is left of a slice of a plane
abbrev pub course_reading : Chunk → Channel → Course → Layer → Option Interval → Reading
course_reading from channel course layer place = read_on from course (standing (plane_for layer.planes channel).states place layer.decisions)

abbrev pub task_reading : Chunk → Task → Layer → Option Interval → Reading
task_reading from next layer place = course_reading from next.channel (slice_course next.slice (plane_for layer.planes next.channel).plane) layer place

-- a chunk is done once its slices are and all its data came
abbrev pub chunk_end : Bool → ℕ → Layer → LayerReading
chunk_end true slices layer =
    ends Done (record { header = layer.header; planes = layer.planes; slices = layer.slices + slices; chunks = layer.chunks + 1; decisions = layer.decisions })
chunk_end false slices layer = ends Need layer

abbrev pub read_tasks : Chunk → ℕ → List Task → Layer → Option Interval → LayerReading
read_tasks from slices [] layer place = chunk_end from.ended slices layer
read_tasks from slices (next ∷ later) layer place =
    after_slice (task_reading from next layer place).answer (layer_after layer next.channel (task_reading from next layer place))
    (task_reading from next layer place).at.place
    (λ after at. read_tasks from slices later after at)

-- the first header makes the planes
abbrev pub with_header : Option Header → Layer → Header → Layer
with_header None layer header =
    record { header = Some header; planes = new_planes header; slices = layer.slices; chunks = layer.chunks; decisions = layer.decisions }
with_header (Some known) layer header = layer

-- the decoder starts anew in each chunk; coefficients and contexts go on
abbrev pub read_opened : List Row → Bool → Opening → Layer → LayerReading
read_opened table ended Short layer = ends Need layer
read_opened table ended (Wrong kind) layer = ends (Fault kind) layer
read_opened table ended (Opened header slices zp) layer =
    read_tasks (chunk table zp ended) slices (tasks header slices layer.slices) (with_header layer.header layer header) None

-- a chunk's data, which are all of it or not
pub record Data : Type 0 where
  pub bytes : List ℕ
  pub ended : Bool

abbrev pub data_of : List ℕ → Bool → Data
data_of bytes ended = record { bytes = bytes; ended = ended }

-- which layers are taken: up to an area in pixels, and with a width and a height that pass a test
pub record Allowed : Type 0 where
  pub area : ℕ
  pub fits : ℕ → ℕ → Bool

-- every size up to an area
abbrev pub any_size : ℕ → Allowed
any_size area = record { area = area; fits = λ width height. true }

abbrev pub opening_of : Allowed → Data → Layer → Opening
opening_of allowed given layer = checked allowed.fits layer.header (open_chunk allowed.area layer.chunks layer.header given.bytes given.ended)

abbrev pub read_chunk : List Row → Allowed → Data → Layer → LayerReading
read_chunk table allowed given layer = read_opened table given.ended (opening_of allowed given layer) layer

abbrev pub after_chunk : Answer → Layer → (Layer → LayerReading) → LayerReading
after_chunk Done layer rest = rest layer
after_chunk Need layer rest = ends Need layer
after_chunk (Fault kind) layer rest = ends (Fault kind) layer

-- the chunks of a layer in order, each from where the one before ended
abbrev pub read_chunks : List Row → Allowed → List Data → Layer → LayerReading
read_chunks table allowed [] layer = ends Done layer
read_chunks table allowed (given ∷ later) layer =
    after_chunk (read_chunk table allowed given layer).answer (read_chunk table allowed given layer).layer (λ after. read_chunks table allowed later after)

-- a layer of which nothing was read; its size isn't known
abbrev pub no_header : Header
no_header = record { width = 0; height = 0; grey = true; half = false; delay = 0 }

abbrev pub header_or : Option Header → Header
header_or None = no_header
header_or (Some header) = header

abbrev pub new_layer : Layer
new_layer = record { header = None; planes = new_planes no_header; slices = 0; chunks = 0; decisions = 0 }

-- a layer, with a state table, out of its chunks
abbrev pub read_layer : List Row → Allowed → List Data → LayerReading
read_layer table allowed chunks = read_chunks table allowed chunks new_layer
