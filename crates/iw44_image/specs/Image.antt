-- What contracts see of an image, and what it answers.
use Rattle.std.specs.Prelude.{◌≡◌, ℕ, ◌+◌, ◌-◌, ◌≤◌, ◌==◌, Bool, true, List, [], ◌∷◌, ◌++◌, Option, Some, None}
use Rattle.std.specs.Prelude.{IsSome}
use Rattle.djvu_base.specs.Meter.{TicksExactly}
use Rattle.djvu_base.specs.Picture.{Picture}
use Rattle.djvu_base.specs.declared.faults.FaultKind.{FaultKind}
use Rattle.zp_table.specs.declared.rows.Row.{Row}
use Rattle.zp_decoder.specs.Chunk.{Chunk, chunk}
use Rattle.zp_decoder.specs.Decision.{Interval}
use Rattle.zp_decoder.specs.Decoder.{Decoder, Fed}
use Rattle.iw44_blocks.specs.Plane.{zero_plane}
use Rattle.iw44_slices.specs.Slice.{Course, slice_course}
use Rattle.iw44_image.specs.declared.headers.Header.{Header}
use Rattle.iw44_image.specs.declared.planes.Channel.{Channel}
use Rattle.iw44_image.specs.declared.planes.Channel.TheVariants.{Y, B, R}
use Rattle.iw44_image.specs.declared.planes.PlaneReaders.{PlaneReaders}
use Rattle.iw44_image.specs.declared.steps.IwStep.{IwStep}
use Rattle.iw44_image.specs.declared.steps.IwStep.TheVariants as step
use Rattle.iw44_image.specs.declared.steps.Stage.{Stage}
use Rattle.iw44_image.specs.declared.steps.Stage.TheVariants as stage
use Rattle.iw44_image.specs.Header.{Opened, open_chunk}
use Rattle.iw44_image.specs.Layer.{Planes, Task, Layer, LayerReading, Done, Need, Fault, ends, any_size, data_of, read_chunk, header_or}
use Rattle.iw44_image.specs.Layer.{new_planes, with_header, task, chroma_tasks, tasks, read_tasks, layer_after, course_reading, after_slice, chunk_end}
use Rattle.iw44_image.specs.Samples.{components_of, picture}
use Rattle.iw44_image.specs.Readers.{planes_of, Placed}
use Rattle.iw44_image.specs.Offering.{Fits}

-- the largest area that is taken; the layer's header, once its size was told; and how many bytes of the open chunk are still
-- to come. Contracts speak of the rest by the words below
pub record Image : Type 0 where
  pub limit : ℕ
  pub header : Option Header
  pub to_come : Option ℕ
  pub planes : Option PlaneReaders
  pub zp : Decoder
  pub left : List ℕ
  pub chunks : ℕ
  pub slices : ℕ
  pub stage : Stage

abbrev pub image_by : ℕ → Option Header → Option ℕ → Option PlaneReaders → Decoder → List ℕ → ℕ → ℕ → Stage → Image
image_by limit header to_come planes zp left chunks slices at =
    record { limit = limit; header = header; to_come = to_come; planes = planes; zp = zp; left = left; chunks = chunks; slices = slices; stage = at }

abbrev pub planes_in : Header → Option PlaneReaders → Planes
planes_in header None = new_planes header
planes_in header (Some planes) = planes_of header planes

-- what stays while a chunk is read
pub record Frame : Type 0 where
  pub table : List Row
  pub limit : ℕ
  pub header : Option Header
  pub to_come : Option ℕ
  pub chunks : ℕ
  pub slices : ℕ

abbrev pub frame_by : List Row → ℕ → Option Header → Option ℕ → ℕ → ℕ → Frame
frame_by table limit header to_come chunks slices =
    record { table = table; limit = limit; header = header; to_come = to_come; chunks = chunks; slices = slices }

abbrev pub frame_of : Image → Frame
frame_of image = frame_by image.zp.table image.limit image.header image.to_come image.chunks image.slices

abbrev pub header_in : Frame → Header
header_in frame = header_or frame.header

abbrev pub layer_in : Frame → Option PlaneReaders → ℕ → Layer
layer_in frame planes decisions = record {
  header = frame.header;
  planes = planes_in (header_in frame) planes;
  slices = frame.slices;
  chunks = frame.chunks;
  decisions = decisions;
}

-- what was read of the layer so far, with so many decisions
abbrev pub layer_of : Image → ℕ → Layer
layer_of image decisions = layer_in (frame_of image) image.planes decisions

-- the header; without one its sizes are 0
abbrev pub header_of : Image → Header
header_of image = header_or image.header

-- the picture of the coefficients so far
abbrev pub picture_of : Image → Picture
picture_of image = picture (header_of image) (components_of (planes_in (header_of image) image.planes))

abbrev pub refused_by : Stage → Option FaultKind
refused_by stage.Header = None
refused_by (stage.Slice channel done count) = None
refused_by (stage.Rest count) = None
refused_by (stage.Refused kind) = Some kind

-- the refusal that stands
abbrev pub refused : Image → Option FaultKind
refused image = refused_by image.stage

-- whether all data of the open chunk came
abbrev pub is_whole : Option ℕ → Bool
is_whole None = true
is_whole (Some left) = left == 0

abbrev pub reading_in : Frame → List ℕ → Layer → LayerReading
reading_in frame bytes layer = read_chunk frame.table (any_size frame.limit) (data_of bytes (is_whole frame.to_come)) layer

-- the reading of the open chunk, of which these bytes came, behind chunks that left this layer
abbrev pub reading_of : Image → List ℕ → Layer → LayerReading
reading_of image bytes layer = reading_in (frame_of image) bytes layer

-- ---- how an image stands to what it was given

-- what is left of a slice of a plane, and then further slices
abbrev pub read_from : Chunk → ℕ → Channel → Course → List Task → Layer → Option Interval → LayerReading
read_from from slices channel course later layer place =
    after_slice (course_reading from channel course layer place).answer (layer_after layer channel (course_reading from channel course layer place))
    (course_reading from channel course layer place).at.place (λ after at. read_tasks from slices later after at)

-- the tasks behind a plane's one in a slice of the image
abbrev pub later_tasks : Header → Channel → ℕ → List Task → List Task
later_tasks header Y slice rest = chroma_tasks header slice ++ rest
later_tasks header B slice rest = task R (slice - header.delay) ∷ rest
later_tasks header R slice rest = rest

-- all slices of a chunk, with this ZP data
abbrev pub read_slices : Frame → Layer → ℕ → List ℕ → Bool → LayerReading
read_slices frame layer count payload ended =
    read_tasks (chunk frame.table payload ended) count (tasks (header_in frame) count layer.slices) (with_header layer.header layer (header_in frame)) None

-- the header of the open chunk was read
pub record Begun (frame : Frame) (layer : Layer) (bytes : List ℕ) (count : ℕ) (zp : List ℕ) : Type 0 where
  pub known : frame.header ≡ Some (header_in frame)
  pub opened : (ended : Bool) → open_chunk frame.limit layer.chunks layer.header bytes ended ≡ Opened (header_in frame) count zp

abbrev pub ArePlaced : Header → Channel → ℕ → Course → Option PlaneReaders → Type 0
ArePlaced header channel slice course None = (channel ≡ Y) × ((slice ≡ 0) × (course ≡ slice_course 0 (zero_plane header.width header.height)))
ArePlaced header channel slice course (Some planes) = Placed header channel slice course planes

-- in a slice of the chunk, of which so many are done: whatever bytes may follow those taken, what is read from the chunk's
-- start is what is read from here
pub record InSlice (frame : Frame) (layer : Layer) (bytes : List ℕ) (decisions : ℕ) (planes : Option PlaneReaders) (zp : Decoder) (left : List ℕ)
    (channel : Channel) (done count : ℕ) : Type 0 where
  pub taken : List ℕ
  pub place : Option Interval
  pub course : Course
  pub slice : ℕ
  pub later : ℕ
  pub begun : Begun frame layer bytes count (taken ++ left)
  pub fed : Fed taken place zp
  pub slice_is : slice ≡ frame.slices + done
  pub count_is : count ≡ done + 1 + later
  pub placed : ArePlaced (header_in frame) channel slice course planes
  pub goes : (more : List ℕ) (ended : Bool) → Fits zp.ended more ended → read_slices frame layer count (taken ++ more) ended ≡
      read_from (chunk frame.table (taken ++ more) ended) count channel course
      (later_tasks (header_in frame) channel slice (tasks (header_in frame) later (slice + 1))) (layer_in frame planes decisions) place

-- the planes stand before their next slices
abbrev pub AreNextAt : Header → ℕ → Option PlaneReaders → Type 0
AreNextAt header slice None = slice ≡ 0
AreNextAt header slice (Some planes) = Placed header Y slice (slice_course slice planes.y.coefficients) planes

-- all slices of the chunk are done; bytes that follow aren't kept
pub record InRest (frame : Frame) (layer : Layer) (bytes : List ℕ) (decisions : ℕ) (planes : Option PlaneReaders) (zp : Decoder) (count : ℕ) : Type 0 where
  pub taken : List ℕ
  pub rest : List ℕ
  pub begun : Begun frame layer bytes count (taken ++ rest)
  pub fits : Fits zp.ended rest (is_whole frame.to_come)
  pub placed : AreNextAt (header_in frame) (frame.slices + count) planes
  pub goes : (more : List ℕ) (ended : Bool) → Fits zp.ended more ended → read_slices frame layer count (taken ++ more) ended ≡ chunk_end ended count
      (layer_in frame planes decisions)

-- before the header of a chunk
pub record InHeader (frame : Frame) (layer : Layer) (bytes : List ℕ) (decisions : ℕ) (planes : Option PlaneReaders) (left : List ℕ) : Type 0 where
  pub layer_is : layer ≡ layer_in frame planes decisions
  pub left_is : left ≡ bytes
  pub placed : AreNextAt (header_in frame) frame.slices planes

abbrev pub HoldsAt : Stage → Frame → Layer → List ℕ → ℕ → Option PlaneReaders → Decoder → List ℕ → Type 0
HoldsAt stage.Header frame layer bytes decisions planes zp left = InHeader frame layer bytes decisions planes left
HoldsAt (stage.Slice channel done count) frame layer bytes decisions planes zp left = InSlice frame layer bytes decisions planes zp left channel done count
HoldsAt (stage.Rest count) frame layer bytes decisions planes zp left = InRest frame layer bytes decisions planes zp count
HoldsAt (stage.Refused kind) frame layer bytes decisions planes zp left = reading_in frame bytes layer ≡ ends (Fault kind) (layer_in frame planes decisions)

-- earlier chunks left this layer, these bytes of the open chunk came, and so many decisions were read, those of earlier chunks
-- included
unfoldable pub Holds : Layer → List ℕ → ℕ → Image → Type 0
Holds layer bytes decisions image = HoldsAt image.stage (frame_of image) layer bytes decisions image.planes image.zp image.left

-- ---- answers

-- where the size is told, nothing behind the header was read
pub record TellsSize (width height : ℕ) (layer : Layer) (bytes : List ℕ) (decisions : ℕ) (old new : Image) : Type 0 where
  pub first : old.header ≡ None
  pub told : IsSome new.header
  pub known : new.header ≡ (reading_of old bytes layer).layer.header
  pub none_read : decisions ≡ layer.decisions
  pub width_is : width ≡ (header_of new).width
  pub height_is : height ≡ (header_of new).height
  pub planes : new.planes ≡ None
  pub holds : Holds layer bytes decisions new

-- an answer, after which so many decisions were read: that of the definition's reading, with all that was read
abbrev pub Answers : IwStep → Layer → List ℕ → ℕ → Image → Image → Type 0
Answers (step.Sized width height) layer bytes decisions old new = TellsSize width height layer bytes decisions old new
Answers step.ChunkDone layer bytes decisions old new = (reading_of old bytes layer ≡ ends Done (layer_of new decisions)) × Holds
    (layer_of new decisions) [] decisions new
Answers step.NeedBytes layer bytes decisions old new = (reading_of old bytes layer ≡ ends Need (layer_of new decisions)) × Holds layer bytes decisions new
Answers (step.Refused kind) layer bytes decisions old new = (reading_of old bytes layer ≡ ends (Fault kind)
    (layer_of new decisions)) × Holds layer bytes decisions new
Answers step.OutOfMemory layer bytes decisions old new = Holds layer bytes decisions new

-- a step may have no answer yet
abbrev pub Steps : Option IwStep → Layer → List ℕ → ℕ → Image → Image → Type 0
Steps None layer bytes decisions old new = Holds layer bytes decisions new
Steps (Some answer) layer bytes decisions old new = Answers answer layer bytes decisions old new

-- decisions rose, and the meter with them
pub record TicksTo (before after : ℕ) (old new : ℕ) : Type 0 where
  pub more : before ≤ after
  pub ticks : TicksExactly (after - before) old new

-- a size was told: no header was known before, and one of this size is now
pub record HasSize (width height : ℕ) (old new : Option Header) : Type 0 where
  pub first : old ≡ None
  pub header : Header
  pub known : new ≡ Some header
  pub width_is : header.width ≡ width
  pub height_is : header.height ≡ height

-- a chunk is open until it is done
abbrev pub open_after : IwStep → Option ℕ → Option ℕ
open_after (step.Sized width height) left = left
open_after step.ChunkDone left = None
open_after step.NeedBytes left = left
open_after (step.Refused kind) left = left
open_after step.OutOfMemory left = left
