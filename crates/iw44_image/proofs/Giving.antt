-- What a plane's reader gives to the reading of a chunk.
use Rattle.std.proofs.Common.{◌≡◌, ℕ, ◌≤◌, List, ◌++◌, length, Option, Some, refl, sym}
use Rattle.std.proofs.Common.{◌∙◌, subst}
use Rattle.std.specs.Prelude.{IsSome}
use Rattle.zp_table.specs.declared.rows.Row.{Row}
use Rattle.zp_table.specs.Rows.{IsTable}
use Rattle.zp_decoder.specs.Chunk.{chunk, IsReady}
use Rattle.zp_decoder.specs.Decision.{Interval}
use Rattle.zp_decoder.specs.Decoder.{Decoder, Fed}
use Rattle.zp_decoder.specs.Runs.{IsStanding}
use Rattle.iw44_slices.specs.Slice.{Course}
use Rattle.iw44_slices.specs.Reading.{standing}
use Rattle.iw44_slices.specs.declared.steps.SliceStep.{SliceStep}
use Rattle.iw44_slices.proofs.Lemmas.{leaves_room}
use Rattle.iw44_image.specs.declared.headers.Header.{Header}
use Rattle.iw44_image.specs.declared.planes.Channel.{Channel}
use Rattle.iw44_image.specs.declared.planes.PlaneReaders.{PlaneReaders}
use Rattle.iw44_image.specs.declared.steps.Stage.{Stage}
use Rattle.iw44_image.specs.declared.steps.Stage.TheVariants as stage
use Rattle.iw44_image.specs.Layer.{Layer, chunk_end, plane_for}
use Rattle.iw44_image.specs.Readers.{AreSound, planes_of, Placed, plane_reading, HaveRead}
use Rattle.iw44_image.specs.Image.{Image, Frame, frame_by, header_in, layer_in, is_whole, reading_in, InSlice, InRest, InHeader, HoldsAt}
use Rattle.iw44_image.specs.Keeping.{ArePlanesSound, IsInRest, IsAt, IsKept}
use Rattle.iw44_image.proofs.Growing.{table_some}
use Rattle.iw44_image.proofs.Soundness.{sound_in, states_below}
use Rattle.iw44_image.proofs.Stepping.{Gave, begun_reading}

-- what `PlaneReaders::advance` promises
abbrev pub Reads : Channel → PlaneReaders → PlaneReaders → Decoder → Decoder → SliceStep → Type 0
Reads channel old new zp after answer = (header : Header) (slice decisions : ℕ) (course : Course) (payload : List ℕ) (place : Option Interval) →
    AreSound (length zp.table) header old → Placed header channel slice course old → Fed payload place zp →
    HaveRead header channel slice (plane_reading header channel course decisions payload place zp old) payload old new after answer

pub header_sound : (frame : Frame) (layer : Layer) (bytes left : List ℕ) (decisions : ℕ) (planes : PlaneReaders) (zp : Decoder) (channel : Channel)
    (done count : ℕ) →
    InSlice frame layer bytes decisions (Some planes) zp left channel done count → ArePlanesSound (length zp.table) frame.header (Some planes) →
    AreSound (length zp.table) (header_in frame) planes
header_sound frame layer bytes left decisions planes zp channel done count here sound = sound_in (length zp.table) frame.header
    (header_in frame) planes here.begun.known sound

pub gives : (frame : Frame) (layer : Layer) (bytes left : List ℕ) (decisions : ℕ) (old new : PlaneReaders) (zp after : Decoder) (channel : Channel)
    (done count : ℕ) (answer : SliceStep)
    (here : InSlice frame layer bytes decisions (Some old) zp left channel done count) → IsTable zp.table → zp.table ≡ frame.table → ArePlanesSound
    (length zp.table) frame.header (Some old) →
    ((payload : List ℕ) (place : Option Interval) → Fed payload place zp → IsStanding (length payload) place) → Reads channel old new zp after answer →
    after.ended ≡ zp.ended →
    Gave frame channel here.slice here.course decisions here.taken here.place old new zp after
    (plane_reading (header_in frame) channel here.course decisions here.taken here.place zp old) answer
gives frame layer bytes left decisions old new zp after channel done count answer here is table sound stands reads ended =
    let all : AreSound (length zp.table) (header_in frame) old = header_sound frame layer bytes left decisions old zp channel done count here sound in
    let ready : IsReady (chunk zp.table here.taken zp.ended) (plane_for (planes_of (header_in frame) old) channel).states here.place = record {
      table = is;
      below = states_below (length zp.table) (header_in frame) channel old (table_some zp.table is) all;
      standing = stands here.taken here.place here.fed;
    } in
    record {
      reading_is = refl;
      read = reads (header_in frame) here.slice decisions here.course here.taken here.place all here.placed here.fed;
      ready = subst (λ (t : List Row). IsReady (chunk t here.taken zp.ended)
          (plane_for (planes_of (header_in frame) old) channel).states here.place) table ready;
      table = table;
      told = ended;
    }

-- decisions rise
pub more_read : (frame : Frame) (channel : Channel) (course : Course) (decisions : ℕ) (taken : List ℕ) (place : Option Interval) (old : PlaneReaders)
    (zp : Decoder) → zp.table ≡ frame.table →
    IsReady (chunk frame.table taken zp.ended) (plane_for (planes_of (header_in frame) old) channel).states place →
    decisions ≤ (plane_reading (header_in frame) channel course decisions taken place zp old).at.decisions
more_read frame channel course decisions taken place old zp table ready =
    let here = subst (λ (t : List Row). IsReady (chunk t taken zp.ended) (plane_for (planes_of (header_in frame) old) channel).states place)
    (sym table) ready in
    (leaves_room (chunk zp.table taken zp.ended) course (standing (plane_for (planes_of (header_in frame) old) channel).states place decisions) here).more

-- ---- behind all slices of a chunk

pub rest_reads : (frame : Frame) (layer : Layer) (bytes : List ℕ) (decisions : ℕ) (planes : Option PlaneReaders) (zp : Decoder) (count : ℕ) →
    InRest frame layer bytes decisions planes zp count →
    reading_in frame bytes layer ≡ chunk_end (is_whole frame.to_come) count (layer_in frame planes decisions)
rest_reads frame layer bytes decisions planes zp count here =
    begun_reading frame layer bytes (here.taken ++ here.rest) count here.begun ∙ here.goes here.rest (is_whole frame.to_come) here.fits

-- ---- before a chunk

-- with so many bytes of the open chunk to come
abbrev pub frame_with : Frame → Option ℕ → Frame
frame_with frame to_come = frame_by frame.table frame.limit frame.header to_come frame.chunks frame.slices

pub header_moves : (frame : Frame) (to_come : Option ℕ) (layer : Layer) (bytes : List ℕ) (decisions : ℕ) (planes : Option PlaneReaders) (zp : Decoder)
    (left : List ℕ) (at : Stage) → at ≡ stage.Header →
    HoldsAt at frame layer bytes decisions planes zp left →
    HoldsAt at (frame_with frame to_come) layer bytes decisions planes zp left
header_moves frame to_come layer bytes decisions planes zp left at is holds =
    let there : Frame = frame_with frame to_come in
    let here : InHeader frame layer bytes decisions planes left = subst (λ (s : Stage). HoldsAt s frame layer bytes decisions planes zp left) is holds in
    let moved : InHeader there layer bytes decisions planes left = record { layer_is = here.layer_is; left_is = here.left_is; placed = here.placed } in
    subst (λ (s : Stage). HoldsAt s there layer bytes decisions planes zp left) (sym is) moved

-- behind all slices the header is known
pub rest_known : (image : Image) (count : ℕ) → IsKept image → image.stage ≡ stage.Rest count → IsSome image.header
rest_known image count kept at = let rest : IsInRest image count = subst (λ (s : Stage). IsAt s image) at kept.at in rest.known
