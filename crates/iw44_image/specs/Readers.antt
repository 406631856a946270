-- For the code's own functions: planes that are kept, and the readers of their slices.
use Rattle.std.specs.Prelude.{◌≡◌, ◌≢◌, ℕ, ◌+◌, ◌-◌, ⊤, true, false, List, Option, Some, None}
use Rattle.zp_decoder.specs.Chunk.{chunk}
use Rattle.zp_decoder.specs.Decision.{Interval}
use Rattle.zp_decoder.specs.Decoder.{Decoder, Fed}
use Rattle.zp_decoder.specs.States.{AreBelow, fresh}
use Rattle.iw44_blocks.specs.Plane.{IsSmall, zero_plane}
use Rattle.iw44_slices.specs.Slice.{Course, slice_course}
use Rattle.iw44_slices.specs.Reading.{Reading, standing, plane_of, read_on}
use Rattle.iw44_slices.specs.Reader.{Stands, StandsSomewhere, states_of}
use Rattle.iw44_slices.specs.declared.steps.SliceStep.{SliceStep}
use Rattle.iw44_slices.specs.declared.steps.SliceStep.TheVariants as step
use Rattle.iw44_image.specs.declared.headers.Header.{Header}
use Rattle.iw44_image.specs.declared.planes.Channel.{Channel}
use Rattle.iw44_image.specs.declared.planes.Channel.TheVariants.{Y, B, R}
use Rattle.iw44_image.specs.declared.planes.PlaneReader.{PlaneReader}
use Rattle.iw44_image.specs.declared.planes.ChromaReaders.{ChromaReaders}
use Rattle.iw44_image.specs.declared.planes.PlaneReaders.{PlaneReaders}
use Rattle.iw44_image.specs.Layer.{Coded, Planes, plane_for, with_plane, coded_after, new_coded}

-- ---- one plane

-- whatever was read: a plane of the image's size, with small coefficients, whose contexts are rows of a table
pub record IsSound (count : ℕ) (header : Header) (plane : PlaneReader) : Type 0 where
  pub somewhere : StandsSomewhere plane.coefficients plane.reader
  pub below : AreBelow count (states_of plane.reader)
  pub small : IsSmall 32767 plane.coefficients
  pub width : plane.coefficients.width ≡ header.width
  pub height : plane.coefficients.height ≡ header.height

pub record IsNew (header : Header) (plane : PlaneReader) : Type 0 where
  pub zero : plane.coefficients ≡ zero_plane header.width header.height
  pub fresh_states : states_of plane.reader ≡ fresh
  pub stands : Stands 0 (slice_course 0 (zero_plane header.width header.height)) plane.coefficients plane.reader

-- a plane before a slice
abbrev pub IsNext : ℕ → PlaneReader → Type 0
IsNext slice plane = Stands slice (slice_course slice plane.coefficients) plane.coefficients plane.reader

-- a plane after an answer to a reading of a slice
pub record HasRead (slice : ℕ) (reading : Reading) (payload : List ℕ) (plane : PlaneReader) (zp : Decoder) (answer : SliceStep) : Type 0 where
  pub answer_is : answer ≡ reading.answer
  pub coefficients : plane.coefficients ≡ plane_of reading.left
  pub states : states_of plane.reader ≡ reading.at.states
  pub fed : Fed payload reading.at.place zp
  pub waits : answer ≢ step.SliceEnd → Stands slice reading.left plane.coefficients plane.reader
  pub next : answer ≡ step.SliceEnd → IsNext (slice + 1) plane

-- ---- all planes

abbrev pub AreSoundChroma : ℕ → Header → Option ChromaReaders → Type 0
AreSoundChroma count header None = header.grey ≡ true
AreSoundChroma count header (Some chroma) = (header.grey ≡ false) × (IsSound count header chroma.b × IsSound count header chroma.r)

pub record AreSound (count : ℕ) (header : Header) (planes : PlaneReaders) : Type 0 where
  pub y : IsSound count header planes.y
  pub chroma : AreSoundChroma count header planes.chroma

abbrev pub AreNewChroma : Header → Option ChromaReaders → Type 0
AreNewChroma header None = header.grey ≡ true
AreNewChroma header (Some chroma) = (header.grey ≡ false) × (IsNew header chroma.b × IsNew header chroma.r)

pub record AreNew (header : Header) (planes : PlaneReaders) : Type 0 where
  pub y : IsNew header planes.y
  pub chroma : AreNewChroma header planes.chroma

abbrev pub coded_of : PlaneReader → Coded
coded_of plane = record { plane = plane.coefficients; states = states_of plane.reader }

-- what the definition has of these planes; a grey image has no chroma, which stays 0 there
abbrev pub coded_b : Header → Option ChromaReaders → Coded
coded_b header None = new_coded header
coded_b header (Some chroma) = coded_of chroma.b

abbrev pub coded_r : Header → Option ChromaReaders → Coded
coded_r header None = new_coded header
coded_r header (Some chroma) = coded_of chroma.r

abbrev pub planes_of : Header → PlaneReaders → Planes
planes_of header planes = record { y = coded_of planes.y; b = coded_b header planes.chroma; r = coded_r header planes.chroma }

abbrev pub HasChroma : Option ChromaReaders → Type 0
HasChroma None = ⊥
HasChroma (Some chroma) = ⊤

abbrev pub HasChannel : Channel → PlaneReaders → Type 0
HasChannel Y planes = ⊤
HasChannel B planes = HasChroma planes.chroma
HasChannel R planes = HasChroma planes.chroma

abbrev pub AreNext : ℕ → ℕ → Option ChromaReaders → Type 0
AreNext b r None = ⊤
AreNext b r (Some chroma) = IsNext b chroma.b × IsNext r chroma.r

abbrev pub StandsB : ℕ → Course → Option ChromaReaders → Type 0
StandsB slice course None = ⊥
StandsB slice course (Some chroma) = Stands slice course chroma.b.coefficients chroma.b.reader × IsNext slice chroma.r

abbrev pub StandsR : ℕ → Course → Option ChromaReaders → Type 0
StandsR slice course None = ⊥
StandsR slice course (Some chroma) = IsNext (slice + 1) chroma.b × Stands slice course chroma.r.coefficients chroma.r.reader

-- in this slice of the image a course of a plane is left; the others stand before their next slices
abbrev pub Placed : Header → Channel → ℕ → Course → PlaneReaders → Type 0
Placed header Y slice course planes = Stands slice course planes.y.coefficients planes.y.reader × AreNext (slice - header.delay)
    (slice - header.delay) planes.chroma
Placed header B slice course planes = IsNext (slice + 1) planes.y × StandsB (slice - header.delay) course planes.chroma
Placed header R slice course planes = IsNext (slice + 1) planes.y × StandsR (slice - header.delay) course planes.chroma

-- that course has ended
abbrev pub Past : Header → Channel → ℕ → PlaneReaders → Type 0
Past header Y slice planes = IsNext (slice + 1) planes.y × AreNext (slice - header.delay) (slice - header.delay) planes.chroma
Past header B slice planes = IsNext (slice + 1) planes.y × AreNext (slice - header.delay + 1) (slice - header.delay) planes.chroma
Past header R slice planes = IsNext (slice + 1) planes.y × AreNext (slice - header.delay + 1) (slice - header.delay + 1) planes.chroma

-- the reading of what is left of a slice
abbrev pub plane_reading : Header → Channel → Course → ℕ → List ℕ → Option Interval → Decoder → PlaneReaders → Reading
plane_reading header channel course decisions payload place zp planes =
    read_on (chunk zp.table payload zp.ended) course (standing (plane_for (planes_of header planes) channel).states place decisions)

-- the planes after an answer to it
pub record HaveRead (header : Header) (channel : Channel) (slice : ℕ) (reading : Reading) (payload : List ℕ) (old new : PlaneReaders) (zp : Decoder)
    (answer : SliceStep) : Type 0 where
  pub answer_is : answer ≡ reading.answer
  pub planes : planes_of header new ≡ with_plane (planes_of header old) channel (coded_after reading)
  pub fed : Fed payload reading.at.place zp
  pub waits : answer ≢ step.SliceEnd → Placed header channel slice reading.left new
  pub past : answer ≡ step.SliceEnd → Past header channel slice new
