-- A slice of a plane, among the planes of an image.
use Rattle.std.proofs.Common.{◌≡◌, ℕ, ◌-◌, true, List, Option, Some, None, refl, ap, ◌∙◌, subst}
use Rattle.zp_decoder.specs.Decision.{Interval}
use Rattle.zp_decoder.specs.Decoder.{Decoder}
use Rattle.iw44_blocks.specs.Plane.{Plane}
use Rattle.iw44_slices.specs.Slice.{Course}
use Rattle.iw44_slices.specs.Reading.{States, Reading}
use Rattle.iw44_slices.specs.Reader.{states_of, reading_from}
use Rattle.iw44_slices.specs.declared.steps.SliceStep.{SliceStep}
use Rattle.iw44_image.specs.declared.headers.Header.{Header}
use Rattle.iw44_image.specs.declared.planes.Channel.TheVariants.{Y, B, R}
use Rattle.iw44_image.specs.declared.planes.PlaneReader.{PlaneReader}
use Rattle.iw44_image.specs.declared.planes.ChromaReaders.{ChromaReaders}
use Rattle.iw44_image.specs.declared.planes.PlaneReaders.{PlaneReaders}
use Rattle.iw44_image.specs.Layer.{Coded, Planes, coded_after}
use Rattle.iw44_image.specs.Samples.{components_of}
use Rattle.iw44_image.specs.Rasters.{IsOfSize, HaveSize}
use Rattle.iw44_image.specs.Readers.{HasRead, AreSoundChroma, AreSound, coded_of, coded_b, coded_r, planes_of, Placed, plane_reading, HaveRead}

coded_is : (slice : ℕ) (reading : Reading) (payload : List ℕ) (plane : PlaneReader) (zp : Decoder) (answer : SliceStep) →
    HasRead slice reading payload plane zp answer →
    coded_of plane ≡ coded_after reading
coded_is slice reading payload plane zp answer is =
    ap (λ (p : Plane). let c : Coded = record { plane = p; states = states_of plane.reader } in c) is.coefficients
    ∙ ap (λ (s : States). let c : Coded = record { plane = (coded_after reading).plane; states = s } in c) is.states

pub y_read : (header : Header) (slice decisions : ℕ) (course : Course) (payload : List ℕ) (place : Option Interval) (zp after : Decoder)
    (old : PlaneReaders) (y : PlaneReader) (answer : SliceStep) →
    Placed header Y slice course old → HasRead slice (reading_from course zp payload place old.y.reader decisions) payload y after answer →
    HaveRead header Y slice (plane_reading header Y course decisions payload place zp old) payload old (record { y = y; chroma = old.chroma }) after answer
y_read header slice decisions course payload place zp after old y answer placed is = record {
  answer_is = is.answer_is;
  planes = ap (λ (c : Coded). let p : Planes = record { y = c; b = coded_b header old.chroma; r = coded_r header old.chroma } in p)
      (coded_is slice _ payload y after answer is);
  fed = is.fed;
  waits = λ more. (is.waits more, placed.1);
  past = λ all. (is.next all, placed.1);
}

pub b_read : (header : Header) (slice decisions : ℕ) (course : Course) (payload : List ℕ) (place : Option Interval) (zp after : Decoder)
    (y : PlaneReader) (chroma : ChromaReaders) (b : PlaneReader) (answer : SliceStep) →
    Placed header B slice course (record { y = y; chroma = Some chroma }) → HasRead (slice - header.delay)
    (reading_from course zp payload place chroma.b.reader decisions) payload b after answer →
    HaveRead header B slice (plane_reading header B course decisions payload place zp (record { y = y; chroma = Some chroma })) payload
    (record { y = y; chroma = Some chroma })
    (record { y = y; chroma = Some (record { b = b; r = chroma.r }) }) after answer
b_read header slice decisions course payload place zp after y chroma b answer placed is = record {
  answer_is = is.answer_is;
  planes = ap (λ (c : Coded). let p : Planes = record { y = coded_of y; b = c; r = coded_of chroma.r } in p)
      (coded_is (slice - header.delay) _ payload b after answer is);
  fed = is.fed;
  waits = λ more. (placed.0, (is.waits more, placed.1.1));
  past = λ all. (placed.0, (is.next all, placed.1.1));
}

pub r_read : (header : Header) (slice decisions : ℕ) (course : Course) (payload : List ℕ) (place : Option Interval) (zp after : Decoder)
    (y : PlaneReader) (chroma : ChromaReaders) (r : PlaneReader) (answer : SliceStep) →
    Placed header R slice course (record { y = y; chroma = Some chroma }) → HasRead (slice - header.delay)
    (reading_from course zp payload place chroma.r.reader decisions) payload r after answer →
    HaveRead header R slice (plane_reading header R course decisions payload place zp (record { y = y; chroma = Some chroma })) payload
    (record { y = y; chroma = Some chroma })
    (record { y = y; chroma = Some (record { b = chroma.b; r = r }) }) after answer
r_read header slice decisions course payload place zp after y chroma r answer placed is = record {
  answer_is = is.answer_is;
  planes = ap (λ (c : Coded). let p : Planes = record { y = coded_of y; b = coded_of chroma.b; r = c } in p)
      (coded_is (slice - header.delay) _ payload r after answer is);
  fed = is.fed;
  waits = λ more. (placed.0, (placed.1.0, is.waits more));
  past = λ all. (placed.0, (placed.1.0, is.next all));
}

pub chroma_of : (count : ℕ) (header : Header) (planes : PlaneReaders) (chroma : ChromaReaders) → planes.chroma ≡ Some chroma →
    AreSound count header planes → AreSoundChroma count header (Some chroma)
chroma_of count header planes chroma is sound = subst (λ (o : Option ChromaReaders). AreSoundChroma count header o) is sound.chroma

pub whole_is : (planes : PlaneReaders) (chroma : ChromaReaders) → planes.chroma ≡ Some chroma → planes ≡ record { y = planes.y; chroma = Some chroma }
whole_is planes chroma is = ap (λ (o : Option ChromaReaders). let p : PlaneReaders = record { y = planes.y; chroma = o } in p) is

-- planes have the image's size
chroma_sizes : (count : ℕ) (header : Header) (chroma : Option ChromaReaders) → AreSoundChroma count header chroma →
    IsOfSize header (coded_b header chroma).plane × IsOfSize header (coded_r header chroma).plane
chroma_sizes count header None sound = ((refl, refl), (refl, refl))
chroma_sizes count header (Some chroma) sound = ((sound.1.0.width, sound.1.0.height), (sound.1.1.width, sound.1.1.height))

pub sizes_of : (count : ℕ) (header : Header) (planes : PlaneReaders) → AreSound count header planes → HaveSize header (components_of (planes_of header planes))
sizes_of count header planes sound =
    let chroma = chroma_sizes count header planes.chroma sound.chroma in
    record { y = (sound.y.width, sound.y.height); b = chroma.0; r = chroma.1 }

pub grey_of : (count : ℕ) (header : Header) (planes : PlaneReaders) → planes.chroma ≡ None → AreSound count header planes → header.grey ≡ true
grey_of count header planes is sound = subst (λ (o : Option ChromaReaders). AreSoundChroma count header o) is sound.chroma
