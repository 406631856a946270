-- An image whose planes are made.
use Rattle.std.proofs.Common.{◌≡◌, ℕ, ◌+◌, ◌-◌, ◌<◌, Bool, true, false, List, Option, Some, None, length, refl, ap, sym, ◌∙◌, subst, arith, ◌++◌}
use Rattle.std.specs.Prelude.{is_some, not}
use Rattle.zp_decoder.specs.Chunk.{chunk}
use Rattle.zp_decoder.specs.Decoder.{Decoder}
use Rattle.iw44_blocks.specs.Plane.{Plane, zero_plane}
use Rattle.iw44_slices.specs.Slice.{Course, slice_course}
use Rattle.iw44_slices.specs.Reading.{States}
use Rattle.iw44_slices.specs.Reader.{Stands, states_of}
use Rattle.iw44_image.specs.declared.headers.Header.{Header}
use Rattle.iw44_image.specs.declared.planes.Channel.{Channel}
use Rattle.iw44_image.specs.declared.planes.Channel.TheVariants.{Y}
use Rattle.iw44_image.specs.declared.planes.PlaneReader.{PlaneReader}
use Rattle.iw44_image.specs.declared.planes.ChromaReaders.{ChromaReaders}
use Rattle.iw44_image.specs.declared.planes.PlaneReaders.{PlaneReaders}
use Rattle.iw44_image.specs.declared.steps.Stage.{Stage}
use Rattle.iw44_image.specs.declared.steps.Stage.TheVariants as stage
use Rattle.iw44_image.specs.Layer.{Coded, Planes, Layer, Fault, ends, new_coded, new_planes, tasks, chunk_end}
use Rattle.iw44_image.specs.Readers.{IsNew, AreNewChroma, AreNew, AreSound, coded_of, coded_b, coded_r, planes_of, IsNext, AreNext, Placed}
use Rattle.iw44_image.specs.Image.{Image, Frame, image_by, header_in, layer_in, read_from, later_tasks, ArePlaced, InSlice, InRest, AreNextAt, HoldsAt}
use Rattle.iw44_image.specs.Keeping.{ArePlanesSound, IsAt, IsKept}
use Rattle.iw44_image.proofs.Growing.{table_some}

coded_new : (header : Header) (plane : PlaneReader) → IsNew header plane → coded_of plane ≡ new_coded header
coded_new header plane new =
    ap (λ (p : Plane). let c : Coded = record { plane = p; states = states_of plane.reader } in c) new.zero
    ∙ ap (λ (s : States). let c : Coded = record { plane = zero_plane header.width header.height; states = s } in c) new.fresh_states

b_new : (header : Header) (chroma : Option ChromaReaders) → AreNewChroma header chroma → coded_b header chroma ≡ new_coded header
b_new header None new = refl
b_new header (Some chroma) new = coded_new header chroma.b new.1.0

r_new : (header : Header) (chroma : Option ChromaReaders) → AreNewChroma header chroma → coded_r header chroma ≡ new_coded header
r_new header None new = refl
r_new header (Some chroma) new = coded_new header chroma.r new.1.1

pub planes_new : (header : Header) (planes : PlaneReaders) → AreNew header planes → planes_of header planes ≡ new_planes header
planes_new header planes new =
    ap (λ (c : Coded). let p : Planes = record { y = c; b = coded_b header planes.chroma; r = coded_r header planes.chroma } in p)
    (coded_new header planes.y new.y)
    ∙ ap (λ (c : Coded). let p : Planes = record { y = new_coded header; b = c; r = coded_r header planes.chroma } in p) (b_new header planes.chroma new.chroma)
    ∙ ap (λ (c : Coded). let p : Planes = record { y = new_coded header; b = new_coded header; r = c } in p) (r_new header planes.chroma new.chroma)

-- new planes stand before their first slices
next_new : (header : Header) (plane : PlaneReader) → IsNew header plane → IsNext 0 plane
next_new header plane new = subst (λ (p : Plane). Stands 0 (slice_course 0 p) plane.coefficients plane.reader) (sym new.zero) new.stands

chroma_next : (header : Header) (chroma : Option ChromaReaders) → AreNewChroma header chroma → AreNext 0 0 chroma
chroma_next header None new = tt
chroma_next header (Some chroma) new = (next_new header chroma.b new.1.0, next_new header chroma.r new.1.1)

first_placed : (header : Header) (planes : PlaneReaders) → AreNew header planes →
    Placed header Y 0 (slice_course 0 (zero_plane header.width header.height)) planes
first_placed header planes new =
    let none : 0 ≡ 0 - header.delay = omega arith in
    (new.y.stands, subst (λ (n : ℕ). AreNext n n planes.chroma) none (chroma_next header planes.chroma new.chroma))

pub placed_new : (header : Header) (channel : Channel) (slice : ℕ) (course : Course) (planes : PlaneReaders) → AreNew header planes →
    ArePlaced header channel slice course None → Placed header channel slice course planes
placed_new header channel slice course planes new placed =
    subst (λ (c : Channel). Placed header c slice course planes) (sym placed.0)
    (subst (λ (n : ℕ). Placed header Y n course planes) (sym placed.1.0)
    (subst (λ (c : Course). Placed header Y 0 c planes) (sym placed.1.1) (first_placed header planes new)))

next_at_new : (header : Header) (slice : ℕ) (planes : PlaneReaders) → AreNew header planes → AreNextAt header slice None → AreNextAt header slice (Some planes)
next_at_new header slice planes new first =
    subst (λ (n : ℕ). Placed header Y n (slice_course n planes.y.coefficients) planes) (sym first)
    (subst (λ (p : Plane). Placed header Y 0 (slice_course 0 p) planes) (sym new.y.zero) (first_placed header planes new))

layer_new : (frame : Frame) (planes : PlaneReaders) (decisions : ℕ) → AreNew (header_in frame) planes →
    layer_in frame None decisions ≡ layer_in frame (Some planes) decisions
layer_new frame planes decisions new =
    ap (λ (p : Planes). let l : Layer = record { header = frame.header; planes = p; slices = frame.slices; chunks = frame.chunks; decisions = decisions } in l)
    (sym (planes_new (header_in frame) planes new))

slice_made : (frame : Frame) (layer : Layer) (bytes left : List ℕ) (decisions : ℕ) (planes : PlaneReaders) (zp : Decoder) (channel : Channel)
    (done count : ℕ) → AreNew (header_in frame) planes → InSlice frame layer bytes decisions None zp left channel done count →
    InSlice frame layer bytes decisions (Some planes) zp left channel done count
slice_made frame layer bytes left decisions planes zp channel done count new here = record {
  taken = here.taken;
  place = here.place;
  course = here.course;
  slice = here.slice;
  later = here.later;
  begun = here.begun;
  fed = here.fed;
  slice_is = here.slice_is;
  count_is = here.count_is;
  placed = placed_new (header_in frame) channel here.slice here.course planes new here.placed;
  goes = λ more ended fits. here.goes more ended fits
      ∙ ap (λ (l : Layer). read_from (chunk frame.table (here.taken ++ more) ended) count channel here.course
      (later_tasks (header_in frame) channel here.slice (tasks (header_in frame) here.later (here.slice + 1))) l here.place)
      (layer_new frame planes decisions new);
}

rest_made : (frame : Frame) (layer : Layer) (bytes : List ℕ) (decisions : ℕ) (planes : PlaneReaders) (zp : Decoder) (count : ℕ) →
    AreNew (header_in frame) planes → InRest frame layer bytes decisions None zp count → InRest frame layer bytes decisions (Some planes) zp count
rest_made frame layer bytes decisions planes zp count new here = record {
  taken = here.taken;
  rest = here.rest;
  begun = here.begun;
  fits = here.fits;
  placed = next_at_new (header_in frame) (frame.slices + count) planes new here.placed;
  goes = λ more ended fits. here.goes more ended fits ∙ ap (λ (l : Layer). chunk_end ended count l) (layer_new frame planes decisions new);
}

pub made_holds : (at : Stage) (frame : Frame) (layer : Layer) (bytes left : List ℕ) (decisions : ℕ) (planes : PlaneReaders) (zp : Decoder) →
    AreNew (header_in frame) planes → HoldsAt at frame layer bytes decisions None zp left → HoldsAt at frame layer bytes decisions (Some planes) zp left
made_holds stage.Header frame layer bytes left decisions planes zp new here = record {
  layer_is = here.layer_is ∙ layer_new frame planes decisions new;
  left_is = here.left_is;
  placed = next_at_new (header_in frame) frame.slices planes new here.placed;
}
made_holds (stage.Slice channel done count) frame layer bytes left decisions planes zp new here =
    slice_made frame layer bytes left decisions planes zp channel done count new here
made_holds (stage.Rest count) frame layer bytes left decisions planes zp new here = rest_made frame layer bytes decisions planes zp count new here
made_holds (stage.Refused kind) frame layer bytes left decisions planes zp new here = here ∙ ap (ends (Fault kind)) (layer_new frame planes decisions new)

pub no_planes : (planes : Option PlaneReaders) (none : Bool) → is_some planes ≡ not none → none ≡ true → planes ≡ None
no_planes None none is e = refl
no_planes (Some planes) none is e = absurd (let wrong : true ≡ false = is ∙ ap not e in cc)

-- what stays true of the image
abbrev pub made_of : Image → PlaneReaders → Image
made_of old planes = image_by old.limit old.header old.to_come (Some planes) old.zp old.left old.chunks old.slices old.stage

made_at : (at : Stage) (old : Image) (planes : PlaneReaders) → IsAt at old → IsAt at (made_of old planes)
made_at stage.Header old planes here = record { chunks = here.chunks; slices = here.slices }
made_at (stage.Slice channel done count) old planes here = record {
  known = here.known;
  chunks = here.chunks;
  slices = here.slices;
  some = here.some;
  told = here.told;
  channel_fits = here.channel_fits;
}
made_at (stage.Rest count) old planes here = record { known = here.known; chunks = here.chunks; slices = here.slices }
made_at (stage.Refused kind) old planes here = tt

sound_made : (rows : ℕ) (header : Header) (known : Option Header) (none : Option PlaneReaders) (planes : PlaneReaders) → known ≡ Some header →
    none ≡ None → ArePlanesSound rows known none → AreSound rows header planes → ArePlanesSound rows known (Some planes)
sound_made rows header known none planes is none_yet sound new =
    let area = subst (λ (p : Option PlaneReaders). ArePlanesSound rows (Some header) p) none_yet
    (subst (λ (h : Option Header). ArePlanesSound rows h none) is sound) in
    subst (λ (h : Option Header). ArePlanesSound rows h (Some planes)) (sym is) (area, new)

pub made_kept : (old : Image) (header : Header) (planes : PlaneReaders) → IsKept old → old.header ≡ Some header → old.planes ≡ None →
    ((rows : ℕ) → 0 < rows → AreSound rows header planes) → IsKept (made_of old planes)
made_kept old header planes kept is none sound = record {
  table = kept.table;
  limit = kept.limit;
  planes = sound_made (length old.zp.table) header old.header old.planes planes is none kept.planes
      (sound (length old.zp.table) (table_some old.zp.table kept.table));
  at = made_at old.stage old planes kept.at;
  closed = kept.closed;
}
