-- Steps of an image through the slices of a chunk.
use Rattle.std.proofs.Common.{◌≡◌, ◌≢◌, ℕ, ◌+◌, Bool, true, List, [], ◌∷◌, ◌++◌}
use Rattle.std.proofs.Common.{Option, Some, refl, ap, sym, ◌∙◌, append_assoc}
use Rattle.std.proofs.lemmas.List.{append-nil}
use Rattle.djvu_base.specs.declared.faults.FaultKind.TheVariants as fault
use Rattle.zp_table.specs.declared.rows.Row.{Row}
use Rattle.zp_decoder.specs.Chunk.{chunk, IsReady}
use Rattle.zp_decoder.specs.Decision.{Interval}
use Rattle.zp_decoder.specs.Decoder.{Decoder, Fed, is_all}
use Rattle.iw44_slices.specs.Slice.{Course}
use Rattle.iw44_slices.specs.Reading.{Reading}
use Rattle.iw44_slices.specs.declared.steps.SliceStep.{SliceStep}
use Rattle.iw44_slices.specs.declared.steps.SliceStep.TheVariants as step
use Rattle.iw44_image.specs.declared.planes.Channel.{Channel}
use Rattle.iw44_image.specs.declared.planes.PlaneReaders.{PlaneReaders}
use Rattle.iw44_image.specs.Header.{Opening, Opened, open_chunk}
use Rattle.iw44_image.specs.Layer.{tasks, course_reading, Layer, Planes, Need, Fault, ends, plane_for}
use Rattle.iw44_image.specs.Layer.{layer_after, read_tasks, read_opened}
use Rattle.iw44_image.specs.Offering.{Fits, TakesMore}
use Rattle.iw44_image.specs.Readers.{planes_of, Past, plane_reading, HaveRead}
use Rattle.iw44_image.specs.Image.{Frame, header_in, layer_in, is_whole, reading_in, read_from, later_tasks, read_slices, Begun, InSlice}
use Rattle.iw44_image.proofs.Checking.{any_checked}
use Rattle.iw44_image.proofs.Going.{goes_past, goes_left, goes_need, goes_exhausted}

-- the reading of an open chunk is that of its slices, once the header is there
pub begun_reading : (frame : Frame) (layer : Layer) (bytes zp : List ℕ) (count : ℕ) → Begun frame layer bytes count zp →
    reading_in frame bytes layer ≡ read_slices frame layer count zp (is_whole frame.to_come)
begun_reading frame layer bytes zp count begun =
    ap (λ (o : Opening). read_opened frame.table (is_whole frame.to_come) o layer)
    (any_checked layer.header (open_chunk frame.limit layer.chunks layer.header bytes (is_whole frame.to_come)) ∙ begun.opened (is_whole frame.to_come))

-- ---- a reading of a slice, and the layer after it

-- what a plane's reader gave: it stands in a chunk of which these bytes were taken
pub record Gave (frame : Frame) (channel : Channel) (slice : ℕ) (course : Course) (decisions : ℕ) (taken : List ℕ) (place : Option Interval)
    (old new : PlaneReaders) (zp after : Decoder) (reading : Reading) (answer : SliceStep) : Type 0 where
  pub reading_is : reading ≡ plane_reading (header_in frame) channel course decisions taken place zp old
  pub read : HaveRead (header_in frame) channel slice reading taken old new after answer
  pub ready : IsReady (chunk frame.table taken zp.ended) (plane_for (planes_of (header_in frame) old) channel).states place
  pub table : zp.table ≡ frame.table
  pub told : after.ended ≡ zp.ended

-- the layer then
layer_is : (frame : Frame) (channel : Channel) (slice decisions : ℕ) (taken : List ℕ) (old new : PlaneReaders) (after : Decoder) (reading : Reading)
    (answer : SliceStep) →
    HaveRead (header_in frame) channel slice reading taken old new after answer →
    layer_after (layer_in frame (Some old) decisions) channel reading ≡ layer_in frame (Some new) reading.at.decisions
layer_is frame channel slice decisions taken old new after reading answer read =
    ap (λ (p : Planes). let l : Layer = record {
      header = frame.header;
      planes = p;
      slices = frame.slices;
      chunks = frame.chunks;
      decisions = reading.at.decisions;
    } in l) (sym read.planes)

told_fits : (told was : Bool) (more : List ℕ) (ended : Bool) → told ≡ was → Fits told more ended → Fits was more ended
told_fits told was more ended e fits = λ is. fits (e ∙ is)

-- ---- behind a slice of a plane

pub record Ended (frame : Frame) (layer : Layer) (bytes : List ℕ) (decisions : ℕ) (planes : PlaneReaders) (zp : Decoder) (left : List ℕ)
    (channel : Channel) (done count : ℕ) : Type 0 where
  pub taken : List ℕ
  pub place : Option Interval
  pub slice : ℕ
  pub later : ℕ
  pub begun : Begun frame layer bytes count (taken ++ left)
  pub fed : Fed taken place zp
  pub slice_is : slice ≡ frame.slices + done
  pub count_is : count ≡ done + 1 + later
  pub past : Past (header_in frame) channel slice planes
  pub goes : (more : List ℕ) (ended : Bool) → Fits zp.ended more ended → read_slices frame layer count (taken ++ more) ended ≡
      read_tasks (chunk frame.table (taken ++ more) ended) count (later_tasks (header_in frame) channel slice
      (tasks (header_in frame) later (slice + 1))) (layer_in frame (Some planes) decisions) place

-- the reading in the frame's own words
course_is : (frame : Frame) (channel : Channel) (course : Course) (decisions : ℕ) (taken : List ℕ) (place : Option Interval) (old : PlaneReaders)
    (zp : Decoder) (reading : Reading) → zp.table ≡ frame.table →
    reading ≡ plane_reading (header_in frame) channel course decisions taken place zp old → reading ≡ course_reading
    (chunk frame.table taken zp.ended) channel course (layer_in frame (Some old) decisions) place
course_is frame channel course decisions taken place old zp reading table is =
    is ∙ ap (λ (t : List Row). course_reading (chunk t taken zp.ended) channel course (layer_in frame (Some old) decisions) place) table

pub slice_ended : (frame : Frame) (layer : Layer) (bytes left : List ℕ) (decisions : ℕ) (old new : PlaneReaders) (zp after : Decoder)
    (channel : Channel) (done count : ℕ)
    (here : InSlice frame layer bytes decisions (Some old) zp left channel done count) (reading : Reading) (answer : SliceStep) →
    Gave frame channel here.slice here.course decisions here.taken here.place old new zp after reading answer → answer ≡ step.SliceEnd →
    Ended frame layer bytes reading.at.decisions new after left channel done count
slice_ended frame layer bytes left decisions old new zp after channel done count here reading answer gave all = record {
  taken = here.taken;
  place = reading.at.place;
  slice = here.slice;
  later = here.later;
  begun = here.begun;
  fed = gave.read.fed;
  slice_is = here.slice_is;
  count_is = here.count_is;
  past = gave.read.past all;
  goes = λ more ended fits.
      let before : Fits zp.ended more ended = told_fits after.ended zp.ended more ended gave.told fits in
      here.goes more ended before
      ∙ goes_past frame.table here.taken more zp.ended ended count channel here.course
      (later_tasks (header_in frame) channel here.slice (tasks (header_in frame) here.later (here.slice + 1)))
      (layer_in frame (Some old) decisions) here.place reading
      (course_is frame channel here.course decisions here.taken here.place old zp reading gave.table gave.reading_is) gave.ready before
      (sym gave.read.answer_is ∙ all)
      ∙ ap (λ (l : Layer). read_tasks (chunk frame.table (here.taken ++ more) ended) count
      (later_tasks (header_in frame) channel here.slice (tasks (header_in frame) here.later (here.slice + 1))) l reading.at.place)
      (layer_is frame channel here.slice decisions here.taken old new after reading answer gave.read);
}

pub slice_left : (frame : Frame) (layer : Layer) (bytes left : List ℕ) (decisions : ℕ) (old new : PlaneReaders) (zp after : Decoder)
    (channel : Channel) (done count : ℕ)
    (here : InSlice frame layer bytes decisions (Some old) zp left channel done count) (reading : Reading) (answer : SliceStep) →
    Gave frame channel here.slice here.course decisions here.taken here.place old new zp after reading answer → answer ≢ step.SliceEnd →
    InSlice frame layer bytes reading.at.decisions (Some new) after left channel done count
slice_left frame layer bytes left decisions old new zp after channel done count here reading answer gave more_left = record {
  taken = here.taken;
  place = reading.at.place;
  course = reading.left;
  slice = here.slice;
  later = here.later;
  begun = here.begun;
  fed = gave.read.fed;
  slice_is = here.slice_is;
  count_is = here.count_is;
  placed = gave.read.waits more_left;
  goes = λ more ended fits.
      let before : Fits zp.ended more ended = told_fits after.ended zp.ended more ended gave.told fits in
      here.goes more ended before
      ∙ goes_left frame.table here.taken more zp.ended ended count channel here.course
      (later_tasks (header_in frame) channel here.slice (tasks (header_in frame) here.later (here.slice + 1)))
      (layer_in frame (Some old) decisions) here.place reading
      (course_is frame channel here.course decisions here.taken here.place old zp reading gave.table gave.reading_is) gave.ready before
      ∙ ap (λ (l : Layer). read_from (chunk frame.table (here.taken ++ more) ended) count channel reading.left
      (later_tasks (header_in frame) channel here.slice (tasks (header_in frame) here.later (here.slice + 1))) l reading.at.place)
      (layer_is frame channel here.slice decisions here.taken old new after reading answer gave.read);
}

-- the chunk as it is, where the decoder took all that came
all_taken : (taken left : List ℕ) (told whole : Bool) → told ≡ is_all left whole → left ≡ [] → (taken ++ left ≡ taken) × (whole ≡ told)
all_taken taken left told whole is none =
    (ap (λ (l : List ℕ). taken ++ l) none ∙ append-nil taken, sym (is ∙ ap (λ (l : List ℕ). is_all l whole) none))

reads_here : (frame : Frame) (layer : Layer) (bytes left : List ℕ) (decisions : ℕ) (old : PlaneReaders) (zp : Decoder) (channel : Channel) (done count : ℕ)
    (here : InSlice frame layer bytes decisions (Some old) zp left channel done count) → zp.ended ≡ is_all left (is_whole frame.to_come) → left ≡ [] →
    reading_in frame bytes layer ≡ read_from (chunk frame.table here.taken zp.ended) count channel here.course
    (later_tasks (header_in frame) channel here.slice (tasks (header_in frame) here.later (here.slice + 1)))
    (layer_in frame (Some old) decisions) here.place
reads_here frame layer bytes left decisions old zp channel done count here told none =
    let whole : Bool = is_whole frame.to_come in
    let all = all_taken here.taken left zp.ended whole told none in
    let fits : Fits zp.ended [] whole = λ is. (refl, all.1 ∙ is) in
    begun_reading frame layer bytes (here.taken ++ left) count here.begun
    ∙ ap (λ (l : List ℕ). read_slices frame layer count (here.taken ++ l) whole) none
    ∙ here.goes [] whole fits
    ∙ ap (λ (p : List ℕ). read_from (chunk frame.table p whole) count channel here.course
    (later_tasks (header_in frame) channel here.slice (tasks (header_in frame) here.later (here.slice + 1)))
    (layer_in frame (Some old) decisions) here.place) (append-nil here.taken)
    ∙ ap (λ (b : Bool). read_from (chunk frame.table here.taken b) count channel here.course
    (later_tasks (header_in frame) channel here.slice (tasks (header_in frame) here.later (here.slice + 1)))
    (layer_in frame (Some old) decisions) here.place) all.1

pub slice_needs : (frame : Frame) (layer : Layer) (bytes left : List ℕ) (decisions : ℕ) (old new : PlaneReaders) (zp after : Decoder)
    (channel : Channel) (done count : ℕ)
    (here : InSlice frame layer bytes decisions (Some old) zp left channel done count) (reading : Reading) (answer : SliceStep) →
    Gave frame channel here.slice here.course decisions here.taken here.place old new zp after reading answer → answer ≡ step.NeedBytes →
    zp.ended ≡ is_all left (is_whole frame.to_come) → left ≡ [] →
    reading_in frame bytes layer ≡ ends Need (layer_in frame (Some new) reading.at.decisions)
slice_needs frame layer bytes left decisions old new zp after channel done count here reading answer gave all told none =
    reads_here frame layer bytes left decisions old zp channel done count here told none
    ∙ goes_need (chunk frame.table here.taken zp.ended) count channel here.course
    (later_tasks (header_in frame) channel here.slice (tasks (header_in frame) here.later (here.slice + 1)))
    (layer_in frame (Some old) decisions) here.place reading
    (course_is frame channel here.course decisions here.taken here.place old zp reading gave.table gave.reading_is) (sym gave.read.answer_is ∙ all)
    ∙ ap (ends Need) (layer_is frame channel here.slice decisions here.taken old new after reading answer gave.read)

pub slice_stops : (frame : Frame) (layer : Layer) (bytes left : List ℕ) (decisions : ℕ) (old new : PlaneReaders) (zp after : Decoder)
    (channel : Channel) (done count : ℕ)
    (here : InSlice frame layer bytes decisions (Some old) zp left channel done count) (reading : Reading) (answer : SliceStep) →
    Gave frame channel here.slice here.course decisions here.taken here.place old new zp after reading answer → answer ≡ step.Exhausted →
    zp.ended ≡ is_all left (is_whole frame.to_come) → left ≡ [] →
    reading_in frame bytes layer ≡ ends (Fault fault.ZpExhausted) (layer_in frame (Some new) reading.at.decisions)
slice_stops frame layer bytes left decisions old new zp after channel done count here reading answer gave all told none =
    reads_here frame layer bytes left decisions old zp channel done count here told none
    ∙ goes_exhausted (chunk frame.table here.taken zp.ended) count channel here.course
    (later_tasks (header_in frame) channel here.slice (tasks (header_in frame) here.later (here.slice + 1)))
    (layer_in frame (Some old) decisions) here.place reading
    (course_is frame channel here.course decisions here.taken here.place old zp reading gave.table gave.reading_is) (sym gave.read.answer_is ∙ all)
    ∙ ap (ends (Fault fault.ZpExhausted)) (layer_is frame channel here.slice decisions here.taken old new after reading answer gave.read)

-- ---- more bytes for the decoder

pub nothing_left : (left : List ℕ) (whole : Bool) → is_all left whole ≡ true → (left ≡ []) × (whole ≡ true)
nothing_left [] whole e = (refl, e)
nothing_left (byte ∷ left) whole e = absurd (cc)

none_of : (more new : List ℕ) → more ++ new ≡ [] → (more ≡ []) × (new ≡ [])
none_of [] new e = (refl, e)
none_of (byte ∷ more) new e = absurd (cc)

taken_fits : (told was whole : Bool) (m new old more : List ℕ) (ended : Bool) → was ≡ is_all old whole → told ≡ is_all new whole → m ++ new ≡ old →
    Fits told more ended → Fits was (m ++ more) ended
taken_fits told was whole m new old more ended old_is new_is all fits = λ is.
    let nothing = nothing_left old whole (sym old_is ∙ is) in
    let none = none_of m new (all ∙ nothing.0) in
    let now : told ≡ true = new_is ∙ ap (λ (l : List ℕ). is_all l whole) none.1 ∙ nothing.1 in
    let f = fits now in
    (ap (λ (l : List ℕ). l ++ more) none.0 ∙ f.0, f.1)

pub slice_takes : (frame : Frame) (layer : Layer) (bytes left rest : List ℕ) (decisions : ℕ) (planes : Option PlaneReaders) (zp next : Decoder)
    (channel : Channel) (done count : ℕ) →
    InSlice frame layer bytes decisions planes zp left channel done count → TakesMore left rest zp next → zp.ended ≡ is_all left
    (is_whole frame.to_come) → next.ended ≡ is_all rest (is_whole frame.to_come) →
    InSlice frame layer bytes decisions planes next rest channel done count
slice_takes frame layer bytes left rest decisions planes zp next channel done count here takes was told = record {
  taken = here.taken ++ takes.more;
  place = here.place;
  course = here.course;
  slice = here.slice;
  later = here.later;
  begun = record {
    known = here.begun.known;
    opened = λ ended. here.begun.opened ended
        ∙ ap (λ (p : List ℕ). Opened (header_in frame) count p) (ap (λ (l : List ℕ). here.taken ++ l) (sym takes.left) ∙ sym
        (append_assoc here.taken takes.more rest));
  };
  fed = takes.fed here.taken here.place here.fed;
  slice_is = here.slice_is;
  count_is = here.count_is;
  placed = here.placed;
  goes = λ more ended fits.
      let same = append_assoc here.taken takes.more more in
      ap (λ (p : List ℕ). read_slices frame layer count p ended) same
      ∙ here.goes (takes.more ++ more) ended (taken_fits next.ended zp.ended (is_whole frame.to_come) takes.more rest left more ended was told takes.left fits)
      ∙ ap (λ (p : List ℕ). read_from (chunk frame.table p ended) count channel here.course
      (later_tasks (header_in frame) channel here.slice (tasks (header_in frame) here.later (here.slice + 1)))
      (layer_in frame planes decisions) here.place) (sym same);
}
