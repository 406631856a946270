-- Where the reading of a chunk goes on behind a slice of a plane.
use Rattle.std.proofs.Common.{◌≡◌, ℕ, zero, suc, ◌+◌, ◌-◌, ◌<◌, ◌≤◌, Bool, true, false, nat_lt, List, [], ◌∷◌, ◌++◌}
use Rattle.std.proofs.Common.{Option, Some, None, refl, ap, sym, ◌∙◌, subst, arith}
use Rattle.std.specs.Prelude.{if◌then◌else◌}
use Rattle.std.proofs.lemmas.Grind.{common_steps}
use Rattle.zp_decoder.specs.Chunk.{chunk}
use Rattle.zp_decoder.specs.Decision.{Interval}
use Rattle.zp_decoder.specs.Decoder.{Decoder, Fed, is_all}
use Rattle.iw44_slices.specs.Slice.{slice_course}
use Rattle.iw44_image.specs.declared.headers.Header.{Header}
use Rattle.iw44_image.specs.declared.planes.Channel.{Channel}
use Rattle.iw44_image.specs.declared.planes.Channel.TheVariants.{Y, B, R}
use Rattle.iw44_image.specs.declared.planes.ChromaReaders.{ChromaReaders}
use Rattle.iw44_image.specs.declared.planes.PlaneReaders.{PlaneReaders}
use Rattle.iw44_image.specs.declared.steps.Stage.TheVariants as stage
use Rattle.iw44_image.specs.Layer.{Task, task, tasks, Layer, has_chroma, read_tasks}
use Rattle.iw44_image.specs.Offering.{Fits}
use Rattle.iw44_image.specs.Readers.{AreSoundChroma, AreNext, StandsB, StandsR, Placed, coded_b, coded_r}
use Rattle.iw44_image.specs.Image.{Frame, header_in, layer_in, is_whole, later_tasks, read_slices, Begun, InSlice, InRest, HoldsAt}
use Rattle.iw44_image.specs.Keeping.{ChannelFits, stage_behind, next_stage}
use Rattle.iw44_image.proofs.Stepping.{Ended}

-- tasks behind those of one slice of the image
next_tasks : (header : Header) (later slice : ℕ) → tasks header (suc later) slice ≡ task Y slice ∷ later_tasks header Y slice (tasks header later (slice + 1))
next_tasks header later slice = refl

-- chroma stands at the same slices one later, where it has begun, or hasn't
begun_later : (header : Header) (slice : ℕ) → has_chroma header slice ≡ true → slice - header.delay + 1 ≡ slice + 1 - header.delay
begun_later header slice has =
    let low : header.delay ≤ slice = grind (arith, common_steps, has) in omega arith

waits_later : (header : Header) (slice : ℕ) → header.grey ≡ false → has_chroma header slice ≡ false → slice - header.delay ≡ slice + 1 - header.delay
waits_later header slice coloured has =
    let high : slice < header.delay = grind (arith, common_steps, coloured, has) in omega arith

next_chroma : (count : ℕ) (header : Header) (slice : ℕ) (chroma : Option ChromaReaders) → AreSoundChroma count header chroma →
    has_chroma header slice ≡ false →
    AreNext (slice - header.delay) (slice - header.delay) chroma → AreNext (slice + 1 - header.delay) (slice + 1 - header.delay) chroma
next_chroma count header slice None sound has next = tt
next_chroma count header slice (Some chroma) sound has next =
    let same = waits_later header slice sound.0 has in
    subst (λ (n : ℕ). AreNext n n (Some chroma)) same next

later_chroma : (header : Header) (slice : ℕ) (chroma : Option ChromaReaders) → has_chroma header slice ≡ true →
    AreNext (slice - header.delay + 1) (slice - header.delay + 1) chroma → AreNext (slice + 1 - header.delay) (slice + 1 - header.delay) chroma
later_chroma header slice chroma has next = subst (λ (n : ℕ). AreNext n n chroma) (begun_later header slice has) next

grey_has_none : (header : Header) (slice : ℕ) → header.grey ≡ true → has_chroma header slice ≡ true → ⊥
grey_has_none header slice grey has = grind (arith, common_steps, grey, has)

b_placed : (count : ℕ) (header : Header) (slice n : ℕ) (chroma : Option ChromaReaders) → AreSoundChroma count header chroma →
    has_chroma header slice ≡ true → AreNext n n chroma →
    StandsB n (slice_course n (coded_b header chroma).plane) chroma
b_placed count header slice n None sound has next = grey_has_none header slice sound has
b_placed count header slice n (Some chroma) sound has next = next

r_placed : (count : ℕ) (header : Header) (slice n : ℕ) (chroma : Option ChromaReaders) → AreSoundChroma count header chroma →
    has_chroma header slice ≡ true → AreNext (n + 1) n chroma →
    StandsR n (slice_course n (coded_r header chroma).plane) chroma
r_placed count header slice n None sound has next = grey_has_none header slice sound has
r_placed count header slice n (Some chroma) sound has next = next

-- behind all planes of a slice of the image
pub record Behind (frame : Frame) (layer : Layer) (bytes : List ℕ) (decisions : ℕ) (planes : PlaneReaders) (zp : Decoder) (left : List ℕ)
    (done count : ℕ) : Type 0 where
  pub taken : List ℕ
  pub place : Option Interval
  pub slice : ℕ
  pub later : ℕ
  pub begun : Begun frame layer bytes count (taken ++ left)
  pub fed : Fed taken place zp
  pub slice_is : slice ≡ frame.slices + done
  pub count_is : count ≡ done + 1 + later
  pub placed : Placed (header_in frame) Y (slice + 1) (slice_course (slice + 1) planes.y.coefficients) planes
  pub goes : (more : List ℕ) (ended : Bool) → Fits zp.ended more ended → read_slices frame layer count (taken ++ more) ended ≡
      read_tasks (chunk frame.table (taken ++ more) ended) count (tasks (header_in frame) later (slice + 1)) (layer_in frame (Some planes) decisions) place

pub told_all : (left : List ℕ) (told whole : Bool) → told ≡ is_all left whole → Fits told left whole
told_all [] told whole is = λ e. (refl, sym is ∙ e)
told_all (byte ∷ left) told whole is = λ e. absurd (cc)

behind_by : (frame : Frame) (layer : Layer) (bytes left : List ℕ) (decisions : ℕ) (planes : PlaneReaders) (zp : Decoder) (done count : ℕ)
    (here : Behind frame layer bytes decisions planes zp left done count) (later : ℕ) →
    here.later ≡ later → zp.ended ≡ is_all left (is_whole frame.to_come) → HoldsAt (stage_behind done count) frame layer bytes decisions (Some planes) zp left
behind_by frame layer bytes left decisions planes zp done count here zero is told =
    let size : count ≡ done + 1 + here.later = here.count_is in
    let last : nat_lt (done + 1) count ≡ false = grind (arith, common_steps, size, is) in
    let at : here.slice + 1 ≡ frame.slices + count = omega (arith, here.slice_is, size, is) in
    let rests : InRest frame layer bytes decisions (Some planes) zp count = record {
      taken = here.taken;
      rest = left;
      begun = here.begun;
      fits = told_all left zp.ended (is_whole frame.to_come) told;
      placed = subst (λ (n : ℕ). Placed (header_in frame) Y n (slice_course n planes.y.coefficients) planes) at here.placed;
      goes = λ more ended fits. here.goes more ended fits
          ∙ ap (λ (n : ℕ). read_tasks (chunk frame.table (here.taken ++ more) ended) count (tasks (header_in frame) n (here.slice + 1))
          (layer_in frame (Some planes) decisions) here.place) is;
    } in
    subst (λ (t : Bool). HoldsAt (if t then stage.Slice Y (done + 1) count else stage.Rest count) frame layer bytes decisions (Some planes) zp left)
    (sym last) rests
behind_by frame layer bytes left decisions planes zp done count here (suc later) is told =
    let size : count ≡ done + 1 + here.later = here.count_is in
    let more_there : nat_lt (done + 1) count ≡ true = grind (arith, common_steps, size, is) in
    let goes_on : InSlice frame layer bytes decisions (Some planes) zp left Y (done + 1) count = record {
      taken = here.taken;
      place = here.place;
      course = slice_course (here.slice + 1) planes.y.coefficients;
      slice = here.slice + 1;
      later = later;
      begun = here.begun;
      fed = here.fed;
      slice_is = omega (arith, here.slice_is);
      count_is = omega (arith, size, is);
      placed = here.placed;
      goes = λ more ended fits. here.goes more ended fits
          ∙ ap (λ (n : ℕ). read_tasks (chunk frame.table (here.taken ++ more) ended) count (tasks (header_in frame) n (here.slice + 1))
          (layer_in frame (Some planes) decisions) here.place) is;
    } in
    subst (λ (t : Bool). HoldsAt (if t then stage.Slice Y (done + 1) count else stage.Rest count) frame layer bytes decisions (Some planes) zp left)
    (sym more_there) goes_on

behind_holds : (frame : Frame) (layer : Layer) (bytes left : List ℕ) (decisions : ℕ) (planes : PlaneReaders) (zp : Decoder) (done count : ℕ) →
    Behind frame layer bytes decisions planes zp left done count →
    zp.ended ≡ is_all left (is_whole frame.to_come) → HoldsAt (stage_behind done count) frame layer bytes decisions (Some planes) zp left
behind_holds frame layer bytes left decisions planes zp done count here told =
    behind_by frame layer bytes left decisions planes zp done count here here.later refl told

-- where a slice of a plane has ended, the next stage holds
pub next_holds : (rows : ℕ) (frame : Frame) (layer : Layer) (bytes left : List ℕ) (decisions : ℕ) (planes : PlaneReaders) (zp : Decoder)
    (channel : Channel) (done count : ℕ) (chroma : Bool)
    (here : Ended frame layer bytes decisions planes zp left channel done count) → zp.ended ≡ is_all left (is_whole frame.to_come) →
    AreSoundChroma rows (header_in frame) planes.chroma →
    ChannelFits (header_in frame) channel (frame.slices + done) → has_chroma (header_in frame) (frame.slices + done) ≡ chroma →
    HoldsAt (next_stage chroma channel done count) frame layer bytes decisions (Some planes) zp left
next_holds rows frame layer bytes left decisions planes zp Y done count true here told sound channel_fits has =
    let begun : has_chroma (header_in frame) here.slice ≡ true = ap (has_chroma (header_in frame)) here.slice_is ∙ has in
    let rest : List Task = tasks (header_in frame) here.later (here.slice + 1) in
    let both : List Task = task B (here.slice - (header_in frame).delay) ∷ task R (here.slice - (header_in frame).delay) ∷ [] in
    record {
      taken = here.taken;
      place = here.place;
      course = slice_course (here.slice - (header_in frame).delay) (coded_b (header_in frame) planes.chroma).plane;
      slice = here.slice;
      later = here.later;
      begun = here.begun;
      fed = here.fed;
      slice_is = here.slice_is;
      count_is = here.count_is;
      placed = (here.past.0, b_placed rows (header_in frame) here.slice (here.slice - (header_in frame).delay) planes.chroma sound begun here.past.1);
      goes = λ more ended fits. here.goes more ended fits
          ∙ ap (λ (t : Bool). read_tasks (chunk frame.table (here.taken ++ more) ended) count ((if t then both else []) ++ rest)
          (layer_in frame (Some planes) decisions) here.place) begun;
    }
next_holds rows frame layer bytes left decisions planes zp Y done count false here told sound channel_fits has =
    let waits : has_chroma (header_in frame) here.slice ≡ false = ap (has_chroma (header_in frame)) here.slice_is ∙ has in
    let rest : List Task = tasks (header_in frame) here.later (here.slice + 1) in
    let both : List Task = task B (here.slice - (header_in frame).delay) ∷ task R (here.slice - (header_in frame).delay) ∷ [] in
    behind_holds frame layer bytes left decisions planes zp done count (record {
      taken = here.taken;
      place = here.place;
      slice = here.slice;
      later = here.later;
      begun = here.begun;
      fed = here.fed;
      slice_is = here.slice_is;
      count_is = here.count_is;
      placed = (here.past.0, next_chroma rows (header_in frame) here.slice planes.chroma sound waits here.past.1);
      goes = λ more ended fits. here.goes more ended fits
          ∙ ap (λ (t : Bool). read_tasks (chunk frame.table (here.taken ++ more) ended) count ((if t then both else []) ++ rest)
          (layer_in frame (Some planes) decisions) here.place) waits;
    }) told
next_holds rows frame layer bytes left decisions planes zp B done count chroma here told sound channel_fits has =
    let begun : has_chroma (header_in frame) here.slice ≡ true = ap (has_chroma (header_in frame)) here.slice_is ∙ channel_fits in
    record {
      taken = here.taken;
      place = here.place;
      course = slice_course (here.slice - (header_in frame).delay) (coded_r (header_in frame) planes.chroma).plane;
      slice = here.slice;
      later = here.later;
      begun = here.begun;
      fed = here.fed;
      slice_is = here.slice_is;
      count_is = here.count_is;
      placed = (here.past.0, r_placed rows (header_in frame) here.slice (here.slice - (header_in frame).delay) planes.chroma sound begun here.past.1);
      goes = here.goes;
    }
next_holds rows frame layer bytes left decisions planes zp R done count chroma here told sound channel_fits has =
    let begun : has_chroma (header_in frame) here.slice ≡ true = ap (has_chroma (header_in frame)) here.slice_is ∙ channel_fits in
    behind_holds frame layer bytes left decisions planes zp done count (record {
      taken = here.taken;
      place = here.place;
      slice = here.slice;
      later = here.later;
      begun = here.begun;
      fed = here.fed;
      slice_is = here.slice_is;
      count_is = here.count_is;
      placed = (here.past.0, later_chroma (header_in frame) here.slice planes.chroma begun here.past.1);
      goes = here.goes;
    }) told
