-- A step of an image within a slice.
use Rattle.std.proofs.Common.{◌≡◌, ◌≢◌, ℕ, ◌+◌, ◌-◌, ◌<◌, Bool, true, false, List, [], length, Option, Some}
use Rattle.std.proofs.Common.{refl, ap, sym, ◌∙◌, subst}
use Rattle.std.specs.Prelude.{IsSome}
use Rattle.djvu_base.specs.Meter.{TicksExactly}
use Rattle.djvu_base.specs.declared.faults.FaultKind.TheVariants as fault
use Rattle.zp_table.specs.declared.rows.Row.{Row}
use Rattle.zp_decoder.specs.declared.decoder.Decision.{Decision}
use Rattle.zp_decoder.specs.declared.decoder.Decision.TheVariants as decision
use Rattle.zp_decoder.specs.Chunk.{Chunk, chunk}
use Rattle.zp_decoder.specs.Decision.{Interval}
use Rattle.zp_decoder.specs.Decoder.{Decoder, Fed, is_all, bytes_wanted}
use Rattle.zp_decoder.specs.Runs.{IsStanding}
use Rattle.zp_decoder.proofs.Lemmas.{wanted}
use Rattle.iw44_blocks.specs.Plane.{Plane}
use Rattle.iw44_slices.specs.Slice.{Course, Ended, Asks, Asked}
use Rattle.iw44_slices.specs.Reading.{At, Reading, form_of, after_decision, outcome_at, moved, read_on}
use Rattle.iw44_slices.specs.declared.steps.SliceStep.{SliceStep}
use Rattle.iw44_slices.specs.declared.steps.SliceStep.TheVariants as step
use Rattle.iw44_slices.specs.Reading.{standing}
use Rattle.iw44_slices.proofs.Lemmas.{never_exhausted}
use Rattle.iw44_image.specs.declared.headers.Header.{Header}
use Rattle.iw44_image.specs.declared.planes.Channel.{Channel}
use Rattle.iw44_image.specs.declared.planes.PlaneReaders.{PlaneReaders}
use Rattle.iw44_image.specs.declared.steps.Stage.{Stage}
use Rattle.iw44_image.specs.declared.steps.Stage.TheVariants as stage
use Rattle.iw44_image.specs.Layer.{Layer, Need, Fault, ends, has_chroma, plane_for}
use Rattle.iw44_image.specs.Offering.{TakesMore}
use Rattle.iw44_image.specs.Readers.{AreSound, planes_of, Placed, plane_reading}
use Rattle.iw44_image.specs.Image.{Image, Frame, image_by, frame_by, frame_of, header_in, layer_in, is_whole, reading_in, InSlice, HoldsAt, TicksTo}
use Rattle.iw44_image.specs.Keeping.{ArePlanesSound, IsInSlice, IsAt, IsKept, next_stage}
use Rattle.iw44_image.proofs.Stepping.{Gave, slice_ended, slice_left, slice_needs, slice_stops, slice_takes, nothing_left}
use Rattle.iw44_image.proofs.Choosing.{next_holds}
use Rattle.iw44_image.proofs.Soundness.{kept_read, at_slice, at_next}
use Rattle.iw44_image.proofs.Giving.{Reads, header_sound, gives, more_read}

-- where a reading needs bytes, so does its decoder
wanted_by : (from : Chunk) (plane : Plane) (asked : Asked) (next : Bool → Course) (at : At) (answer : Decision) → (outcome_at from asked at).answer ≡ answer →
    ((bit : Bool) (later : At) → (read_on from (next bit) later).answer ≡ step.NeedBytes → 0 < bytes_wanted from.payload
    (read_on from (next bit) later).at.place) →
    (after_decision answer (outcome_at from asked at) plane asked next at (λ bit later. read_on from (next bit) later)).answer ≡ step.NeedBytes →
    0 < bytes_wanted from.payload (after_decision answer (outcome_at from asked at) plane asked next at (λ bit later. read_on from (next bit) later)).at.place
wanted_by from plane asked next at (decision.Bit bit) e rec needs = rec bit (moved asked (outcome_at from asked at) at) needs
wanted_by from plane asked next at decision.NeedBytes e rec needs = wanted from.table (form_of asked at.states) from.payload from.ended at.place e
wanted_by from plane asked next at decision.Exhausted e rec needs = absurd (let wrong : step.Exhausted ≡ step.NeedBytes = needs in cc)

needs_wanted : (from : Chunk) (course : Course) (at : At) → (read_on from course at).answer ≡ step.NeedBytes → 0 < bytes_wanted from.payload
    (read_on from course at).at.place
needs_wanted from (Ended plane) at needs = absurd (let wrong : step.SliceEnd ≡ step.NeedBytes = needs in cc)
needs_wanted from (Asks plane asked next) at needs = wanted_by from plane asked next at (outcome_at from asked at).answer refl
    (λ bit later e. needs_wanted from (next bit) later e) needs

-- only a chunk of which all came is exhausted
exhausted_told : (rows : List Row) (payload : List ℕ) (told : Bool) (course : Course) (at : At) →
    (read_on (chunk rows payload told) course at).answer ≡ step.Exhausted → told ≡ true
exhausted_told rows payload true course at e = refl
exhausted_told rows payload false course at e = absurd (never_exhausted rows payload course at e)

-- an image after a step within a slice
abbrev pub moved_to : Image → PlaneReaders → Decoder → List ℕ → Stage → Image
moved_to old planes zp left now = image_by old.limit old.header old.to_come (Some planes) zp left old.chunks old.slices now

abbrev pub Ticks : Channel → PlaneReaders → Decoder → ℕ → ℕ → Type 0
Ticks channel planes zp meter later = (header : Header) (slice decisions : ℕ) (course : Course) (payload : List ℕ) (place : Option Interval) →
    AreSound (length zp.table) header planes → Placed header channel slice course planes → Fed payload place zp →
    TicksExactly ((plane_reading header channel course decisions payload place zp planes).at.decisions - decisions) meter later

-- what is known once a plane's reader has answered
pub record Advance (old : Image) (planes new : PlaneReaders) (next : Decoder) (answer : SliceStep) (channel : Channel) (done count : ℕ)
    (meter later : ℕ) : Type 0 where
  pub kept : IsKept old
  pub stage_is : old.stage ≡ stage.Slice channel done count
  pub planes_is : old.planes ≡ Some planes
  pub running : IsSome old.to_come
  pub stands : (payload : List ℕ) (place : Option Interval) → Fed payload place old.zp → IsStanding (length payload) place
  pub reads : Reads channel planes new old.zp next answer
  pub ticks : Ticks channel planes old.zp meter later
  pub sound : (h : Header) → AreSound (length old.zp.table) h planes → AreSound (length old.zp.table) h new
  pub table : next.table ≡ old.zp.table
  pub ended : next.ended ≡ old.zp.ended

-- by what the code's functions promise
pub advance_of : {old view : Image} {planes new : PlaneReaders} {next : Decoder} {answer : SliceStep} {channel : Channel} {done count meter later : ℕ} →
    old ≡ view → IsKept old → view.stage ≡ stage.Slice channel done count → old.planes ≡ Some planes → IsSome view.to_come →
    ((payload : List ℕ) (place : Option Interval) → Fed payload place old.zp → IsStanding (length payload) place) →
    Reads channel planes new old.zp next answer → Ticks channel planes old.zp meter later →
    ((h : Header) → AreSound (length old.zp.table) h planes → AreSound (length old.zp.table) h new) →
    next.table ≡ old.zp.table → next.ended ≡ old.zp.ended → Advance old planes new next answer channel done count meter later
advance_of is kept at made running stands reads ticks sound table ended = record {
  kept = kept;
  stage_is = ap (λ (i : Image). i.stage) is ∙ at;
  planes_is = made;
  running = subst (λ (i : Image). IsSome i.to_come) (sym is) running;
  stands = stands;
  reads = reads;
  ticks = ticks;
  sound = sound;
  table = table;
  ended = ended;
}

module _ {old : Image} {planes new : PlaneReaders} {next : Decoder} {answer : SliceStep} {channel : Channel} {done count meter later : ℕ}
    (a : Advance old planes new next answer channel done count meter later) where
  pub in_slice : IsInSlice old channel done count
  in_slice = subst (λ (s : Stage). IsAt s old) a.stage_is a.kept.at

  -- ---- what stays true of the image

  pub kept_moved : (zp : Decoder) (rest : List ℕ) (now : Stage) → zp.table ≡ next.table → IsAt now (moved_to old new zp rest now) → IsKept
      (moved_to old new zp rest now)
  kept_moved zp rest now table at =
      kept_read old.limit old.header old.to_come old.planes planes new old.zp zp old.left rest old.chunks old.slices old.stage now a.kept a.planes_is
      (table ∙ a.table) a.sound at a.running

  pub slice_at : (zp : Decoder) (rest : List ℕ) (now : Stage) → zp.ended ≡ is_all rest (is_whole old.to_come) → IsInSlice
      (moved_to old new zp rest now) channel done count
  slice_at zp rest now told = at_slice old.limit old.header old.to_come old.planes
      (Some new) old.zp zp old.left rest old.chunks old.slices old.stage now channel done count in_slice told

  pub told_still : next.ended ≡ is_all old.left (is_whole old.to_come)
  told_still = a.ended ∙ in_slice.told

  pub same_at : (zp : Decoder) (rest : List ℕ) → zp.ended ≡ is_all rest (is_whole old.to_come) → IsAt old.stage (moved_to old new zp rest old.stage)
  same_at zp rest told = subst (λ (s : Stage). IsAt s (moved_to old new zp rest old.stage)) (sym a.stage_is) (slice_at zp rest old.stage told)

  pub next_at : (chroma : Bool) (now : Stage) → has_chroma (header_in (frame_of old)) (old.slices + done) ≡ chroma →
      now ≡ next_stage chroma channel done count → IsAt now (moved_to old new next old.left now)
  next_at chroma now has is =
      subst (λ (s : Stage). IsAt s (moved_to old new next old.left now)) (sym is)
      (at_next old.limit old.header old.to_come old.planes
      (Some new) old.zp next old.left old.left old.chunks old.slices old.stage now channel done count chroma in_slice told_still has)

  -- ---- what is read

  module _ (layer : Layer) (bytes : List ℕ) (decisions : ℕ) (holds : HoldsAt old.stage (frame_of old) layer bytes decisions old.planes old.zp old.left) where
    pub here : InSlice (frame_of old) layer bytes decisions (Some planes) old.zp old.left channel done count
    here =
        subst (λ (p : Option PlaneReaders). InSlice (frame_of old) layer bytes decisions p old.zp old.left channel done count) a.planes_is
        (subst (λ (s : Stage). HoldsAt s (frame_of old) layer bytes decisions old.planes old.zp old.left) a.stage_is holds)

    pub reading : Reading
    reading = plane_reading (header_in (frame_of old)) channel here.course decisions here.taken here.place old.zp planes

    planes_sound : AreSound (length old.zp.table) (header_in (frame_of old)) planes
    planes_sound =
        header_sound (frame_of old) layer bytes old.left decisions planes old.zp channel done count here
        (subst (λ (p : Option PlaneReaders). ArePlanesSound (length old.zp.table) old.header p) a.planes_is a.kept.planes)

    pub gave : Gave (frame_of old) channel here.slice here.course decisions here.taken here.place planes new old.zp next reading answer
    unfolding reading
    gave =
        gives (frame_of old) layer bytes old.left decisions planes new old.zp next channel done count answer here a.kept.table refl
        (subst (λ (p : Option PlaneReaders). ArePlanesSound (length old.zp.table) old.header p) a.planes_is a.kept.planes)
        a.stands a.reads a.ended

    pub ticks : TicksTo decisions reading.at.decisions meter later
    unfolding reading
    ticks = record {
      more = more_read (frame_of old) channel here.course decisions here.taken here.place planes old.zp refl gave.ready;
      ticks = a.ticks (header_in (frame_of old)) here.slice decisions here.course here.taken here.place planes_sound here.placed here.fed;
    }

    -- a frame is the same with the decoder that went on
    frame_is : (zp : Decoder) (rest : List ℕ) (now : Stage) → zp.table ≡ next.table → frame_of old ≡ frame_of (moved_to old new zp rest now)
    frame_is zp rest now table =
        ap (λ (t : List Row). let f : Frame = frame_by t old.limit old.header old.to_come old.chunks old.slices in f) (sym (table ∙ a.table))

    pub ended_holds : (chroma : Bool) (now : Stage) → answer ≡ step.SliceEnd → has_chroma (header_in (frame_of old)) (old.slices + done) ≡ chroma →
        now ≡ next_stage chroma channel done count →
        HoldsAt now (frame_of (moved_to old new next old.left now)) layer bytes reading.at.decisions (Some new) next old.left
    ended_holds chroma now all has is =
        let ended = slice_ended (frame_of old) layer bytes old.left decisions planes new old.zp next channel done count here reading answer gave all in
        let there = next_holds (length old.zp.table) (frame_of old) layer bytes old.left reading.at.decisions new next channel done count chroma ended
        told_still (a.sound (header_in (frame_of old)) planes_sound).chroma in_slice.channel_fits has in
        subst (λ (f : Frame). HoldsAt now f layer bytes reading.at.decisions (Some new) next old.left) (frame_is next old.left now refl)
        (subst (λ (s : Stage). HoldsAt s (frame_of old) layer bytes reading.at.decisions (Some new) next old.left) (sym is) there)

    left_holds : answer ≢ step.SliceEnd → InSlice (frame_of old) layer bytes reading.at.decisions (Some new) next old.left channel done count
    left_holds more = slice_left (frame_of old) layer bytes old.left decisions planes new old.zp next channel done count here reading answer gave more

    as_before : (zp : Decoder) (rest : List ℕ) → zp.table ≡ next.table → InSlice (frame_of old) layer bytes reading.at.decisions
        (Some new) zp rest channel done count →
        HoldsAt old.stage (frame_of (moved_to old new zp rest old.stage)) layer bytes reading.at.decisions (Some new) zp rest
    as_before zp rest table there =
        subst (λ (f : Frame). HoldsAt old.stage f layer bytes reading.at.decisions (Some new) zp rest) (frame_is zp rest old.stage table)
        (subst (λ (s : Stage). HoldsAt s (frame_of old) layer bytes reading.at.decisions (Some new) zp rest) (sym a.stage_is) there)

    pub taken_holds : (zp : Decoder) (rest : List ℕ) → answer ≡ step.NeedBytes → TakesMore old.left rest next zp → zp.ended ≡ is_all rest
        (is_whole old.to_come) →
        HoldsAt old.stage (frame_of (moved_to old new zp rest old.stage)) layer bytes reading.at.decisions (Some new) zp rest
    taken_holds zp rest needs takes told =
        as_before zp rest takes.table
        (slice_takes (frame_of old) layer bytes old.left rest reading.at.decisions (Some new) next zp channel done count
        (left_holds (λ e. let wrong : step.NeedBytes ≡ step.SliceEnd = sym needs ∙ e in cc)) takes told_still told)

    pub needs_reads : answer ≡ step.NeedBytes → old.left ≡ [] → reading_in (frame_of old) bytes layer ≡ ends Need
        (layer_in (frame_of old) (Some new) reading.at.decisions)
    needs_reads needs none =
        slice_needs (frame_of old) layer bytes old.left decisions planes new old.zp next channel done count here reading answer gave needs
        in_slice.told none

    pub stops_reads : answer ≡ step.Exhausted → old.left ≡ [] → reading_in (frame_of old) bytes layer ≡ ends (Fault fault.ZpExhausted)
        (layer_in (frame_of old) (Some new) reading.at.decisions)
    stops_reads stops none =
        slice_stops (frame_of old) layer bytes old.left decisions planes new old.zp next channel done count here reading answer gave stops
        in_slice.told none

    -- the decoder wants bytes, and it was told the end where the chunk is exhausted
    pub wants : answer ≡ step.NeedBytes → 0 < bytes_wanted here.taken reading.at.place
    unfolding reading
    wants needs =
        needs_wanted (chunk old.zp.table here.taken old.zp.ended) here.course
        (standing (plane_for (planes_of (header_in (frame_of old)) planes) channel).states here.place decisions)
        (sym gave.read.answer_is ∙ needs)

    pub all_came : answer ≡ step.Exhausted → old.left ≡ []
    unfolding reading
    all_came stops =
        let told = exhausted_told old.zp.table here.taken old.zp.ended here.course
        (standing (plane_for (planes_of (header_in (frame_of old)) planes) channel).states here.place decisions)
        (sym gave.read.answer_is ∙ stops) in
        (nothing_left old.left (is_whole old.to_come) (sym in_slice.told ∙ told)).0
