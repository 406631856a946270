-- What a reader keeps from decision to decision.
use Rattle.std.proofs.Common.{◌≡◌, ◌≢◌, ℕ, suc, ◌+◌, ◌-◌, ◌<◌, Bool, List, length, Option, refl, ap, sym, ◌∙◌, subst, arith}
use Rattle.djvu_base.specs.Meter.{TicksExactly}
use Rattle.djvu_base.proofs.Ticks.{ticks_none, ticks_next}
use Rattle.zp_table.specs.declared.rows.Row.{Row}
use Rattle.zp_decoder.specs.declared.decoder.Decision.{Decision}
use Rattle.zp_decoder.specs.declared.decoder.Decision.TheVariants as decision
use Rattle.zp_decoder.specs.Chunk.{chunk}
use Rattle.zp_decoder.specs.Decision.{Interval, Outcome, outcome_of, counted}
use Rattle.zp_decoder.specs.Decoder.{Decoder, Fed, room_left}
use Rattle.zp_decoder.specs.States.{AreBelow}
use Rattle.iw44_blocks.specs.Plane.{Plane, zero_plane}
use Rattle.iw44_slices.specs.Slice.{Asked, Course, Ended, Asks, slice_course}
use Rattle.iw44_slices.specs.Reading.{States, At, Reading, standing, stands, plane_of, form_of, states_after, after_decision, read_on}
use Rattle.iw44_slices.specs.Sizes.{AreDue}
use Rattle.iw44_slices.specs.Kept.{Names, states_in}
use Rattle.iw44_slices.specs.Reader.{Reader, Left, LeavesSome, LeavesSmall, StaySmall, Stands, StandsSomewhere, states_of, reading_from}
use Rattle.iw44_slices.specs.Moves.{IsAsked, after_bit, Keeps, EndsAt}
use Rattle.iw44_slices.specs.declared.contexts.Contexts.{Contexts}
use Rattle.iw44_slices.specs.declared.contexts.Question.{Question}
use Rattle.iw44_slices.specs.declared.spots.Spot.{Spot}
use Rattle.iw44_slices.specs.declared.steps.SliceStep.{SliceStep}
use Rattle.iw44_slices.specs.declared.steps.SliceStep.TheVariants as step
use Rattle.iw44_slices.proofs.Cutting.{goes_on}
use Rattle.iw44_slices.proofs.Staying.{slice_stays_small, new_due}
use Rattle.iw44_slices.proofs.Telling.{left_tells}

-- a reader of these parts
abbrev pub reader_of : Contexts → Spot → Reader
reader_of contexts spot = record { contexts = contexts; spot = spot }

-- a new reader
pub new_stands : (width height : ℕ) (contexts : Contexts) (spot : Spot) → ((w h : ℕ) → Left 0 (slice_course 0 (zero_plane w h)) (zero_plane w h) spot) →
    Stands 0 (slice_course 0 (zero_plane width height)) (zero_plane width height) (reader_of contexts spot)
unfolding Stands
new_stands width height contexts spot left = (left width height, slice_stays_small 0 (zero_plane width height) (new_due width height))

-- nothing is read yet
pub keeps_first : (plane : Plane) (reader : Reader) (zp : Decoder) (count : ℕ) → StandsSomewhere plane reader → AreBelow (length zp.table) (states_of reader) →
    Keeps plane reader zp count plane reader zp count
keeps_first plane reader zp count somewhere below = record {
  reads = λ slice decisions payload course place at fed.
      let none : decisions - decisions ≡ 0 = omega arith in
      record {
        left = course;
        here = place;
        number = decisions;
        stands = at;
        fed = fed;
        grows = omega arith;
        ticks = subst (λ (n : ℕ). TicksExactly n count count) (sym none) (ticks_none count);
        same = refl;
      };
  somewhere = somewhere;
  table = refl;
  ended = refl;
  below = below;
  room = omega arith;
  width = refl;
  height = refl;
}

-- on the way to a decision nothing is read
stands_on : (slice : ℕ) (course : Course) (plane : Plane) (contexts : Contexts) (spot new : Spot) →
    ((s : ℕ) (c : Course) → Left s c plane spot → Left s c plane new) →
    Stands slice course plane (reader_of contexts spot) → Stands slice course plane (reader_of contexts new)
unfolding Stands
stands_on slice course plane contexts spot new sought at = (sought slice course at.0, at.1)

pub keeps_sought : (old_plane : Plane) (old_reader : Reader) (old : Decoder) (before : ℕ) (plane : Plane) (contexts : Contexts) (spot new : Spot)
    (zp : Decoder) (count : ℕ) →
    Keeps old_plane old_reader old before plane (reader_of contexts spot) zp count → ((s : ℕ) (c : Course) → Left s c plane spot → Left s c plane new) →
    Keeps old_plane old_reader old before plane (reader_of contexts new) zp count
keeps_sought old_plane old_reader old before plane contexts spot new zp count keeps sought = record {
  reads = λ slice decisions payload course place at fed.
      let was = keeps.reads slice decisions payload course place at fed in
      record {
        left = was.left;
        here = was.here;
        number = was.number;
        stands = stands_on slice was.left plane contexts spot new sought was.stands;
        fed = was.fed;
        grows = was.grows;
        ticks = was.ticks;
        same = was.same;
      };
  somewhere = (keeps.somewhere.0, keeps.somewhere.1, stands_on keeps.somewhere.0 keeps.somewhere.1 plane contexts spot new sought keeps.somewhere.2);
  table = keeps.table;
  ended = keeps.ended;
  below = keeps.below;
  room = keeps.room;
  width = keeps.width;
  height = keeps.height;
}

-- what the functions of a spot require
pub leaves_some : (plane : Plane) (contexts : Contexts) (spot : Spot) → StandsSomewhere plane (reader_of contexts spot) → LeavesSome plane spot
unfolding Stands
leaves_some plane contexts spot somewhere = (somewhere.0, somewhere.1, somewhere.2.0)

pub leaves_small : (plane : Plane) (contexts : Contexts) (spot : Spot) → StandsSomewhere plane (reader_of contexts spot) → LeavesSmall plane spot
unfolding Stands
leaves_small plane contexts spot somewhere = (somewhere.0, somewhere.1, somewhere.2)

-- a course that asks

pub record Asking (course : Course) (question : Question) : Type 0 where
  pub plane : Plane
  pub asked : Asked
  pub next : Bool → Course
  pub is : course ≡ Asks plane asked next
  pub names : Names asked question

pub asking : (course : Course) (question : Question) → IsAsked course question → Asking course question
asking (Ended plane) question is = absurd is
asking (Asks plane asked next) question is = record { plane = plane; asked = asked; next = next; is = refl; names = is }

-- on the way, what is left and asks names how
pub asked_known : (plane : Plane) (contexts : Contexts) (spot : Spot) (question : Question) → StandsSomewhere plane (reader_of contexts spot) →
    ((s : ℕ) (c : Course) → Left s c plane spot → IsAsked c question) →
    (asked : Asked) × Names asked question
unfolding Stands
asked_known plane contexts spot question somewhere asks =
    let ask = asking somewhere.1 question (asks somewhere.0 somewhere.1 somewhere.2.0) in
    (ask.asked, ask.names)

-- what is left in a slice of which nothing changed
pub same_somewhere : (plane : Plane) (contexts new : Contexts) (spot : Spot) → new ≡ contexts → StandsSomewhere plane (reader_of contexts spot) →
    StandsSomewhere plane (reader_of new spot)
same_somewhere plane contexts new spot same somewhere = subst (λ (c : Contexts). StandsSomewhere plane (reader_of c spot)) (sym same) somewhere

-- what a decision gave, beside the decoder and the contexts before it
pub record Decided (question : Question) (contexts : Contexts) (zp : Decoder) (count : ℕ) (answer : Decision) (new : Contexts) (new_zp : Decoder)
    (new_count : ℕ) : Type 0 where
  pub answers : (asked : Asked) (payload : List ℕ) (place : Option Interval) → Names asked question → Fed payload place zp →
      answer ≡ (outcome_of zp.table (form_of asked (states_in contexts)) payload zp.ended place).answer
  pub fed : (asked : Asked) (payload : List ℕ) (place : Option Interval) → Names asked question → Fed payload place zp →
      Fed payload (outcome_of zp.table (form_of asked (states_in contexts)) payload zp.ended place).place new_zp
  pub states : (asked : Asked) (payload : List ℕ) (place : Option Interval) → Names asked question → Fed payload place zp →
      states_in new ≡ states_after asked (outcome_of zp.table (form_of asked (states_in contexts)) payload zp.ended place).state (states_in contexts)
  pub below : AreBelow (length new_zp.table) (states_in new)
  pub table : new_zp.table ≡ zp.table
  pub ended : new_zp.ended ≡ zp.ended
  pub ticks : new_count ≡ counted answer count

-- the reading goes on behind a bit
bit_same : (left : Course) (question : Question) (payload : List ℕ) (place : Option Interval) (contexts new : Contexts) (spot new_spot : Spot)
    (zp new_zp : Decoder) (count new_count number : ℕ) (bit : Bool)
    (ask : Asking left question) → Decided question contexts zp count (decision.Bit bit) new new_zp new_count → Fed payload place zp →
    reading_from left zp payload place (reader_of contexts spot) number
    ≡ reading_from (after_bit left bit) new_zp payload (outcome_of zp.table (form_of ask.asked (states_in contexts)) payload zp.ended place).place
    (reader_of new new_spot) (number + 1)
bit_same left question payload place contexts new spot new_spot zp new_zp count new_count number bit ask decided fed =
    let from = chunk zp.table payload zp.ended in
    let outcome : Outcome = outcome_of zp.table (form_of ask.asked (states_in contexts)) payload zp.ended place in
    ap (λ (c : Course). read_on from c (standing (states_in contexts) place number)) ask.is
    ∙ (goes_on from ask.plane ask.asked ask.next (standing (states_in contexts) place number) outcome bit refl
    (sym (decided.answers ask.asked payload place ask.names fed))
    ∙ (ap (λ (c : Course). read_on from (after_bit c bit) (standing (states_after ask.asked outcome.state (states_in contexts)) outcome.place (number + 1)))
    (sym ask.is)
    ∙ (ap (λ (s : States). read_on from (after_bit left bit) (standing s outcome.place (number + 1)))
    (sym (decided.states ask.asked payload place ask.names fed))
    ∙ (ap (λ (rows : List Row). read_on (chunk rows payload zp.ended) (after_bit left bit) (standing (states_in new) outcome.place (number + 1)))
    (sym decided.table)
    ∙ ap (λ (ended : Bool). read_on (chunk new_zp.table payload ended) (after_bit left bit) (standing (states_in new) outcome.place (number + 1)))
    (sym decided.ended)))))

-- after a bit
along_next : (slice : ℕ) (course : Course) (bit : Bool) → StaySmall slice course → StaySmall slice (after_bit course bit)
along_next slice (Ended plane) bit along = along
along_next slice (Asks plane asked next) bit along = along.1 bit

stands_next : (slice : ℕ) (course : Course) (plane new_plane : Plane) (contexts new : Contexts) (spot new_spot : Spot) (bit : Bool) →
    ((s : ℕ) (c : Course) → Left s c plane spot → Left s (after_bit c bit) new_plane new_spot) → Stands slice course plane (reader_of contexts spot) →
    Stands slice (after_bit course bit) new_plane (reader_of new new_spot)
unfolding Stands
stands_next slice course plane new_plane contexts new spot new_spot bit taken at = (taken slice course at.0, along_next slice course bit at.1)

pub keeps_bit : (old_plane : Plane) (old_reader : Reader) (old : Decoder) (before : ℕ) (plane new_plane : Plane) (contexts new : Contexts)
    (spot new_spot : Spot) (zp new_zp : Decoder) (count new_count : ℕ)
    (question : Question) (bit : Bool) → Keeps old_plane old_reader old before plane (reader_of contexts spot) zp count →
    ((s : ℕ) (c : Course) → Left s c plane spot → IsAsked c question) → Decided question contexts zp count (decision.Bit bit) new new_zp new_count →
    ((s : ℕ) (c : Course) → Left s c plane spot → Left s (after_bit c bit) new_plane new_spot) → room_left new_zp < room_left zp →
    new_plane.width ≡ plane.width → new_plane.height ≡ plane.height →
    Keeps old_plane old_reader old before new_plane (reader_of new new_spot) new_zp new_count
unfolding Stands
keeps_bit old_plane old_reader old before plane new_plane contexts new spot new_spot zp new_zp count new_count question bit keeps asks decided taken fewer
    width height = record {
      reads = λ slice decisions payload course place at fed.
          let was = keeps.reads slice decisions payload course place at fed in
          let ask = asking was.left question (asks slice was.left was.stands.0) in
          let grows = was.grows in
          let more : suc (was.number - decisions) ≡ was.number + 1 - decisions = omega arith in
          record {
            left = after_bit was.left bit;
            here = (outcome_of zp.table (form_of ask.asked (states_in contexts)) payload zp.ended was.here).place;
            number = was.number + 1;
            stands = stands_next slice was.left plane new_plane contexts new spot new_spot bit taken was.stands;
            fed = decided.fed ask.asked payload was.here ask.names was.fed;
            grows = omega arith;
            ticks = subst (λ (n : ℕ). TicksExactly n before new_count) more
                (ticks_next (was.number - decisions) before count new_count was.ticks decided.ticks);
            same = was.same
                ∙ bit_same was.left question payload was.here contexts new spot new_spot zp new_zp count new_count was.number bit ask decided was.fed;
          };
      somewhere = (
        keeps.somewhere.0,
        after_bit keeps.somewhere.1 bit,
        stands_next keeps.somewhere.0 keeps.somewhere.1 plane new_plane contexts new spot new_spot bit taken keeps.somewhere.2,
      );
      table = decided.table ∙ keeps.table;
      ended = decided.ended ∙ keeps.ended;
      below = decided.below;
      room = (let was = keeps.room in omega arith);
      width = width ∙ keeps.width;
      height = height ∙ keeps.height;
    }

-- where a reading ends

-- without a bit it stands where it stood
short_reading : (answer : Decision) (said : SliceStep) (left : Course) (question : Question) (payload : List ℕ) (place : Option Interval)
    (contexts : Contexts) (spot : Spot) (zp : Decoder) (number : ℕ)
    (ask : Asking left question) → answer ≡ (outcome_of zp.table (form_of ask.asked (states_in contexts)) payload zp.ended place).answer →
    ((outcome : Outcome) (rest : Bool → At → Reading) →
    after_decision answer outcome ask.plane ask.asked ask.next (standing (states_in contexts) place number) rest
    ≡ stands said (Asks ask.plane ask.asked ask.next) (standing (states_in contexts) place number)) →
    reading_from left zp payload place (reader_of contexts spot) number ≡ stands said left (standing (states_in contexts) place number)
short_reading answer said left question payload place contexts spot zp number ask is ends =
    let from = chunk zp.table payload zp.ended in
    let at : At = standing (states_in contexts) place number in
    let outcome : Outcome = outcome_of zp.table (form_of ask.asked (states_in contexts)) payload zp.ended place in
    ap (λ (c : Course). read_on from c at) ask.is
    ∙ (ap (λ (d : Decision). after_decision d outcome ask.plane ask.asked ask.next at (λ b later. read_on from (ask.next b) later)) (sym is)
    ∙ (ends outcome (λ b later. read_on from (ask.next b) later) ∙ ap (λ (c : Course). stands said c at) (sym ask.is)))

pub ends_needs : (old_plane : Plane) (old_reader : Reader) (old : Decoder) (before : ℕ) (plane : Plane) (contexts new : Contexts) (spot : Spot)
    (zp new_zp : Decoder) (count new_count : ℕ)
    (question : Question) → Keeps old_plane old_reader old before plane (reader_of contexts spot) zp count →
    ((s : ℕ) (c : Course) → Left s c plane spot → IsAsked c question) →
    Decided question contexts zp count decision.NeedBytes new new_zp new_count → new ≡ contexts → new_zp ≡ zp →
    (slice decisions : ℕ) (payload : List ℕ) (course : Course) (place : Option Interval) → Stands slice course old_plane old_reader → Fed payload place old →
    EndsAt slice decisions payload course place old_reader old before plane (reader_of new spot) new_zp new_count step.NeedBytes
unfolding Stands
ends_needs old_plane old_reader old before plane contexts new spot zp new_zp count new_count question keeps asks decided same same_zp slice decisions
    payload course place at fed =
    let was = keeps.reads slice decisions payload course place at fed in
    let ask = asking was.left question (asks slice was.left was.stands.0) in
    record {
      left = was.left;
      here = was.here;
      number = was.number;
      reading = was.same ∙ (short_reading decision.NeedBytes step.NeedBytes was.left question payload was.here contexts spot zp was.number ask
          (decided.answers ask.asked payload was.here ask.names was.fed)
          (λ outcome rest. refl) ∙ ap (λ (c : Contexts). stands step.NeedBytes was.left (standing (states_in c) was.here was.number)) (sym same));
      tells = left_tells slice was.left plane spot was.stands.0;
      fed = subst (λ (d : Decoder). Fed payload was.here d) (sym same_zp) was.fed;
      ticks = subst (λ (n : ℕ). TicksExactly (was.number - decisions) before n) (sym decided.ticks) was.ticks;
      rest = λ short. (was.stands.0, was.stands.1);
      next = λ e. cc;
    }

pub ends_exhausted : (old_plane : Plane) (old_reader : Reader) (old : Decoder) (before : ℕ) (plane : Plane) (contexts new : Contexts) (spot : Spot)
    (zp new_zp : Decoder) (count new_count : ℕ)
    (question : Question) → Keeps old_plane old_reader old before plane (reader_of contexts spot) zp count →
    ((s : ℕ) (c : Course) → Left s c plane spot → IsAsked c question) →
    Decided question contexts zp count decision.Exhausted new new_zp new_count → new ≡ contexts → new_zp ≡ zp →
    (slice decisions : ℕ) (payload : List ℕ) (course : Course) (place : Option Interval) → Stands slice course old_plane old_reader → Fed payload place old →
    EndsAt slice decisions payload course place old_reader old before plane (reader_of new spot) new_zp new_count step.Exhausted
unfolding Stands
ends_exhausted old_plane old_reader old before plane contexts new spot zp new_zp count new_count question keeps asks decided same same_zp slice decisions
    payload course place at fed =
    let was = keeps.reads slice decisions payload course place at fed in
    let ask = asking was.left question (asks slice was.left was.stands.0) in
    record {
      left = was.left;
      here = was.here;
      number = was.number;
      reading = was.same ∙ (short_reading decision.Exhausted step.Exhausted was.left question payload was.here contexts spot zp was.number ask
          (decided.answers ask.asked payload was.here ask.names was.fed)
          (λ outcome rest. refl) ∙ ap (λ (c : Contexts). stands step.Exhausted was.left (standing (states_in c) was.here was.number)) (sym same));
      tells = left_tells slice was.left plane spot was.stands.0;
      fed = subst (λ (d : Decoder). Fed payload was.here d) (sym same_zp) was.fed;
      ticks = subst (λ (n : ℕ). TicksExactly (was.number - decisions) before n) (sym decided.ticks) was.ticks;
      rest = λ short. (was.stands.0, was.stands.1);
      next = λ e. cc;
    }

-- at the end of a slice

due_next : (slice : ℕ) (course : Course) (plane p : Plane) → course ≡ Ended p → plane_of course ≡ plane → StaySmall slice course → AreDue (slice + 1) plane
due_next slice course plane p ended tells along =
    let whole : AreDue (slice + 1) p = subst (StaySmall slice) ended along in
    subst (AreDue (slice + 1)) (sym (ap plane_of ended) ∙ tells) whole

next_stands : (slice : ℕ) (course : Course) (plane p : Plane) (contexts : Contexts) (spot new : Spot) → course ≡ Ended p →
    ((s : ℕ) (c : Course) → Left s c plane spot → Left (s + 1) (slice_course (s + 1) plane) plane new) → Stands slice course plane (reader_of contexts spot) →
    Stands (slice + 1) (slice_course (slice + 1) plane) plane (reader_of contexts new)
unfolding Stands
next_stands slice course plane p contexts spot new ended begins at =
    (begins slice course at.0, slice_stays_small (slice + 1) plane (due_next slice course plane p ended (left_tells slice course plane spot at.0) at.1))

pub ends_slice : (old_plane : Plane) (old_reader : Reader) (old : Decoder) (before : ℕ) (plane : Plane) (contexts : Contexts) (spot new : Spot)
    (zp : Decoder) (count : ℕ) →
    Keeps old_plane old_reader old before plane (reader_of contexts spot) zp count →
    ((s : ℕ) (c : Course) → Left s c plane spot → (p : Plane) × (c ≡ Ended p)) →
    ((s : ℕ) (c : Course) → Left s c plane spot → Left (s + 1) (slice_course (s + 1) plane) plane new) →
    (slice decisions : ℕ) (payload : List ℕ) (course : Course) (place : Option Interval) → Stands slice course old_plane old_reader → Fed payload place old →
    EndsAt slice decisions payload course place old_reader old before plane (reader_of contexts new) zp count step.SliceEnd
unfolding Stands
ends_slice old_plane old_reader old before plane contexts spot new zp count keeps over begins slice decisions payload course place at fed =
    let was = keeps.reads slice decisions payload course place at fed in
    let ended = over slice was.left was.stands.0 in
    let from = chunk zp.table payload zp.ended in
    let here : At = standing (states_in contexts) was.here was.number in
    record {
      left = was.left;
      here = was.here;
      number = was.number;
      reading = was.same ∙ (ap (λ (c : Course). read_on from c here) ended.1 ∙ ap (λ (c : Course). stands step.SliceEnd c here) (sym ended.1));
      tells = left_tells slice was.left plane spot was.stands.0;
      fed = was.fed;
      ticks = was.ticks;
      rest = λ short. absurd (short refl);
      next = λ e. next_stands slice was.left plane ended.0 contexts spot new ended.1 begins was.stands;
    }

pub next_somewhere : (plane : Plane) (contexts : Contexts) (spot new : Spot) → StandsSomewhere plane (reader_of contexts spot) →
    ((s : ℕ) (c : Course) → Left s c plane spot → (p : Plane) × (c ≡ Ended p)) →
    ((s : ℕ) (c : Course) → Left s c plane spot → Left (s + 1) (slice_course (s + 1) plane) plane new) → StandsSomewhere plane (reader_of contexts new)
unfolding Stands
next_somewhere plane contexts spot new somewhere over begins =
    let ended = over somewhere.0 somewhere.1 somewhere.2.0 in
    (somewhere.0 + 1, slice_course (somewhere.0 + 1) plane, next_stands somewhere.0 somewhere.1 plane ended.0 contexts spot new ended.1 begins somewhere.2)

-- what a caller is told

module _ (slice decisions : ℕ) (payload : List ℕ) (course : Course) (place : Option Interval) (old_reader : Reader) (old : Decoder) (before : ℕ)
    (plane : Plane) (reader : Reader) (zp : Decoder) (count : ℕ) (answer : SliceStep)
    (ends : EndsAt slice decisions payload course place old_reader old before plane reader zp count answer) where
  abbrev whole : Reading
  whole = reading_from course old payload place old_reader decisions

  pub told_answer : answer ≡ whole.answer
  told_answer = sym (ap (λ (r : Reading). r.answer) ends.reading)

  pub told_plane : plane ≡ plane_of whole.left
  told_plane = sym (ap (λ (r : Reading). plane_of r.left) ends.reading ∙ ends.tells)

  pub told_states : states_of reader ≡ whole.at.states
  told_states = sym (ap (λ (r : Reading). r.at.states) ends.reading)

  pub told_fed : Fed payload whole.at.place zp
  told_fed = subst (λ (p : Option Interval). Fed payload p zp) (sym (ap (λ (r : Reading). r.at.place) ends.reading)) ends.fed

  pub told_ticks : TicksExactly (whole.at.decisions - decisions) before count
  told_ticks = subst (λ (n : ℕ). TicksExactly (n - decisions) before count) (sym (ap (λ (r : Reading). r.at.decisions) ends.reading)) ends.ticks

  pub told_rest : answer ≢ step.SliceEnd → Stands slice whole.left plane reader
  told_rest short = subst (λ (c : Course). Stands slice c plane reader) (sym (ap (λ (r : Reading). r.left) ends.reading)) (ends.rest short)
