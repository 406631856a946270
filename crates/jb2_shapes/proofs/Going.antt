-- A loop over pixels does what the definition does.
use Rattle.std.proofs.Common.{◌≡◌, ℕ, suc, ◌+◌, ◌-◌, ◌<◌, ◌≤◌, Bool, true, false, List, length, Option, ℤ, pos, refl, ap, sym, subst, ◌∙◌, arith, inl, inr, eqb, eq-eqb}
use Rattle.std.proofs.lemmas.Bool.{cases_lt}
use Rattle.djvu_base.specs.Meter.{ticked, ticked_once}
use Rattle.djvu_base.proofs.Ticks.{ticked_none, ticks_next}
use Rattle.zp_table.specs.declared.rows.Row.{Row}
use Rattle.zp_decoder.specs.declared.decoder.Decision.{Decision}
use Rattle.zp_decoder.specs.declared.decoder.Decision.TheVariants as decision
use Rattle.zp_decoder.specs.Decision.{Interval, Outcome, Adaptive, outcome_of, counted}
use Rattle.zp_decoder.specs.Decoder.{Decoder, Fed, room_left}
use Rattle.bit_plane.specs.Pixels.{Pixels}
use Rattle.jb2_shapes.specs.declared.steps.ShapeStep.{ShapeStep}
use Rattle.jb2_shapes.specs.declared.steps.ShapeStep.TheVariants as step
use Rattle.zp_decoder.specs.States.{States, AreBelow, with_state}
use Rattle.jb2_shapes.specs.Numbers.{number_of}
use Rattle.jb2_shapes.specs.Shape.{Sketch, Progress, Reading, IsUnread, IsWhole, column_of, row_of, left_of, progress, stands, with_pixel, after_decision, read_pixels, reading_of}
use Rattle.jb2_shapes.specs.Steps.{IsReading, GoesOn, Counts, Keeps}

abbrev pub Context : Type 0
Context = Pixels → ℤ → ℤ → List Bool

-- the colours that name the context of the next pixel
abbrev pub next_colours : (Pixels → ℤ → ℤ → List Bool) → Sketch → List Bool
next_colours context sketch = context sketch.shape (pos (column_of sketch)) (pos (row_of sketch))

-- the decision of the next pixel
abbrev pub next_outcome : (Pixels → ℤ → ℤ → List Bool) → Decoder → Sketch → States → List ℕ → Option Interval → Outcome
next_outcome context zp sketch states payload place = outcome_of zp.table (Adaptive (states (next_colours context sketch))) payload zp.ended place

-- ---- the definition, unfolded once

pub left_after : (sketch : Sketch) (bit : Bool) → IsUnread sketch → left_of sketch ≡ suc (left_of (with_pixel sketch bit))
left_after sketch true unread = omega arith
left_after sketch false unread = omega arith

-- after a decision with this outcome
abbrev later : Context → List Row → List ℕ → Bool → ℕ → Decision → Outcome → Progress → Reading
later context rows payload ended left answer outcome at =
    after_decision answer outcome (next_colours context at.sketch) at (λ next. read_pixels context rows payload ended left next)

unfolded : (context : Context) (rows : List Row) (payload : List ℕ) (ended : Bool) (at : Progress) (answer : Decision) → IsUnread at.sketch →
    (outcome_of rows (Adaptive (at.states (next_colours context at.sketch))) payload ended at.place).answer ≡ answer →
    reading_of context rows payload ended at
    ≡ later context rows payload ended (left_of (with_pixel at.sketch true)) answer (outcome_of rows (Adaptive (at.states (next_colours context at.sketch))) payload ended at.place) at
unfolded context rows payload ended at answer unread e =
    ap (λ left. read_pixels context rows payload ended left at) (left_after at.sketch true unread)
    ∙ ap (λ d. later context rows payload ended (left_of (with_pixel at.sketch true)) d (outcome_of rows (Adaptive (at.states (next_colours context at.sketch))) payload ended at.place) at) e

same_left : (sketch : Sketch) (bit : Bool) → left_of (with_pixel sketch true) ≡ left_of (with_pixel sketch bit)
same_left sketch true = refl
same_left sketch false = refl

-- a bit is the next pixel, and the rest is read from there
pub after_bit : (context : Context) (rows : List Row) (payload : List ℕ) (ended : Bool) (at : Progress) (bit : Bool) → IsUnread at.sketch →
    (outcome_of rows (Adaptive (at.states (next_colours context at.sketch))) payload ended at.place).answer ≡ decision.Bit bit →
    reading_of context rows payload ended at
    ≡ reading_of context rows payload ended (progress (with_pixel at.sketch bit)
    (with_state at.states (next_colours context at.sketch) (outcome_of rows (Adaptive (at.states (next_colours context at.sketch))) payload ended at.place).state)
    (outcome_of rows (Adaptive (at.states (next_colours context at.sketch))) payload ended at.place).place)
after_bit context rows payload ended at bit unread e =
    unfolded context rows payload ended at (decision.Bit bit) unread e
    ∙ ap (λ left. read_pixels context rows payload ended left (progress (with_pixel at.sketch bit)
    (with_state at.states (next_colours context at.sketch) (outcome_of rows (Adaptive (at.states (next_colours context at.sketch))) payload ended at.place).state)
    (outcome_of rows (Adaptive (at.states (next_colours context at.sketch))) payload ended at.place).place)) (same_left at.sketch bit)

-- where nothing is left, it is done
at_end : (context : Context) (rows : List Row) (payload : List ℕ) (ended : Bool) (at : Progress) → IsWhole at.sketch →
    reading_of context rows payload ended at ≡ stands step.Done at
at_end context rows payload ended at whole =
    let none : left_of at.sketch ≡ 0 = omega (arith, whole) in
    ap (λ left. read_pixels context rows payload ended left at) none

-- ---- what a loop keeps

pub keeps_first : (context : Context) (zp : Decoder) (sketch : Sketch) (states : States) (count : ℕ) → AreBelow (length zp.table) states →
    Keeps context zp sketch states count zp sketch states count
keeps_first context zp sketch states count below =
    let none : sketch.number - sketch.number ≡ 0 = omega arith in
    record {
      goes_on = λ payload place fed. record { place = place; fed = fed; same = refl };
      table = refl;
      ended = refl;
      below = below;
      room = omega arith;
      counts = record { width = refl; height = refl; grows = omega arith; ticks = sym (ticked_none count) ∙ ap (λ n. ticked n count) (sym none) };
    }

one_more : (sketch : Sketch) (bit : Bool) → (with_pixel sketch bit).number ≡ sketch.number + 1
one_more sketch true = refl
one_more sketch false = refl

same_width : (sketch : Sketch) (bit : Bool) → (with_pixel sketch bit).shape.width ≡ sketch.shape.width
same_width sketch true = refl
same_width sketch false = refl

same_height : (sketch : Sketch) (bit : Bool) → (with_pixel sketch bit).shape.height ≡ sketch.shape.height
same_height sketch true = refl
same_height sketch false = refl

counts_on : (count : ℕ) (old now new : Sketch) (now_count new_count : ℕ) (bit : Bool) → Counts count old now_count now →
    new ≡ with_pixel now bit → new_count ≡ ticked_once now_count → Counts count old new_count new
counts_on count old now new now_count new_count bit counts is ticks =
    let more : new.number ≡ now.number + 1 = ap (λ (s : Sketch). s.number) is ∙ one_more now bit in
    let grows = counts.grows in
    let difference : suc (now.number - old.number) ≡ new.number - old.number = omega arith in
    record {
      width = ap (λ (s : Sketch). s.shape.width) is ∙ same_width now bit ∙ counts.width;
      height = ap (λ (s : Sketch). s.shape.height) is ∙ same_height now bit ∙ counts.height;
      grows = omega arith;
      ticks =
          ticks_next (now.number - old.number) count now_count new_count counts.ticks ticks ∙ ap (λ n. ticked n count) difference;
    }

-- from a decision that gave a bit, a reading goes on
goes_after_bit : (context : Context) (payload : List ℕ) (rows : List Row) (ended : Bool) (start : Progress)
    (now new : Decoder) (sketch new_sketch : Sketch) (states new_states : States) (bit : Bool) →
    rows ≡ now.table → ended ≡ now.ended →
    GoesOn context rows payload ended start sketch states now → IsUnread sketch →
    ((place : Option Interval) → Fed payload place now → decision.Bit bit ≡ (next_outcome context now sketch states payload place).answer) →
    ((place : Option Interval) → Fed payload place now → Fed payload (next_outcome context now sketch states payload place).place new) →
    ((place : Option Interval) → Fed payload place now → new_states ≡ with_state states (next_colours context sketch) (next_outcome context now sketch states payload place).state) →
    new_sketch ≡ with_pixel sketch bit →
    GoesOn context rows payload ended start new_sketch new_states new
goes_after_bit context payload rows ended start now new sketch new_sketch states new_states bit table end goes unread answer fed moved pixel =
    let outcome = next_outcome context now sketch states payload goes.place in
    let told : (outcome_of rows (Adaptive (states (next_colours context sketch))) payload ended goes.place).answer ≡ decision.Bit bit =
    ap (λ r. (outcome_of r (Adaptive (states (next_colours context sketch))) payload ended goes.place).answer) table
    ∙ ap (λ e. (outcome_of now.table (Adaptive (states (next_colours context sketch))) payload e goes.place).answer) end
    ∙ sym (answer goes.place goes.fed) in
    let same : outcome_of rows (Adaptive (states (next_colours context sketch))) payload ended goes.place ≡ outcome =
    ap (λ r. outcome_of r (Adaptive (states (next_colours context sketch))) payload ended goes.place) table
    ∙ ap (λ e. outcome_of now.table (Adaptive (states (next_colours context sketch))) payload e goes.place) end in
    record {
      place = outcome.place;
      fed = fed goes.place goes.fed;
      same =
          goes.same
          ∙ after_bit context rows payload ended (progress sketch states goes.place) bit unread told
          ∙ ap (λ (o : Outcome). reading_of context rows payload ended (progress (with_pixel sketch bit) (with_state states (next_colours context sketch) o.state) o.place)) same
          ∙ ap (λ s. reading_of context rows payload ended (progress s (with_state states (next_colours context sketch) outcome.state) outcome.place)) (sym pixel)
          ∙ ap (λ s. reading_of context rows payload ended (progress new_sketch s outcome.place)) (sym (moved goes.place goes.fed));
    }

-- what is told of the decision of the next pixel
pub record Decided (context : Pixels → ℤ → ℤ → List Bool) (now : Decoder) (sketch : Sketch) (states : States) (count : ℕ) (answer : Decision)
    (new : Decoder) (new_sketch : Sketch) (new_states : States) (new_count : ℕ) : Type 0 where
  pub answered : (payload : List ℕ) (place : Option Interval) → Fed payload place now → answer ≡ (next_outcome context now sketch states payload place).answer
  pub fed : (payload : List ℕ) (place : Option Interval) → Fed payload place now → Fed payload (next_outcome context now sketch states payload place).place new
  pub moved : (bit : Bool) → answer ≡ decision.Bit bit → (payload : List ℕ) (place : Option Interval) → Fed payload place now →
      new_states ≡ with_state states (next_colours context sketch) (next_outcome context now sketch states payload place).state
  pub pixel : (bit : Bool) → answer ≡ decision.Bit bit → new_sketch ≡ with_pixel sketch bit
  pub below : AreBelow (length new.table) new_states
  pub room : room_left new ≤ room_left now
  pub table : new.table ≡ now.table
  pub ended : new.ended ≡ now.ended
  pub ticks : new_count ≡ counted answer count

-- the same, where the context goes by its number
pub decided_by : (context : Pixels → ℤ → ℤ → List Bool) (now : Decoder) (sketch : Sketch) (states : States) (count : ℕ) (answer : Decision)
    (new : Decoder) (new_sketch : Sketch) (new_states : States) (new_count number : ℕ) → number_of (next_colours context sketch) ≡ number →
    ((colours : List Bool) (payload : List ℕ) (place : Option Interval) → number_of colours ≡ number → Fed payload place now →
    answer ≡ (outcome_of now.table (Adaptive (states colours)) payload now.ended place).answer) →
    ((colours : List Bool) (payload : List ℕ) (place : Option Interval) → number_of colours ≡ number → Fed payload place now →
    Fed payload (outcome_of now.table (Adaptive (states colours)) payload now.ended place).place new) →
    ((bit : Bool) → answer ≡ decision.Bit bit → (colours : List Bool) (payload : List ℕ) (place : Option Interval) → number_of colours ≡ number → Fed payload place now →
    new_states ≡ with_state states colours (outcome_of now.table (Adaptive (states colours)) payload now.ended place).state) →
    ((bit : Bool) → answer ≡ decision.Bit bit → new_sketch ≡ with_pixel sketch bit) →
    AreBelow (length new.table) new_states → room_left new ≤ room_left now → new.table ≡ now.table → new.ended ≡ now.ended → new_count ≡ counted answer count →
    Decided context now sketch states count answer new new_sketch new_states new_count
decided_by context now sketch states count answer new new_sketch new_states new_count number is answered fed moved pixel below room table ended ticks =
    let colours = next_colours context sketch in
    record {
      answered = λ payload place f. answered colours payload place is f;
      fed = λ payload place f. fed colours payload place is f;
      moved = λ bit e payload place f. moved bit e colours payload place is f;
      pixel = pixel;
      below = below;
      room = room;
      table = table;
      ended = ended;
      ticks = ticks;
    }

pub keeps_bit : (context : Pixels → ℤ → ℤ → List Bool) (old : Decoder) (old_sketch : Sketch) (old_states : States) (old_count : ℕ)
    (now : Decoder) (sketch : Sketch) (states : States) (count : ℕ) (answer : Decision)
    (new : Decoder) (new_sketch : Sketch) (new_states : States) (new_count : ℕ) (bit : Bool) →
    Keeps context old old_sketch old_states old_count now sketch states count → IsUnread sketch →
    Decided context now sketch states count answer new new_sketch new_states new_count → answer ≡ decision.Bit bit →
    Keeps context old old_sketch old_states old_count new new_sketch new_states new_count
keeps_bit context old old_sketch old_states old_count now sketch states count answer new new_sketch new_states new_count bit kept unread decided is =
    record {
      goes_on = λ payload place fed.
          goes_after_bit context payload old.table old.ended (progress old_sketch old_states place) now new sketch new_sketch states new_states bit
          (sym kept.table) (sym kept.ended) (kept.goes_on payload place fed) unread
          (λ place f. sym is ∙ decided.answered payload place f) (decided.fed payload) (decided.moved bit is payload) (decided.pixel bit is);
      table = decided.table ∙ kept.table;
      ended = decided.ended ∙ kept.ended;
      below = decided.below;
      room = let first = kept.room in let last = decided.room in omega arith;
      counts = counts_on old_count old_sketch sketch new_sketch count new_count bit kept.counts (decided.pixel bit is) (decided.ticks ∙ ap (λ a. counted a count) is);
    }

-- ---- where it stops

reading_is : (reading : Reading) (payload : List ℕ) (told : ShapeStep) (sketch : Sketch) (states : States) (place : Option Interval) (zp : Decoder) →
    reading ≡ stands told (progress sketch states place) → Fed payload place zp → IsReading reading payload told sketch states zp
reading_is reading payload told sketch states place zp e fed =
    record {
      answer = sym (ap (λ (r : Reading). r.answer) e);
      sketch = sym (ap (λ (r : Reading). r.at.sketch) e);
      states = sym (ap (λ (r : Reading). r.at.states) e);
      fed = subst (λ (r : Reading). Fed payload r.at.place zp) (sym e) fed;
    }

pub whole_reading : (context : Pixels → ℤ → ℤ → List Bool) (old : Decoder) (old_sketch : Sketch) (old_states : States) (old_count : ℕ)
    (now : Decoder) (sketch : Sketch) (states : States) (count : ℕ) →
    Keeps context old old_sketch old_states old_count now sketch states count → IsWhole sketch → (payload : List ℕ) (place : Option Interval) → Fed payload place old →
    IsReading (reading_of context old.table payload old.ended (progress old_sketch old_states place)) payload step.Done sketch states now
whole_reading context old old_sketch old_states old_count now sketch states count kept whole payload place fed =
    let goes = kept.goes_on payload place fed in
    reading_is _ payload step.Done sketch states goes.place now (goes.same ∙ at_end context old.table payload old.ended (progress sketch states goes.place) whole) goes.fed

stopped : (context : Context) (rows : List Row) (payload : List ℕ) (ended : Bool) (start : Progress)
    (now : Decoder) (sketch : Sketch) (states : States) → rows ≡ now.table → ended ≡ now.ended →
    GoesOn context rows payload ended start sketch states now → IsUnread sketch → (answer : Decision) → (told : ShapeStep) →
    ((left : ℕ) (outcome : Outcome) (at : Progress) → later context rows payload ended left answer outcome at ≡ stands told at) →
    ((place : Option Interval) → Fed payload place now → answer ≡ (next_outcome context now sketch states payload place).answer) →
    IsReading (reading_of context rows payload ended start) payload told sketch states now
stopped context rows payload ended start now sketch states table end goes unread answer told stops answered =
    let is : (outcome_of rows (Adaptive (states (next_colours context sketch))) payload ended goes.place).answer ≡ answer =
    ap (λ r. (outcome_of r (Adaptive (states (next_colours context sketch))) payload ended goes.place).answer) table
    ∙ ap (λ e. (outcome_of now.table (Adaptive (states (next_colours context sketch))) payload e goes.place).answer) end
    ∙ sym (answered goes.place goes.fed) in
    reading_is _ payload told sketch states goes.place now
    (goes.same ∙ unfolded context rows payload ended (progress sketch states goes.place) answer unread is
    ∙ stops (left_of (with_pixel sketch true)) (outcome_of rows (Adaptive (states (next_colours context sketch))) payload ended goes.place) (progress sketch states goes.place))
    goes.fed

same_reading : (reading : Reading) (payload : List ℕ) (told : ShapeStep) (sketch new_sketch : Sketch) (states new_states : States) (zp new : Decoder) →
    new_sketch ≡ sketch → new_states ≡ states → new ≡ zp → IsReading reading payload told sketch states zp → IsReading reading payload told new_sketch new_states new
same_reading reading payload told sketch new_sketch states new_states zp new p q r is =
    record { answer = is.answer; sketch = p ∙ is.sketch; states = q ∙ is.states; fed = subst (λ z. Fed payload reading.at.place z) (sym r) is.fed }

pub needs_reading : (context : Pixels → ℤ → ℤ → List Bool) (old : Decoder) (old_sketch : Sketch) (old_states : States) (old_count : ℕ)
    (now : Decoder) (sketch : Sketch) (states : States) (count : ℕ) (answer : Decision)
    (new : Decoder) (new_sketch : Sketch) (new_states : States) (new_count : ℕ) →
    Keeps context old old_sketch old_states old_count now sketch states count → IsUnread sketch →
    Decided context now sketch states count answer new new_sketch new_states new_count → answer ≡ decision.NeedBytes →
    new_sketch ≡ sketch → new_states ≡ states → new ≡ now →
    (payload : List ℕ) (place : Option Interval) → Fed payload place old →
    IsReading (reading_of context old.table payload old.ended (progress old_sketch old_states place)) payload step.NeedBytes new_sketch new_states new
needs_reading context old old_sketch old_states old_count now sketch states count answer new new_sketch new_states new_count kept unread decided is p q r payload place fed =
    same_reading _ payload step.NeedBytes sketch new_sketch states new_states now new p q r
    (stopped context old.table payload old.ended (progress old_sketch old_states place) now sketch states (sym kept.table) (sym kept.ended)
    (kept.goes_on payload place fed) unread decision.NeedBytes step.NeedBytes (λ left outcome at. refl) (λ place f. sym is ∙ decided.answered payload place f))

pub exhausted_reading : (context : Pixels → ℤ → ℤ → List Bool) (old : Decoder) (old_sketch : Sketch) (old_states : States) (old_count : ℕ)
    (now : Decoder) (sketch : Sketch) (states : States) (count : ℕ) (answer : Decision)
    (new : Decoder) (new_sketch : Sketch) (new_states : States) (new_count : ℕ) →
    Keeps context old old_sketch old_states old_count now sketch states count → IsUnread sketch →
    Decided context now sketch states count answer new new_sketch new_states new_count → answer ≡ decision.Exhausted →
    new_sketch ≡ sketch → new_states ≡ states → new ≡ now →
    (payload : List ℕ) (place : Option Interval) → Fed payload place old →
    IsReading (reading_of context old.table payload old.ended (progress old_sketch old_states place)) payload step.Exhausted new_sketch new_states new
exhausted_reading context old old_sketch old_states old_count now sketch states count answer new new_sketch new_states new_count kept unread decided is p q r payload place fed =
    same_reading _ payload step.Exhausted sketch new_sketch states new_states now new p q r
    (stopped context old.table payload old.ended (progress old_sketch old_states place) now sketch states (sym kept.table) (sym kept.ended)
    (kept.goes_on payload place fed) unread decision.Exhausted step.Exhausted (λ left outcome at. refl) (λ place f. sym is ∙ decided.answered payload place f))

-- counts where nothing was read
pub counts_same : (count : ℕ) (old now new : Sketch) (now_count new_count : ℕ) → Counts count old now_count now → new ≡ now → new_count ≡ now_count →
    Counts count old new_count new
counts_same count old now new now_count new_count counts p q =
    let number : new.number ≡ now.number = ap (λ (s : Sketch). s.number) p in
    let grows = counts.grows in
    record {
      width = ap (λ (s : Sketch). s.shape.width) p ∙ counts.width;
      height = ap (λ (s : Sketch). s.shape.height) p ∙ counts.height;
      grows = omega arith;
      ticks = q ∙ counts.ticks ∙ ap (λ n. ticked (n - old.number) count) (sym number);
    }

false-is-true : false ≡ true → ⊥
false-is-true e = cc

pub still_unread : (number area : ℕ) → number ≤ area → false ≡ eqb number area → number < area
still_unread number area within differs =
    elim (cases_lt number area) [
      | inl less ↦ less
      | inr more ↦ let same = eq-eqb number area (omega arith) in absurd (false-is-true (differs ∙ same))
    ]

-- a pixel more leaves fewer
pub fewer_left : (old new : Sketch) (bit : Bool) → IsUnread old → new ≡ with_pixel old bit → left_of new < left_of old
fewer_left old new bit unread is = let more = left_after old bit unread in let same : left_of new ≡ left_of (with_pixel old bit) = ap left_of is in omega arith
