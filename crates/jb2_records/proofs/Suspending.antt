-- A reading that is suspended: whatever its chunk becomes, what was read stays, and what is read from there on follows.
use Rattle.std.proofs.Common.{◌≡◌, ◌≤◌, ℕ, ℤ, Bool, false, List, ◌++◌, length, refl, sym, ap, subst, ◌∙◌, arith}
use Rattle.std.specs.Prelude.{Option, Some, None, Err}
use Rattle.zp_table.specs.declared.rows.Row.{Row}
use Rattle.djvu_base.specs.Meter.{ticked, TicksExactly}
use Rattle.djvu_base.proofs.Ticks.{ticked_more}
use Rattle.djvu_base.specs.declared.faults.FaultKind.{FaultKind}
use Rattle.zp_decoder.specs.Runs.{room}
use Rattle.zp_decoder.specs.Chunk.{Chunk, chunk}
use Rattle.bit_plane.specs.Pixels.{Pixels}
use Rattle.jb2_numbers.specs.declared.roots.Root.{Root}
use Rattle.jb2_records.specs.declared.stops.Stop.{Stop}
use Rattle.jb2_records.specs.declared.stops.Stop.TheVariants as stop
use Rattle.jb2_records.specs.declared.steps.Step.{Step}
use Rattle.jb2_records.specs.declared.machine.Machine.{Machine}
use Rattle.jb2_records.specs.declared.reader.Jb2Step.TheVariants as answer
use Rattle.jb2_records.specs.Records.{Record}
use Rattle.jb2_records.specs.Coding.{Coder, Why, Need, Wrong, Read, Got, Stops, then_read, checked, read_number, read_flag, read_row, read_direct, read_refined}
use Rattle.jb2_records.specs.Reading.{Input, Outcome, outcome, answer_of, records_of, records_from, most_records}
use Rattle.jb2_records.specs.Growth.{IsSound}
use Rattle.jb2_records.specs.Taking.{Becomes, stays, grows}
use Rattle.jb2_records.specs.Telling.{Parts, Stands, Comes, decisions_of, Goes}
use Rattle.jb2_records.specs.Library.{Library}
use Rattle.jb2_records.specs.Picture.{Picture}
use Rattle.jb2_records.specs.Steps.{rest_of}
use Rattle.jb2_records.specs.Machine.{with_chunk, reads_on, Follows, Continues, Waits, Answers, HaltsAt, halt_of}
use Rattle.jb2_records.proofs.Offering.{standing_more}
use Rattle.jb2_records.proofs.Keeping.{Stays, Leaves, leaves_stops}
use Rattle.jb2_records.proofs.Continuing as continuing
use Rattle.jb2_records.proofs.Continuing.{Beside, number_goes, flag_goes, row_goes, direct_goes, refined_goes}
use Rattle.jb2_records.proofs.Leaving.{stays_at, number_leaves_room, flag_leaves_less, row_leaves_less, direct_leaves_room, refined_leaves_room}
use Rattle.jb2_records.proofs.Ending.{Extends, extends_record, extends_from}

-- what was got of some bytes is got of more
beside_got : {A : Type 0} (long : Chunk) (left : ℕ) (a b : Read A) (value : A) (next : Coder) → Beside A long left a b → a ≡ Got value next →
    b ≡ Got value next
beside_got long left a b value next (continuing.same e) got = sym e ∙ got
beside_got long left a b value next (continuing.waits decisions e leaves) got = absurd (let same = sym e ∙ got in cc)

-- this is read, whatever the chunk becomes, and then there is no more room
pub record Reaches (A : Type 0) (ask : Chunk → Read A) (value : A) (at next : Coder) (later : Chunk) : Type 0 where
  pub same : ask later ≡ Got value next
  pub less : room later.payload next.place ≤ room later.payload at.place

module _ (rows : List Row) (payload more : List ℕ) (ended : Bool) (at next : Coder) (sound : IsSound (chunk rows payload false) at) where
  abbrev short : Chunk
  short = chunk rows payload false

  abbrev long : Chunk
  long = chunk rows (payload ++ more) ended

  sound_longer : IsSound long at
  sound_longer = record {
    table = sound.table;
    standing = standing_more payload more at.place sound.standing;
    numbers = sound.numbers;
    pixels = sound.pixels;
    flag = sound.flag;
    row = sound.row;
  }

  abbrev left_at : ℕ
  left_at = room (payload ++ more) at.place

  number_longer : (root : Root) (low high value : ℤ) → read_number short root low high at ≡ Got value next → Reaches ℤ
      (λ later. read_number later root low high at) value at next long
  number_longer root low high value is =
      let same : read_number long root low high at ≡ Got value next =
      beside_got long left_at _ _ value next (number_goes rows payload more ended sound.table left_at root low high at.decisions at
      (stays_at long at sound_longer)).beside is in
      record { same = same; less = (number_leaves_room long at next sound_longer root low high value same).1 }

  flag_longer : (value : Bool) → read_flag short at ≡ Got value next → Reaches Bool (λ later. read_flag later at) value at next long
  flag_longer value is =
      let same : read_flag long at ≡ Got value next =
      beside_got long left_at _ _ value next (flag_goes rows payload more ended sound.table left_at at.decisions at
      (stays_at long at sound_longer)).beside is in
      let less = (flag_leaves_less long at next sound_longer value same).1 in
      record { same = same; less = omega (arith, less) }

  row_longer : (value : Bool) → read_row short at ≡ Got value next → Reaches Bool (λ later. read_row later at) value at next long
  row_longer value is =
      let same : read_row long at ≡ Got value next =
      beside_got long left_at _ _ value next (row_goes rows payload more ended sound.table left_at at.decisions at
      (stays_at long at sound_longer)).beside is in
      let less = (row_leaves_less long at next sound_longer value same).1 in
      record { same = same; less = omega (arith, less) }

  direct_longer : (width height : ℕ) (value : Pixels) → read_direct short width height at ≡ Got value next → Reaches Pixels
      (λ later. read_direct later width height at) value at next long
  direct_longer width height value is =
      let same : read_direct long width height at ≡ Got value next =
      beside_got long left_at _ _ value next (direct_goes rows payload more ended sound.table left_at width height at.decisions at
      (stays_at long at sound_longer)).beside is in
      record { same = same; less = (direct_leaves_room long at next sound_longer width height value same).1 }

  refined_longer : (matched : Pixels) (width height : ℕ) (value : Pixels) → read_refined short matched width height at ≡ Got value next →
      Reaches Pixels (λ later. read_refined later matched width height at) value at next long
  refined_longer matched width height value is =
      let same : read_refined long matched width height at ≡ Got value next =
      beside_got long left_at _ _ value next (refined_goes rows payload more ended sound.table left_at matched width height at.decisions at
      (stays_at long at sound_longer)).beside is in
      record { same = same; less = (refined_leaves_room long at next sound_longer matched width height value same).1 }

-- a chunk that hasn't ended, by its parts
opened : (source : Chunk) (at : Coder) → source.ended ≡ false → IsSound source at → IsSound (chunk source.table source.payload false) at
opened source at goes sound = subst (λ (b : Bool). IsSound (chunk source.table source.payload b) at) goes sound

open_got : {A : Type 0} (ask : Chunk → Read A) (source : Chunk) (value : A) (next : Coder) → source.ended ≡ false → ask source ≡ Got value next → ask
    (chunk source.table source.payload false) ≡ Got value next
open_got ask source value next goes is = subst (λ (b : Bool). ask (chunk source.table source.payload b) ≡ Got value next) goes is

pub number_reaches : (source : Chunk) (root : Root) (low high value : ℤ) (at next : Coder) → IsSound source at →
    read_number source root low high at ≡ Got value next →
    (later : Chunk) → Becomes source later → Reaches ℤ (λ later. read_number later root low high at) value at next later
number_reaches source root low high value at next sound is later (stays e) =
    subst (Reaches ℤ (λ later. read_number later root low high at) value at next) (sym e)
    (record { same = is; less = (number_leaves_room source at next sound root low high value is).1 })
number_reaches source root low high value at next sound is later (grows goes more ended e) =
    subst (Reaches ℤ (λ later. read_number later root low high at) value at next) (sym e)
    (number_longer source.table source.payload more ended at next (opened source at goes sound) root low high value
    (open_got (λ c. read_number c root low high at) source value next goes is))

pub flag_reaches : (source : Chunk) (value : Bool) (at next : Coder) → IsSound source at → read_flag source at ≡ Got value next →
    (later : Chunk) → Becomes source later → Reaches Bool (λ later. read_flag later at) value at next later
flag_reaches source value at next sound is later (stays e) =
    let less = (flag_leaves_less source at next sound value is).1 in
    subst (Reaches Bool (λ later. read_flag later at) value at next) (sym e) (record { same = is; less = omega (arith, less) })
flag_reaches source value at next sound is later (grows goes more ended e) =
    subst (Reaches Bool (λ later. read_flag later at) value at next) (sym e)
    (flag_longer source.table source.payload more ended at next (opened source at goes sound) value (open_got (λ c. read_flag c at) source value next goes is))

pub row_reaches : (source : Chunk) (value : Bool) (at next : Coder) → IsSound source at → read_row source at ≡ Got value next →
    (later : Chunk) → Becomes source later → Reaches Bool (λ later. read_row later at) value at next later
row_reaches source value at next sound is later (stays e) =
    let less = (row_leaves_less source at next sound value is).1 in
    subst (Reaches Bool (λ later. read_row later at) value at next) (sym e) (record { same = is; less = omega (arith, less) })
row_reaches source value at next sound is later (grows goes more ended e) =
    subst (Reaches Bool (λ later. read_row later at) value at next) (sym e)
    (row_longer source.table source.payload more ended at next (opened source at goes sound) value (open_got (λ c. read_row c at) source value next goes is))

pub direct_reaches : (source : Chunk) (width height : ℕ) (value : Pixels) (at next : Coder) → IsSound source at →
    read_direct source width height at ≡ Got value next →
    (later : Chunk) → Becomes source later → Reaches Pixels (λ later. read_direct later width height at) value at next later
direct_reaches source width height value at next sound is later (stays e) =
    subst (Reaches Pixels (λ later. read_direct later width height at) value at next) (sym e)
    (record { same = is; less = (direct_leaves_room source at next sound width height value is).1 })
direct_reaches source width height value at next sound is later (grows goes more ended e) =
    subst (Reaches Pixels (λ later. read_direct later width height at) value at next) (sym e)
    (direct_longer source.table source.payload more ended at next (opened source at goes sound) width height value
    (open_got (λ c. read_direct c width height at) source value next goes is))

pub refined_reaches : (source : Chunk) (matched : Pixels) (width height : ℕ) (value : Pixels) (at next : Coder) → IsSound source at →
    read_refined source matched width height at ≡ Got value next →
    (later : Chunk) → Becomes source later → Reaches Pixels (λ later. read_refined later matched width height at) value at next later
refined_reaches source matched width height value at next sound is later (stays e) =
    subst (Reaches Pixels (λ later. read_refined later matched width height at) value at next) (sym e)
    (record { same = is; less = (refined_leaves_room source at next sound matched width height value is).1 })
refined_reaches source matched width height value at next sound is later (grows goes more ended e) =
    subst (Reaches Pixels (λ later. read_refined later matched width height at) value at next) (sym e)
    (refined_longer source.table source.payload more ended at next (opened source at goes sound) matched width height value
    (open_got (λ c. read_refined c matched width height at) source value next goes is))

pub sound_becomes : (source later : Chunk) (at : Coder) → Becomes source later → IsSound source at → IsSound later at
sound_becomes source later at (stays e) sound = subst (λ (c : Chunk). IsSound c at) (sym e) sound
sound_becomes source later at (grows goes more ended e) sound =
    subst (λ (c : Chunk). IsSound c at) (sym e) (sound_longer source.table source.payload more ended at at (opened source at goes sound))

-- a question was answered
pub answered : {A : Type 0} (input : Input) (ask : Input → List Record → Coder → Read A)
    (rest : Input → List Record → List ℕ → A → Coder → Read Record) (stands : List Record → Coder → Type 0)
    (library : Library) (picture : Option Picture) (units : ℕ) (value : A) (parts : Parts)
    (c : Continues input (λ later before text at. then_read (ask later before at) (λ value at. rest later before text value at)) stands library picture units)
    (came : Comes input.chunk (ask input c.before c.at) value parts) →
    ((later : Chunk) → Becomes input.chunk later → Reaches A (λ later. ask (with_chunk input later) c.before c.at) value c.at came.next later) →
    Continues input (λ later before text at. rest later before text value at) (λ before at. Stands input.chunk at parts) library picture units
answered input ask rest stands library picture units value parts c came reaches = record {
  before = c.before;
  text = c.text;
  at = came.next;
  sound = came.stands.sound;
  goes = λ later becomes.
      let was : Follows (with_chunk input later) c.before c.at (then_read (ask (with_chunk input later) c.before c.at)
      (λ value at. rest (with_chunk input later) c.before c.text value at)) = c.goes later becomes in
      let there = reaches later becomes in
      let no_more = there.less in
      let fits = was.less in
      record {
        same = was.same ∙ ap (λ (r : Read _). reads_on (with_chunk input later) c.before
            (then_read r (λ value at. rest (with_chunk input later) c.before c.text value at))) there.same;
        less = omega (arith, no_more, fits);
      };
  stands_there = came.stands;
  keeps = c.keeps;
  draws = c.draws;
  count = c.count;
}

-- a check found nothing
pub passed : (input : Input) (found : Input → List Record → Option FaultKind) (rest : Input → List Record → List ℕ → Coder → Read Record)
    (stands : List Record → Coder → Type 0)
    (library : Library) (picture : Option Picture) (units : ℕ)
    (c : Continues input (λ later before text at. checked (found later before) at (λ at. rest later before text at)) stands library picture units) →
    ((later : Chunk) → found (with_chunk input later) c.before ≡ None) → Continues input rest stands library picture units
passed input found rest stands library picture units c none = record {
  before = c.before;
  text = c.text;
  at = c.at;
  sound = c.sound;
  goes = λ later becomes.
      let was : Follows (with_chunk input later) c.before c.at (checked (found (with_chunk input later) c.before) c.at
      (λ at. rest (with_chunk input later) c.before c.text at)) = c.goes later becomes in
      record {
        same = was.same ∙ ap (λ (f : Option FaultKind). reads_on (with_chunk input later) c.before
            (checked f c.at (λ at. rest (with_chunk input later) c.before c.text at))) (none later);
        less = was.less;
      };
  stands_there = c.stands_there;
  keeps = c.keeps;
  draws = c.draws;
  count = c.count;
}

-- the rest is another one
pub along : (input : Input) (rest other : Input → List Record → List ℕ → Coder → Read Record) (stands : List Record → Coder → Type 0)
    (library : Library) (picture : Option Picture) (units : ℕ) (c : Continues input rest stands library picture units) (text : List ℕ) →
    ((later : Chunk) → rest (with_chunk input later) c.before c.text c.at ≡ other (with_chunk input later) c.before text c.at) →
    Continues input other stands library picture units
along input rest other stands library picture units c text same = record {
  before = c.before;
  text = text;
  at = c.at;
  sound = c.sound;
  goes = λ later becomes.
      let was : Follows (with_chunk input later) c.before c.at (rest (with_chunk input later) c.before c.text c.at) = c.goes later becomes in
      record { same = was.same ∙ ap (reads_on (with_chunk input later) c.before) (same later); less = was.less };
  stands_there = c.stands_there;
  keeps = c.keeps;
  draws = c.draws;
  count = c.count;
}

-- it waits or stands in another way
pub waiting : (input : Input) (rest : Input → List Record → List ℕ → Coder → Read Record) (stands other : List Record → Coder → Type 0)
    (library : Library) (picture : Option Picture) (units : ℕ) (c : Continues input rest stands library picture units) → other c.before c.at →
    Continues input rest other library picture units
waiting input rest stands other library picture units c there = record {
  before = c.before;
  text = c.text;
  at = c.at;
  sound = c.sound;
  goes = c.goes;
  stands_there = there;
  keeps = c.keeps;
  draws = c.draws;
  count = c.count;
}

-- library, picture and count are the same
pub moved : (input : Input) (rest : Input → List Record → List ℕ → Coder → Read Record) (stands : List Record → Coder → Type 0) (old new : Machine) →
    new.library ≡ old.library → new.picture ≡ old.picture → new.units ≡ old.units → Continues input rest stands old.library old.picture old.units →
    Continues input rest stands new.library new.picture new.units
moved input rest stands old new same_library same_picture same_units c =
    subst (λ (u : ℕ). Continues input rest stands new.library new.picture u) (sym same_units)
    (subst (λ (p : Option Picture). Continues input rest stands new.library p old.units) (sym same_picture)
    (subst (λ (l : Library). Continues input rest stands l old.picture old.units) (sym same_library) c))

-- ---- what is answered where a step stops

-- the chunk as it is
pub here : (input : Input) (rest : Input → List Record → List ℕ → Coder → Read Record) (stands : List Record → Coder → Type 0)
    (library : Library) (picture : Option Picture) (units : ℕ) (c : Continues input rest stands library picture units) →
    records_of input ≡ reads_on input c.before (rest input c.before c.text c.at)
here input rest stands library picture units c =
    let now : Follows (with_chunk input input.chunk) c.before c.at (rest (with_chunk input input.chunk) c.before c.text c.at) = c.goes input.chunk
    (stays refl) in now.same

stopped_answers : (input : Input) (rest : Input → List Record → List ℕ → Coder → Read Record) (stands : List Record → Coder → Type 0)
    (machine : Machine) (why : Why) (decisions : ℕ) (c : Continues input rest stands machine.library machine.picture machine.units) →
    rest input c.before c.text c.at ≡ Stops why decisions →
    TicksExactly decisions 0 machine.coder.count → Answers input (answer_of why) machine
stopped_answers input rest stands machine why decisions c stops count =
    let is : records_of input ≡ outcome (answer_of why) c.before decisions =
    here input rest stands machine.library machine.picture machine.units c ∙ ap (reads_on input c.before) stops in
    record {
      same = ap (λ (o : Outcome). o.answer) is;
      units = c.count ∙ ap (λ (o : Outcome). ticked (length o.records) 0) (sym is);
      decisions = count ∙ ap (λ (o : Outcome). ticked o.decisions 0) (sym is);
    }

-- no fewer decisions
pub within_all : (input : Input) (rest : Input → List Record → List ℕ → Coder → Read Record) (stands : List Record → Coder → Type 0)
    (library : Library) (picture : Option Picture) (units count made : ℕ) (c : Continues input rest stands library picture units) →
    Leaves Record input.chunk (room input.chunk.payload c.at.place) made (rest input c.before c.text c.at) → count ≤ ticked made 0 → count ≤ ticked
    (records_of input).decisions 0
within_all input rest stands library picture units count made c leaves few =
    let extends : Extends c.before made (reads_on input c.before (rest input c.before c.text c.at)) =
    extends_record input.chunk (room input.chunk.payload c.at.place) made c.before (rest input c.before c.text c.at)
    (λ records at. records_from (most_records input.chunk.payload) input records at) leaves
    (λ records next s. extends_from input (most_records input.chunk.payload) records next s) in
    let more : made ≤ (records_of input).decisions = subst (λ (o : Outcome). made ≤ o.decisions)
    (sym (here input rest stands library picture units c)) extends.more in
    let grown : ticked made 0 ≤ ticked (records_of input).decisions 0 = ticked_more made (records_of input).decisions more in
    omega (arith, few, grown)

-- a fault that a check found
pub refused : (input : Input) (found : Input → List Record → Option FaultKind) (rest : Input → List Record → List ℕ → Coder → Read Record)
    (machine : Machine) (kind : FaultKind) (c : Continues input (λ later before text at. checked (found later before) at
    (λ at. rest later before text at)) (λ before at. Stands input.chunk at machine.coder) machine.library machine.picture machine.units) →
    found input c.before ≡ Some kind → Answers input (answer.Refused kind) machine
refused input found rest machine kind c is =
    stopped_answers input (λ later before text at. checked (found later before) at (λ at. rest later before text at))
    (λ before at. Stands input.chunk at machine.coder) machine (Wrong kind) c.at.decisions c
    (ap (λ (f : Option FaultKind). checked f c.at (λ at. rest input c.before c.text at)) is) c.stands_there.count

-- behind what was read there are no fewer decisions
pub later_leaves : {A : Type 0} (source : Chunk) (left made : ℕ) (told : Read A) (rest : A → Coder → Read Record) → Leaves A source left made told →
    ((value : A) (next : Coder) → Stays source left next.decisions next → Leaves Record source left next.decisions (rest value next)) →
    Leaves Record source left (decisions_of told) (then_read told rest)
later_leaves source left made (Got value next) rest leaves later =
    let there = leaves.got value next refl in
    later value next (record { sound = there.sound; leaves = there.leaves; more = omega arith })
later_leaves source left made (Stops why decisions) rest leaves later = leaves_stops source left decisions Record why decisions (omega arith)

-- a question that waits, or is refused
pub asked_halts : {A R : Type 0} (view : R → A) (input : Input) (at : Step) (machine : Machine) (stands : List Record → Coder → Type 0) (told : Read A)
    (rest : A → Coder → Read Record) (halts : Stop)
    (c : Continues input (λ later before text place. rest_of later before text at place) stands machine.library machine.picture machine.units) →
    rest_of input c.before c.text at c.at ≡ then_read told rest →
    Goes view input.chunk told (Waits input at machine.coder c.before c.at) (Err halts) machine.coder → HaltsAt input (halt_of halts at) machine
asked_halts view input at machine stands told rest stop.NeedBytes c is (stopped, waits) = (
  waiting input (λ later before text place. rest_of later before text at place) stands
      (λ before place. Waits input at machine.coder before place) machine.library machine.picture machine.units c waits,
  stopped_answers input (λ later before text place. rest_of later before text at place) stands machine Need stopped.decisions c
      (is ∙ ap (λ (r : Read _). then_read r rest) stopped.stops) stopped.count,
)
asked_halts view input at machine stands told rest (stop.Refused kind) c is stopped =
    stopped_answers input (λ later before text place. rest_of later before text at place) stands machine (Wrong kind) stopped.decisions c
    (is ∙ ap (λ (r : Read _). then_read r rest) stopped.stops) stopped.count
asked_halts view input at machine stands told rest stop.OutOfMemory c is (within, waits) =
    waiting input (λ later before text place. rest_of later before text at place) stands
    (λ before place. Waits input at machine.coder before place) machine.library machine.picture machine.units c waits
