-- A step of the reading has no more counts than the definition, and stands as well in what the chunk becomes.
use Rattle.std.proofs.Common.{◌≡◌, ◌≤◌, ℕ, List, ◌++◌, length, length-append, sym, ap, subst, ◌∙◌, arith}
use Rattle.std.specs.Prelude.{Option, Some, None}
use Rattle.djvu_base.specs.Meter.{ticked, TicksExactly}
use Rattle.djvu_base.proofs.Ticks.{ticked_more}
use Rattle.zp_decoder.specs.Runs.{room}
use Rattle.zp_decoder.specs.Chunk.{Chunk, chunk}
use Rattle.bit_plane.specs.Pixels.{Pixels}
use Rattle.jb2_records.specs.declared.steps.Field.{Field}
use Rattle.jb2_records.specs.declared.steps.Use.{Use}
use Rattle.jb2_records.specs.declared.steps.Step.{Step}
use Rattle.jb2_records.specs.declared.steps.Step.TheVariants as step
use Rattle.jb2_records.specs.declared.steps.Origin.TheVariants as origin
use Rattle.jb2_records.specs.declared.machine.Machine.{Machine}
use Rattle.jb2_records.specs.Records.{Record}
use Rattle.jb2_records.specs.Coding.{Coder, Read, then_read, read_number, read_direct, read_refined}
use Rattle.jb2_records.specs.Reading.{Input, Purpose, Outcome, records_of, records_from, most_records}
use Rattle.jb2_records.specs.Growth.{IsSound}
use Rattle.jb2_records.specs.Taking.{Becomes}
use Rattle.jb2_records.specs.Telling.{Parts, Stands, Grows, decisions_of, HalfShape}
use Rattle.jb2_records.specs.Library.{Library, library_of, Keeps}
use Rattle.jb2_records.specs.Picture.{Picture, Draws}
use Rattle.jb2_records.specs.Steps.{root_of, low_of, most_of, numbered, from_shape, behind, rest_of}
use Rattle.jb2_records.specs.Machine.{with_chunk, reads_on, Follows, Waits, Holds}
use Rattle.jb2_records.proofs.Offering.{becomes_after}
use Rattle.jb2_records.proofs.Calling.{number_within}
use Rattle.jb2_records.proofs.Waiting.{shape_within}
use Rattle.jb2_records.proofs.Keeping.{Leaves, number_leaves, direct_leaves, refined_leaves}
use Rattle.jb2_records.proofs.Leaving.{stays_at}
use Rattle.jb2_records.proofs.Ending.{Extends, extends_record, extends_from}
use Rattle.jb2_records.proofs.Lasting.{behind_lasts, shape_lasts, rest_lasts}
use Rattle.jb2_records.proofs.Suspending.{sound_becomes, here, within_all, later_leaves}

-- ---- counts

-- no fewer records
pub holds_units : (input : Input) (at : Step) (machine : Machine) → Holds input at machine → machine.units ≤ ticked (length (records_of input).records) 0
holds_units input at machine holds =
    let rest : Read Record = rest_of input holds.before holds.text at holds.at in
    let extends : Extends holds.before holds.at.decisions (reads_on input holds.before rest) =
    extends_record input.chunk (room input.chunk.payload holds.at.place) holds.at.decisions holds.before rest
    (λ records at. records_from (most_records input.chunk.payload) input records at)
    (rest_lasts input holds.before (room input.chunk.payload holds.at.place) holds.at.decisions holds.text at holds.at
    (stays_at input.chunk holds.at holds.sound))
    (λ records next s. extends_from input (most_records input.chunk.payload) records next s) in
    let is : records_of input ≡ reads_on input holds.before rest =
    here input (λ later before text place. rest_of later before text at place) (λ before place. Waits input at machine.coder before place) machine.library
    machine.picture machine.units holds in
    let all : length (records_of input).records ≡ length (extends.later ++ holds.before) = ap (λ (o : Outcome). length o.records) is
    ∙ ap length extends.entries in
    let more : length holds.before ≤ length (records_of input).records = omega (arith, all, length-append extends.later holds.before) in
    subst (λ (n : ℕ). n ≤ ticked (length (records_of input).records) 0) (sym holds.count)
    (ticked_more (length holds.before) (length (records_of input).records) more)

module _ (input : Input) (before : List Record) (text : List ℕ) (at : Coder) (sound : IsSound input.chunk at) where
  abbrev space : ℕ
  space = room input.chunk.payload at.place

  number_left : (place : Field) →
      Leaves Record input.chunk space (decisions_of (read_number input.chunk (root_of place) (low_of place) (most_of input.inherited before place) at))
      (then_read (read_number input.chunk (root_of place) (low_of place) (most_of input.inherited before place) at)
      (λ number at. behind input before text place number at))
  number_left place =
      later_leaves input.chunk space at.decisions (read_number input.chunk (root_of place) (low_of place) (most_of input.inherited before place) at)
      (λ number at. behind input before text place number at)
      (number_leaves input.chunk space at.decisions (root_of place) (low_of place) (most_of input.inherited before place) at (stays_at input.chunk at sound))
      (λ value next s. behind_lasts input before space next.decisions text place value next s)

  direct_left : (kept : Use) (width height : ℕ) → Leaves Record input.chunk space (decisions_of (read_direct input.chunk width height at))
      (then_read (read_direct input.chunk width height at) (λ shape at. from_shape input before origin.Own kept shape at))
  direct_left kept width height =
      later_leaves input.chunk space at.decisions (read_direct input.chunk width height at) (λ shape at. from_shape input before origin.Own kept shape at)
      (direct_leaves input.chunk space at.decisions width height at (stays_at input.chunk at sound))
      (λ value next s. shape_lasts input before space next.decisions origin.Own kept value next s)

  refined_left : (kept : Use) (matched : Pixels) (number width height : ℕ) →
      Leaves Record input.chunk space (decisions_of (read_refined input.chunk matched width height at))
      (then_read (read_refined input.chunk matched width height at) (λ shape at. from_shape input before (origin.Refined number) kept shape at))
  refined_left kept matched number width height =
      later_leaves input.chunk space at.decisions (read_refined input.chunk matched width height at)
      (λ shape at. from_shape input before (origin.Refined number) kept shape at)
      (refined_leaves input.chunk space at.decisions matched width height at (stays_at input.chunk at sound))
      (λ value next s. shape_lasts input before space next.decisions (origin.Refined number) kept value next s)

-- no fewer decisions
standing_decisions : (input : Input) (at : Step) (machine : Machine) (holds : Holds input at machine) → Stands input.chunk holds.at machine.coder →
    machine.coder.count ≤ ticked (records_of input).decisions 0
standing_decisions input at machine holds stands =
    let same = stands.count in
    within_all input (λ later before text place. rest_of later before text at place) (λ before place. Waits input at machine.coder before place)
    machine.library machine.picture machine.units machine.coder.count
    holds.at.decisions holds (rest_lasts input holds.before (room input.chunk.payload holds.at.place) holds.at.decisions holds.text at holds.at
    (stays_at input.chunk holds.at holds.sound))
    (omega (arith, same))

pub holds_decisions : (input : Input) (at : Step) (machine : Machine) → Holds input at machine → machine.coder.count ≤ ticked (records_of input).decisions 0
unfolding rest_of
holds_decisions input (step.Number place reader) machine holds =
    within_all input (λ later before text at. rest_of later before text (step.Number place reader) at)
    (λ before at. Waits input (step.Number place reader) machine.coder before at)
    machine.library machine.picture machine.units machine.coder.count
    (decisions_of (read_number input.chunk (root_of place) (low_of place) (most_of input.inherited holds.before place) holds.at)) holds
    (number_left input holds.before holds.text holds.at holds.sound place)
    (number_within input.chunk (root_of place) (low_of place) (most_of input.inherited holds.before place) holds.at reader machine.coder holds.stands_there)
holds_decisions input (step.Direct kept reader) machine holds =
    within_all input (λ later before text at. rest_of later before text (step.Direct kept reader) at)
    (λ before at. Waits input (step.Direct kept reader) machine.coder before at)
    machine.library machine.picture machine.units machine.coder.count
    (decisions_of (read_direct input.chunk reader.shape.width reader.shape.height holds.at)) holds
    (direct_left input holds.before holds.text holds.at holds.sound kept reader.shape.width reader.shape.height)
    (shape_within input.chunk None reader.shape.width reader.shape.height holds.at reader machine.coder holds.stands_there)
holds_decisions input (step.Refined kept number reader) machine holds =
    let waits : HalfShape input.chunk (Some reader.matched) reader.sketch.shape.width reader.sketch.shape.height holds.at reader.sketch machine.coder
    × (reader.matched ≡ numbered input holds.before number) = holds.stands_there in
    within_all input (λ later before text at. rest_of later before text (step.Refined kept number reader) at)
    (λ before at. Waits input (step.Refined kept number reader) machine.coder before at)
    machine.library machine.picture machine.units machine.coder.count
    (decisions_of (read_refined input.chunk (numbered input holds.before number) reader.sketch.shape.width reader.sketch.shape.height holds.at)) holds
    (refined_left input holds.before holds.text holds.at holds.sound kept (numbered input holds.before number) number reader.sketch.shape.width
    reader.sketch.shape.height)
    (subst (λ (m : Pixels). machine.coder.count ≤ ticked
    (decisions_of (read_refined input.chunk m reader.sketch.shape.width reader.sketch.shape.height holds.at)) 0) waits.1
    (shape_within input.chunk (Some reader.matched) reader.sketch.shape.width reader.sketch.shape.height holds.at reader.sketch machine.coder waits.0))
holds_decisions input (step.Flag width height) machine holds = standing_decisions input (step.Flag width height) machine holds holds.stands_there
holds_decisions input (step.Row moved) machine holds = standing_decisions input (step.Row moved) machine holds holds.stands_there
holds_decisions input (step.Own kept width height) machine holds = standing_decisions input (step.Own kept width height) machine holds holds.stands_there
holds_decisions input (step.Beside kept number width height) machine holds = standing_decisions input (step.Beside kept number width height) machine holds
    holds.stands_there
holds_decisions input (step.Shape made kept shape) machine holds = standing_decisions input (step.Shape made kept shape) machine holds holds.stands_there
holds_decisions input (step.Start width height flag) machine holds = standing_decisions input (step.Start width height flag) machine holds holds.stands_there
holds_decisions input (step.Keep made shape) machine holds = standing_decisions input (step.Keep made shape) machine holds holds.stands_there
holds_decisions input (step.Place moved steps) machine holds = standing_decisions input (step.Place moved steps) machine holds holds.stands_there

-- ---- growth

waits_grows : (input : Input) (later : Chunk) (at : Step) (old new : Parts) (before : List Record) (place : Coder) → Grows input.chunk later old new →
    Waits input at old before place → Waits (with_chunk input later) at new before place
waits_grows input later (step.Number field reader) old new before place on waits = on.number (root_of field) (low_of field)
    (most_of input.inherited before field) place reader waits
waits_grows input later (step.Direct kept reader) old new before place on waits = on.shape None reader.shape.width reader.shape.height place reader waits
waits_grows input later (step.Refined kept number reader) old new before place on waits =
    (on.shape (Some reader.matched) reader.sketch.shape.width reader.sketch.shape.height place reader.sketch waits.0, waits.1)
waits_grows input later (step.Flag width height) old new before place on waits = on.stands place waits
waits_grows input later (step.Row moved) old new before place on waits = on.stands place waits
waits_grows input later (step.Own kept width height) old new before place on waits = on.stands place waits
waits_grows input later (step.Beside kept number width height) old new before place on waits = on.stands place waits
waits_grows input later (step.Shape made kept shape) old new before place on waits = on.stands place waits
waits_grows input later (step.Start width height flag) old new before place on waits = on.stands place waits
waits_grows input later (step.Keep made shape) old new before place on waits = on.stands place waits
waits_grows input later (step.Place moved steps) old new before place on waits = on.stands place waits

pub keeps_there : (input later : Input) (before : List Record) (shapes : Library) → later.inherited ≡ input.inherited → later.purpose ≡ input.purpose →
    Keeps input before shapes → Keeps later before shapes
keeps_there input later before shapes inherited purpose keeps = record {
  is = keeps.is ∙ ap (λ (l : List Pixels). library_of (record { chunk = later.chunk; inherited = l; purpose = input.purpose }) before) (sym inherited)
      ∙ ap (λ (p : Purpose). library_of (record { chunk = later.chunk; inherited = later.inherited; purpose = p }) before) (sym purpose);
}

draws_by : (chunk : Chunk) (input : Input) (before : List Record) (picture : Option Picture) → Draws input before picture →
    Draws (record { chunk = chunk; inherited = input.inherited; purpose = input.purpose }) before picture
draws_by chunk input before None draws = record { marks = draws.marks; placed = draws.placed }
draws_by chunk input before (Some picture) draws = record {
  purpose = draws.purpose;
  size = draws.size;
  mask = draws.mask;
  count = draws.count;
  pixels = draws.pixels;
  after = draws.after;
}

pub draws_there : (input later : Input) (before : List Record) (picture : Option Picture) → later.inherited ≡ input.inherited → later.purpose ≡ input.purpose →
    Draws input before picture → Draws later before picture
draws_there input later before picture inherited purpose draws =
    subst (λ (p : Purpose). Draws (record { chunk = later.chunk; inherited = later.inherited; purpose = p }) before picture) (sym purpose)
    (subst (λ (l : List Pixels). Draws (record { chunk = later.chunk; inherited = l; purpose = input.purpose }) before picture) (sym inherited)
    (draws_by later.chunk input before picture draws))

-- a step in what the chunk became
pub holds_grows : (input : Input) (later : Chunk) (at : Step) (old new : Machine) → Becomes input.chunk later → Grows input.chunk later old.coder new.coder →
    new.library ≡ old.library → new.picture ≡ old.picture → new.units ≡ old.units → Holds input at old → Holds (with_chunk input later) at new
holds_grows input later at old new becomes on same_library same_picture same_units holds = record {
  before = holds.before;
  text = holds.text;
  at = holds.at;
  sound = sound_becomes input.chunk later holds.at becomes holds.sound;
  goes = λ last last_becomes.
      let was : Follows (with_chunk input last) holds.before holds.at (rest_of (with_chunk input last) holds.before holds.text at holds.at) =
      holds.goes last (becomes_after input.chunk later last becomes last_becomes) in
      record { same = was.same; less = was.less };
  stands_there = waits_grows input later at old.coder new.coder holds.before holds.at on holds.stands_there;
  keeps = subst (λ (l : Library). Keeps (with_chunk input later) holds.before l) (sym same_library) (record { is = holds.keeps.is });
  draws = subst (λ (p : Option Picture). Draws (with_chunk input later) holds.before p) (sym same_picture)
      (draws_by later input holds.before old.picture holds.draws);
  count = subst (λ (n : ℕ). TicksExactly (length holds.before) 0 n) (sym same_units) holds.count;
}
