-- What is asked at a step: how it begins, what is answered, and that it goes on to steps of a lower rank.
use Rattle.std.proofs.Common.{◌≡◌, ◌≤◌, ◌<◌, ◌-◌, ℕ, ℤ, ◌≤ℤ◌, pos, Bool, List, [], ◌∷◌, length, refl, sym, ap, subst, ◌∙◌, arith}
use Rattle.std.specs.Prelude.{Option, Some, None, Result, Ok, Err, IfOk}
use Rattle.zp_decoder.specs.Runs.{room}
use Rattle.bit_plane.specs.Pixels.{Pixels}
use Rattle.jb2_numbers.specs.Reader.{Reader, Reads, AreBounds, IsUnderway}
use Rattle.jb2_numbers.specs.Number.{Wanted, wanted}
use Rattle.jb2_numbers.specs.declared.roots.Root.{Root}
use Rattle.jb2_numbers.specs.declared.roots.Root.TheVariants as root
use Rattle.jb2_records.specs.declared.steps.Field.{Field}
use Rattle.jb2_records.specs.declared.steps.Field.TheVariants as field
use Rattle.jb2_records.specs.declared.steps.Mark.{Mark}
use Rattle.jb2_records.specs.declared.steps.Use.{Use}
use Rattle.jb2_records.specs.declared.steps.Origin.TheVariants as origin
use Rattle.jb2_records.specs.declared.steps.Step.{Step}
use Rattle.jb2_records.specs.declared.steps.Step.TheVariants as step
use Rattle.jb2_records.specs.declared.stops.Stop.TheVariants as stop
use Rattle.jb2_records.specs.declared.machine.Halt.{Halt}
use Rattle.jb2_records.specs.declared.stops.Stop.{Stop}
use Rattle.jb2_records.specs.declared.machine.Machine.{Machine}
use Rattle.jb2_records.specs.Records.{Record, image_size, shape_at}
use Rattle.jb2_records.specs.Coding.{Coder, checked, read_number, read_flag, read_row, read_direct}
use Rattle.jb2_records.specs.Reading.{Input, start_fault}
use Rattle.jb2_shapes.specs.Shape.{Sketch, empty_sketch}
use Rattle.jb2_shapes.specs.Refined.{Refinement}
use Rattle.jb2_records.specs.Taking.{room_of}
use Rattle.jb2_records.specs.Telling.{Parts, IsReady, Stands, Comes, Goes, GoesShape, HalfNumber, HalfShape}
use Rattle.jb2_records.specs.Library.{Library, shapes_of, Keeps}
use Rattle.jb2_records.specs.Picture.{Picture, Draws}
use Rattle.jb2_records.specs.Steps.{from_number, from_dx, from_shape, from_own, from_start, root_of, low_of, most_of, shape_of, record_of, behind, rest_of}
use Rattle.jb2_records.specs.Machine.{Continues, Waits, Holds, HaltsAt, Stays, wanted_at, number_rank, field_rank, rank_of, measure_of, IsBelow, halt_of, Fits, HaltFits, IsLater, HasPicture, FieldFits, width_of, height_of, high_at}
use Rattle.jb2_records.proofs.Adding.{keeps_shapes}
use Rattle.jb2_records.proofs.Suspending.{answered, waiting, number_reaches, flag_reaches, row_reaches, direct_reaches, asked_halts}
use Rattle.jb2_records.proofs.Waiting.{number_begins, shape_begins}

-- bounds of numbers by what library and picture are
width_is : (input : Input) (before : List Record) (picture : Option Picture) → HasPicture picture → Draws input before picture →
    (pos (image_size before).width ≡ pos (width_of picture)) × (pos (image_size before).height ≡ pos (height_of picture))
width_is input before None has draws = absurd has
width_is input before (Some picture) has draws = (ap (λ (e : _). pos e.width) draws.size, ap (λ (e : _). pos e.height) draws.size)

most_is : (input : Input) (before : List Record) (shapes : Library) (picture : Option Picture) (place : Field) → FieldFits place shapes picture →
    Keeps input before shapes → Draws input before picture →
    most_of input.inherited before place ≡ high_at place shapes picture
most_is input before shapes picture field.Kind fits keeps draws = refl
most_is input before shapes picture field.StartWidth fits keeps draws = refl
most_is input before shapes picture (field.StartHeight width) fits keeps draws = refl
most_is input before shapes picture (field.OwnWidth kept) fits keeps draws = refl
most_is input before shapes picture (field.OwnHeight kept width) fits keeps draws = refl
most_is input before shapes picture (field.Match goal) fits keeps draws = ap (λ (l : List Pixels). pos (length l - 1))
    (sym (keeps_shapes input before shapes keeps))
most_is input before shapes picture (field.BesideWidth kept number) fits keeps draws = refl
most_is input before shapes picture (field.BesideHeight kept number wider) fits keeps draws = refl
most_is input before shapes picture (field.Dx moved is_new) fits keeps draws = refl
most_is input before shapes picture (field.Dy moved is_new dx) fits keeps draws = refl
most_is input before shapes picture (field.Left shape) fits keeps draws = (width_is input before picture fits.1 draws).0
most_is input before shapes picture (field.Top shape left) fits keeps draws = (width_is input before picture fits.0.1 draws).1
most_is input before shapes picture field.InheritedCount fits keeps draws = refl
most_is input before shapes picture field.CommentLength fits keeps draws = refl
most_is input before shapes picture (field.CommentByte left) fits keeps draws = refl

pub at_field : (input : Input) (place other : Field) (value : ℤ) (machine : Machine) → place ≡ other → Stays input
    (λ later before text at. behind later before text place value at) machine →
    Stays input (λ later before text at. behind later before text other value at) machine
at_field input place other value machine same c = subst (λ (f : Field). Stays input
    (λ later before text at. behind later before text f value at) machine) same c

-- a number was read
pub number_stays : (input : Input) (place : Field) (reader : Reader) (old : Machine) (parts : Parts) (value : ℤ) →
    (holds : Holds input (step.Number place reader) old) → Comes input.chunk
    (read_number input.chunk (root_of place) (low_of place) (most_of input.inherited holds.before place) holds.at) value parts →
    Stays input (λ later before text at. behind later before text place value at) (record old { coder = parts })
unfolding rest_of
number_stays input place reader old parts value holds came =
    answered input (λ later before at. read_number later.chunk (root_of place) (low_of place) (most_of later.inherited before place) at)
    (λ later before text value at. behind later before text place value at)
    (λ before at. Waits input (step.Number place reader) old.coder before at) old.library old.picture old.units value parts holds came
    (λ later becomes. number_reaches input.chunk (root_of place) (low_of place)
    (most_of input.inherited holds.before place) value holds.at came.next holds.sound came.got later becomes)

pub number_halts : (input : Input) (place : Field) (first last : Reader) (old : Machine) (parts : Parts) (halts : Stop) (result : Halt) →
    result ≡ halt_of halts (step.Number place last) →
    (holds : Holds input (step.Number place first) old) →
    Goes (λ (n : ℤ). n) input.chunk (read_number input.chunk (root_of place) (low_of place) (most_of input.inherited holds.before place) holds.at)
    (HalfNumber input.chunk (root_of place) (low_of place) (most_of input.inherited holds.before place) holds.at last parts) (Err halts) parts →
    HaltsAt input result (record old { coder = parts })
unfolding rest_of
number_halts input place first last old parts halts result is holds goes =
    subst (λ (h : Halt). HaltsAt input h (record old { coder = parts })) (sym is)
    (asked_halts (λ (n : ℤ). n) input (step.Number place last) (record old { coder = parts })
    (λ before at. Waits input (step.Number place first) old.coder before at)
    (read_number input.chunk (root_of place) (low_of place) (most_of input.inherited holds.before place) holds.at)
    (λ value at. behind input holds.before holds.text place value at) halts holds refl goes)

-- bits
pub flag_stays : (input : Input) (width height : ℤ) (old : Machine) (parts : Parts) (value : Bool) →
    (holds : Holds input (step.Flag width height) old) → Comes input.chunk (read_flag input.chunk holds.at) value parts →
    Stays input (λ later before text at. checked (start_fault later.purpose width height) at (λ at. from_start width height value at))
    (record old { coder = parts })
unfolding rest_of
flag_stays input width height old parts value holds came =
    answered input (λ later before at. read_flag later.chunk at) (λ later before text flag at. checked (start_fault later.purpose width height) at
    (λ at. from_start width height flag at))
    (λ before at. Waits input (step.Flag width height) old.coder before at) old.library old.picture old.units value parts holds came
    (λ later becomes. flag_reaches input.chunk value holds.at came.next holds.sound came.got later becomes)

pub flag_halts : (input : Input) (width height : ℤ) (old : Machine) (parts : Parts) (halts : Stop) (result : Halt) → result ≡ halt_of halts
    (step.Flag width height) → (holds : Holds input (step.Flag width height) old) →
    Goes (λ (b : Bool). b) input.chunk (read_flag input.chunk holds.at) (Stands input.chunk holds.at parts) (Err halts) parts → HaltsAt input result
    (record old { coder = parts })
unfolding rest_of
flag_halts input width height old parts halts result is holds goes =
    subst (λ (h : Halt). HaltsAt input h (record old { coder = parts })) (sym is)
    (asked_halts (λ (b : Bool). b) input (step.Flag width height) (record old { coder = parts })
    (λ before at. Waits input (step.Flag width height) old.coder before at)
    (read_flag input.chunk holds.at) (λ flag at. checked (start_fault input.purpose width height) at
    (λ at. from_start width height flag at)) halts holds refl goes)

pub row_stays : (input : Input) (moved : Mark) (old : Machine) (parts : Parts) (value : Bool) → (holds : Holds input (step.Row moved) old) →
    Comes input.chunk (read_row input.chunk holds.at) value parts →
    Stays input (λ later before text at. from_number later before text (field.Dx moved value) at) (record old { coder = parts })
unfolding rest_of behind
row_stays input moved old parts value holds came =
    answered input (λ later before at. read_row later.chunk at) (λ later before text is_new at. from_dx later before (shape_of later before moved)
    (λ place. record_of moved place) is_new at)
    (λ before at. Waits input (step.Row moved) old.coder before at) old.library old.picture old.units value parts holds came
    (λ later becomes. row_reaches input.chunk value holds.at came.next holds.sound came.got later becomes)

pub row_halts : (input : Input) (moved : Mark) (old : Machine) (parts : Parts) (halts : Stop) (result : Halt) → result ≡ halt_of halts
    (step.Row moved) → (holds : Holds input (step.Row moved) old) →
    Goes (λ (b : Bool). b) input.chunk (read_row input.chunk holds.at) (Stands input.chunk holds.at parts) (Err halts) parts → HaltsAt input result
    (record old { coder = parts })
unfolding rest_of
row_halts input moved old parts halts result is holds goes =
    subst (λ (h : Halt). HaltsAt input h (record old { coder = parts })) (sym is)
    (asked_halts (λ (b : Bool). b) input (step.Row moved) (record old { coder = parts }) (λ before at. Waits input (step.Row moved) old.coder before at)
    (read_row input.chunk holds.at) (λ is_new at. from_dx input holds.before (shape_of input holds.before moved)
    (λ place. record_of moved place) is_new at) halts holds refl goes)

-- shapes
pub direct_holds : (input : Input) (kept : Use) (reader : Sketch) (shape : Pixels) (old : Machine) (parts : Parts) →
    (holds : Holds input (step.Direct kept reader) old) →
    Comes input.chunk (read_direct input.chunk reader.shape.width reader.shape.height holds.at) shape parts → Holds input
    (step.Shape origin.Own kept shape) (record old { coder = parts })
unfolding rest_of
direct_holds input kept reader shape old parts holds came =
    answered input (λ later before at. read_direct later.chunk reader.shape.width reader.shape.height at)
    (λ later before text shape at. from_shape later before origin.Own kept shape at)
    (λ before at. Waits input (step.Direct kept reader) old.coder before at) old.library old.picture old.units shape parts holds came
    (λ later becomes. direct_reaches input.chunk reader.shape.width reader.shape.height shape holds.at came.next holds.sound came.got later becomes)

sized : (input : Input) (kept : Use) (last : Sketch) (waits : List Record → Coder → Type 0) (old : Machine) (parts : Parts) (halts : Stop)
    (width height : ℕ) → width ≡ last.shape.width → height ≡ last.shape.height →
    (c : Continues input (λ later before text at. from_own later before kept width height at) waits old.library old.picture old.units) →
    GoesShape input.chunk last.shape (read_direct input.chunk width height c.at) (HalfShape input.chunk None width height c.at last parts) (Err halts) parts →
    HaltsAt input (halt_of halts (step.Direct kept last)) (record old { coder = parts })
unfolding rest_of
sized input kept last waits old parts halts width height columns rows =
    subst (λ (h : ℕ). (c : Continues input (λ later before text at. from_own later before kept width h at) waits old.library old.picture old.units) →
    GoesShape input.chunk last.shape (read_direct input.chunk width h c.at) (HalfShape input.chunk None width h c.at last parts) (Err halts) parts →
    HaltsAt input (halt_of halts (step.Direct kept last)) (record old { coder = parts })) (sym rows)
    (subst (λ (w : ℕ).
    (c : Continues input (λ later before text at. from_own later before kept w last.shape.height at) waits old.library old.picture old.units) →
    GoesShape input.chunk last.shape (read_direct input.chunk w last.shape.height c.at)
    (HalfShape input.chunk None w last.shape.height c.at last parts) (Err halts) parts →
    HaltsAt input (halt_of halts (step.Direct kept last)) (record old { coder = parts })) (sym columns)
    (λ c goes. asked_halts (λ (u : Unit {0}). last.shape) input (step.Direct kept last) (record old { coder = parts }) waits
    (read_direct input.chunk last.shape.width last.shape.height c.at) (λ shape at. from_shape input c.before origin.Own kept shape at) halts c refl goes))

pub direct_halts : (input : Input) (kept : Use) (width height : ℕ) (last : Sketch) (waits : List Record → Coder → Type 0) (old : Machine)
    (parts : Parts) (halts : Stop) (result : Halt) → result ≡ halt_of halts (step.Direct kept last) →
    width ≡ last.shape.width → height ≡ last.shape.height →
    (c : Continues input (λ later before text at. from_own later before kept width height at) waits old.library old.picture old.units) →
    GoesShape input.chunk last.shape (read_direct input.chunk width height c.at) (HalfShape input.chunk None width height c.at last parts)
    (Err halts) parts → HaltsAt input result (record old { coder = parts })
unfolding rest_of
direct_halts input kept width height last waits old parts halts result is columns rows c goes =
    subst (λ (h : Halt). HaltsAt input h (record old { coder = parts })) (sym is)
    (sized input kept last waits old parts halts width height columns rows c goes)

-- a shape is in step with what its reader begins
pub shape_begun : (input : Input) (kept : Use) (width height : ℕ) (reader : Sketch) (machine : Machine) → IsReady machine.coder →
    reader ≡ empty_sketch width height → Holds input (step.Own kept width height) machine →
    Holds input (step.Direct kept reader) machine
unfolding rest_of
shape_begun input kept width height reader machine ready is holds =
    subst (λ (r : Sketch). Holds input (step.Direct kept r) machine) (sym is)
    (waiting input (λ later before text at. rest_of later before text (step.Own kept width height) at)
    (λ before at. Waits input (step.Own kept width height) machine.coder before at)
    (λ before at. Waits input (step.Direct kept (empty_sketch width height)) machine.coder before at) machine.library machine.picture machine.units holds
    (shape_begins input.chunk None width height holds.at machine.coder ready holds.stands_there))

pub refined_begun : (input : Input) (kept : Use) (number width height : ℕ) (reader : Refinement) (machine : Machine) → IsReady machine.coder →
    reader ≡ record { matched = shape_at (shapes_of machine.library) number; sketch = empty_sketch width height } → Holds input
    (step.Beside kept number width height) machine →
    Holds input (step.Refined kept number reader) machine
unfolding rest_of
refined_begun input kept number width height reader machine ready is holds =
    let matched : Pixels = shape_at (shapes_of machine.library) number in
    subst (λ (r : Refinement). Holds input (step.Refined kept number r) machine) (sym is)
    (waiting input (λ later before text at. rest_of later before text (step.Beside kept number width height) at)
    (λ before at. Waits input (step.Beside kept number width height) machine.coder before at)
    (λ before at. Waits input (step.Refined kept number
    (record { matched = matched; sketch = empty_sketch width height })) machine.coder before at) machine.library machine.picture machine.units holds (
      shape_begins input.chunk (Some matched) width height holds.at machine.coder ready holds.stands_there,
      ap (λ (l : List Pixels). shape_at l number) (keeps_shapes input holds.before machine.library holds.keeps),
    ))

-- what a halt leaves
halt_fits : (halts : Stop) (at : Step) (shapes : Library) (picture : Option Picture) → Fits at shapes picture → HaltFits (halt_of halts at) shapes picture
halt_fits stop.NeedBytes at shapes picture fits = fits
halt_fits (stop.Refused kind) at shapes picture fits = tt
halt_fits stop.OutOfMemory at shapes picture fits = fits

pub halted_fits : (halts : Stop) (at : Step) (shapes : Library) (picture : Option Picture) (result : Halt) → result ≡ halt_of halts at →
    Fits at shapes picture → HaltFits result shapes picture
halted_fits halts at shapes picture result is fits = subst (λ (h : Halt). HaltFits h shapes picture) (sym is) (halt_fits halts at shapes picture fits)

pub later_coder : (old new : Machine) (parts : Parts) → old.coder.count ≤ parts.count →
    room_of parts.unread parts.zp ≤ room_of old.coder.unread old.coder.zp → parts.zp.table ≡ old.coder.zp.table →
    parts.unread.ended ≡ old.coder.unread.ended → IsLater (record old { coder = parts }) new → IsLater old new
later_coder old new parts more less table ended (count, units, room, same_table, same_ended, inherited, purpose) =
    (omega (arith, more, count), units, omega (arith, less, room), same_table ∙ table, same_ended ∙ ended, inherited, purpose)

pub later_self : (old : Machine) (parts : Parts) → old.coder.count ≤ parts.count →
    room_of parts.unread parts.zp ≤ room_of old.coder.unread old.coder.zp → parts.zp.table ≡ old.coder.zp.table →
    parts.unread.ended ≡ old.coder.unread.ended → IsLater old (record old { coder = parts })
later_self old parts more less table ended = (more, omega arith, less, table, ended, refl, refl)

-- a number is asked for
pub asked_holds : (input : Input) (place : Field) (root : Root) (low high : ℤ) (reader : Reader) (machine : Machine) → IsReady machine.coder →
    FieldFits place machine.library machine.picture →
    root ≡ root_of place → low ≡ low_of place → high ≡ high_at place machine.library machine.picture → AreBounds (low_of place) high → Reads
    (record { root = root; low = low; high = high }) [] reader →
    Stays input (λ later before text at. from_number later before text place at) machine → Holds input (step.Number place reader) machine
unfolding rest_of
asked_holds input place root low high reader machine ready fits root_is low_is high_is bounds reads c =
    let most : high ≡ most_of input.inherited c.before place = high_is ∙ sym
    (most_is input c.before machine.library machine.picture place fits c.keeps c.draws) in
    let there : Reads (wanted (root_of place) (low_of place) (most_of input.inherited c.before place)) [] reader =
    subst (λ (h : ℤ). Reads (wanted (root_of place) (low_of place) h) [] reader) most
    (subst (λ (l : ℤ). Reads (wanted (root_of place) l high) [] reader) low_is (subst (λ (r : Root). Reads (wanted r low high) [] reader) root_is reads)) in
    waiting input (λ later before text at. from_number later before text place at) (λ before at. Stands input.chunk at machine.coder)
    (λ before at. Waits input (step.Number place reader) machine.coder before at) machine.library machine.picture machine.units c
    (number_begins input.chunk (root_of place) (low_of place) (most_of input.inherited c.before place) c.at reader machine.coder ready
    (subst (λ (h : ℤ). AreBounds (low_of place) h) most bounds) there c.stands_there)

-- a number lies within its bounds, however it is passed on
pub passed_low : (low value given : ℤ) → low ≤ℤ value → given ≡ value → low ≤ℤ given
passed_low low value given is same = subst (λ (z : ℤ). low ≤ℤ z) (sym same) is

pub passed_high : (high value given : ℤ) → value ≤ℤ high → given ≡ value → given ≤ℤ high
passed_high high value given is same = subst (λ (z : ℤ). z ≤ℤ high) (sym same) is

pub at_value : (input : Input) (place : Field) (value given : ℤ) (machine : Machine) → given ≡ value → Stays input
    (λ later before text at. behind later before text place value at) machine →
    Stays input (λ later before text at. behind later before text place given at) machine
at_value input place value given machine same c = subst (λ (z : ℤ). Stays input (λ later before text at. behind later before text place z at) machine)
    (sym same) c

pub asked_rank : (place : Field) (reader : Reader) (kind : Wanted) → Reads kind [] reader → number_rank place reader.decisions ≡ number_rank place []
unfolding Reads
asked_rank place reader kind reads = ap (number_rank place) reads.1

module _ (place : Field) (reader : Reader) (old : Machine) (parts : Parts) (new : Machine) (result : Result Step Halt)
    (less : room_of parts.unread parts.zp ≤ room_of old.coder.unread old.coder.zp)
    (later : IsLater (record old { coder = parts }) new) (below : IsBelow (field_rank place) result) where
  -- the number ranks as its field does
  ranked : (outcome : Result Step Halt) → outcome ≡ result → number_rank place reader.decisions ≡ field_rank place → IfOk outcome
      (λ next. measure_of next new.coder < measure_of (step.Number place reader) old.coder)
  ranked (Ok next) is same =
      let lower : rank_of next < field_rank place = subst (IsBelow (field_rank place)) (sym is) below in
      let fewer = later.2 in
      omega (arith, less, fewer, lower, same)
  ranked (Err halts) is same = tt

  -- or leaves room for fewer decisions
  roomy : (outcome : Result Step Halt) → outcome ≡ result → room_of parts.unread parts.zp < room_of old.coder.unread old.coder.zp →
      field_rank place ≤ 0x1_ffff_ffff →
      IfOk outcome (λ next. measure_of next new.coder < measure_of (step.Number place reader) old.coder)
  roomy (Ok next) is strict few =
      let lower : rank_of next < field_rank place = subst (IsBelow (field_rank place)) (sym is) below in
      let fewer = later.2 in
      omega (arith, strict, fewer, lower, few)
  roomy (Err halts) is strict few = tt

kind_shrinks : (reader : Reader) (decisions : List Bool) (old : Machine) (parts : Parts) (new : Machine) (result : Result Step Halt) →
    reader.decisions ≡ decisions → Reads (wanted root.RecordType (pos 0) (pos 11)) decisions reader →
    room_of parts.unread parts.zp ≤ room_of old.coder.unread old.coder.zp →
    (Reads (wanted root.RecordType (pos 0) (pos 11)) [] reader → room_of parts.unread parts.zp < room_of old.coder.unread old.coder.zp) →
    IsLater (record old { coder = parts }) new → IsBelow (field_rank field.Kind) result → IfOk result
    (λ next. measure_of next new.coder < measure_of (step.Number field.Kind reader) old.coder)
kind_shrinks reader [] old parts new result is reads less falls later below = roomy field.Kind reader old parts new result less later below result refl
    (falls reads) (omega arith)
kind_shrinks reader (decision ∷ decisions) old parts new result is reads less falls later below =
    ranked field.Kind reader old parts new result less later below result refl (ap (number_rank field.Kind) is)

pub number_shrinks : (place : Field) (reader : Reader) (shapes : Library) (picture : Option Picture) (old : Machine) (parts : Parts) (new : Machine)
    (result : Result Step Halt) → IsUnderway (wanted_at place shapes picture) reader →
    room_of parts.unread parts.zp ≤ room_of old.coder.unread old.coder.zp →
    (Reads (wanted root.RecordType (pos 0) (pos 11)) [] reader → room_of parts.unread parts.zp < room_of old.coder.unread old.coder.zp) →
    IsLater (record old { coder = parts }) new → IsBelow (field_rank place) result → IfOk result
    (λ next. measure_of next new.coder < measure_of (step.Number place reader) old.coder)
unfolding Reads
number_shrinks field.Kind reader shapes picture old parts new result going less falls later below =
    kind_shrinks reader going.0 old parts new result going.1.0.1 going.1.0 less falls later below
number_shrinks field.StartWidth reader shapes picture old parts new result going less falls later below =
    ranked field.StartWidth reader old parts new result less later below result refl refl
number_shrinks (field.StartHeight width) reader shapes picture old parts new result going less falls later below = ranked
    (field.StartHeight width) reader old parts new result less later below result refl refl
number_shrinks (field.OwnWidth kept) reader shapes picture old parts new result going less falls later below = ranked
    (field.OwnWidth kept) reader old parts new result less later below result refl refl
number_shrinks (field.OwnHeight kept width) reader shapes picture old parts new result going less falls later below = ranked
    (field.OwnHeight kept width) reader old parts new result less later below result refl refl
number_shrinks (field.Match goal) reader shapes picture old parts new result going less falls later below = ranked
    (field.Match goal) reader old parts new result less later below result refl refl
number_shrinks (field.BesideWidth kept number) reader shapes picture old parts new result going less falls later below = ranked
    (field.BesideWidth kept number) reader old parts new result less later below result refl refl
number_shrinks (field.BesideHeight kept number wider) reader shapes picture old parts new result going less falls later below = ranked
    (field.BesideHeight kept number wider) reader old parts new result less later below result refl refl
number_shrinks (field.Dx moved is_new) reader shapes picture old parts new result going less falls later below = ranked
    (field.Dx moved is_new) reader old parts new result less later below result refl refl
number_shrinks (field.Dy moved is_new dx) reader shapes picture old parts new result going less falls later below = ranked
    (field.Dy moved is_new dx) reader old parts new result less later below result refl refl
number_shrinks (field.Left shape) reader shapes picture old parts new result going less falls later below = ranked
    (field.Left shape) reader old parts new result less later below result refl refl
number_shrinks (field.Top shape left) reader shapes picture old parts new result going less falls later below = ranked
    (field.Top shape left) reader old parts new result less later below result refl refl
number_shrinks field.InheritedCount reader shapes picture old parts new result going less falls later below =
    ranked field.InheritedCount reader old parts new result less later below result refl refl
number_shrinks field.CommentLength reader shapes picture old parts new result going less falls later below =
    ranked field.CommentLength reader old parts new result less later below result refl refl
number_shrinks (field.CommentByte left) reader shapes picture old parts new result going less falls later below = ranked
    (field.CommentByte left) reader old parts new result less later below result refl refl
