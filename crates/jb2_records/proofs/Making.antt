-- A shape that is made: its sides, the pixels of one that refines another, and what follows it.
use Rattle.std.proofs.Common.{◌≡◌, ℕ, ◌≤◌, ℤ, pos, ◌+ℤ◌, SFits, to_z, of_z, w32, w64, rules, List, sym, ap, subst, ◌∙◌}
use Rattle.std.specs.Prelude.{Some, Result, Ok, Err}
use Rattle.djvu_base.specs.declared.faults.FaultKind.{FaultKind}
use Rattle.zp_decoder.specs.Chunk.{Chunk}
use Rattle.bit_plane.specs.Pixels.{Pixels, side_limit}
use Rattle.bit_plane.specs.Ink.{ink_box_of, unsigned}
use Rattle.bit_plane.specs.declared.ink.InkBox.{InkBox}
use Rattle.jb2_shapes.specs.Refined.{Refinement}
use Rattle.jb2_records.specs.declared.steps.Use.{Use}
use Rattle.jb2_records.specs.declared.steps.Origin.{Origin}
use Rattle.jb2_records.specs.declared.steps.Origin.TheVariants as origin
use Rattle.jb2_records.specs.declared.steps.Step.TheVariants as step
use Rattle.jb2_records.specs.declared.stops.Stop.{Stop}
use Rattle.jb2_records.specs.declared.stops.Stop.TheVariants as stop
use Rattle.jb2_records.specs.declared.machine.Halt.{Halt}
use Rattle.jb2_records.specs.declared.machine.Machine.{Machine}
use Rattle.jb2_records.specs.declared.reader.Jb2Step.TheVariants as answer
use Rattle.jb2_records.specs.Records.{Record, shape_at}
use Rattle.jb2_records.specs.Coding.{Coder, Read, checked, then_read, read_refined}
use Rattle.jb2_records.specs.Reading.{Input, shape_fault}
use Rattle.jb2_records.specs.Telling.{Parts, Stands, Comes, Goes, GoesShape, HalfShape}
use Rattle.jb2_records.specs.Library.{Library, shapes_of, Keeps}
use Rattle.jb2_records.specs.Steps.{from_own, from_beside, from_beside_sizes, from_shape, numbered, wide_of, high_of, rest_of}
use Rattle.jb2_records.specs.Machine.{with_chunk, Continues, Waits, Stays, Holds, HaltsAt, Answers, halt_of, SizesOf}
use Rattle.jb2_records.proofs.Adding.{keeps_shapes}
use Rattle.jb2_records.proofs.Suspending.{along, answered, refined_reaches, asked_halts, refused}
use Rattle.jb2_records.proofs.Entering.{passed_by}

-- ---- sides

-- what a check told of these sides, behind records that a library keeps
abbrev pub Sizes : Input → Library → ℤ → ℤ → Result (ℕ × ℕ) FaultKind → Type 0
Sizes input shapes width height told = (before : List Record) → Keeps input before shapes →
    SizesOf (shape_fault input before width height) width height told

-- told in other words
pub sizes_at : (input : Input) (shapes : Library) (width height wide high : ℤ) (told : Result (ℕ × ℕ) FaultKind) → wide ≡ width → high ≡ height →
    Sizes input shapes wide high told → Sizes input shapes width height told
sizes_at input shapes width height wide high told same_width same_height sizes =
    subst (λ (h : ℤ). Sizes input shapes width h told) same_height (subst (λ (w : ℤ). Sizes input shapes w high told) same_width sizes)

-- what is left of a record where the sides of its shape are checked
abbrev checked_own : Use → ℤ → ℤ → Input → List Record → List ℕ → Coder → Read Record
checked_own kept width height later before text at =
    checked (shape_fault later before width height) at (λ at. from_own later before kept (unsigned width) (unsigned height) at)

pub own_sized : (input : Input) (kept : Use) (width height : ℤ) (columns rows : ℕ) (machine : Machine) →
    Sizes input machine.library width height (Ok (columns, rows)) → Stays input (checked_own kept width height) machine →
    Holds input (step.Own kept columns rows) machine
unfolding rest_of
own_sized input kept width height columns rows machine told c =
    let sized = told c.before c.keeps in
    let next : Stays input (λ later before text at. from_own later before kept (unsigned width) (unsigned height) at) machine =
    passed_by input (λ later before. shape_fault later before width height)
    (λ later before text at. from_own later before kept (unsigned width) (unsigned height) at) machine c sized.0 (λ later none. none) in
    subst (λ (h : ℕ). Stays input (λ later before text at. from_own later before kept columns h at) machine) (sym sized.2)
    (subst (λ (w : ℕ). Stays input (λ later before text at. from_own later before kept w (unsigned height) at) machine) (sym sized.1) next)

pub own_refused : (input : Input) (kept : Use) (width height : ℤ) (found : FaultKind) (machine : Machine) →
    Sizes input machine.library width height (Err found) → Stays input (checked_own kept width height) machine →
    Answers input (answer.Refused found) machine
own_refused input kept width height found machine told c =
    refused input (λ later before. shape_fault later before width height)
    (λ later before text at. from_own later before kept (unsigned width) (unsigned height) at) machine found c (told c.before c.keeps)

-- a side that is told by the ink of another shape
side_fits : (count : ℕ) (more : ℤ) → count ≤ side_limit → SFits w32 more → to_z w64 (of_z w64 (pos count +ℤ more)) ≡ pos count +ℤ more
side_fits count more few fits = search rules

pub side_is : (given_count given_more more : ℤ) (count ink : ℕ) → given_count ≡ pos count → given_more ≡ more → count ≤ side_limit → SFits w32 more →
    count ≡ ink → to_z w64 (of_z w64 (given_count +ℤ given_more)) ≡ pos ink +ℤ more
side_is given_count given_more more count ink same_count same_more few fits is =
    ap (λ (a : ℤ). to_z w64 (of_z w64 (a +ℤ given_more))) same_count ∙ ap (λ (b : ℤ). to_z w64 (of_z w64 (pos count +ℤ b))) same_more
    ∙ side_fits count more few fits ∙ ap (λ (n : ℕ). pos n +ℤ more) is

-- the same for a shape beside the one with this number
abbrev checked_beside : Use → ℕ → ℤ → ℤ → Input → List Record → List ℕ → Coder → Read Record
checked_beside kept number wider higher later before text at =
    let box : InkBox = ink_box_of (numbered later before number) in
    from_beside_sizes later before kept number (wide_of box wider) (high_of box higher) at

-- its sides, told by the ink of the shape at hand
pub record AreBeside (shape : Pixels) (wider higher width height : ℤ) : Type 0 where
  pub wide : width ≡ wide_of (ink_box_of shape) wider
  pub high : height ≡ high_of (ink_box_of shape) higher

beside_here : (input : Input) (kept : Use) (number : ℕ) (wider higher width height : ℤ) (shape : Pixels) (machine : Machine) →
    shape ≡ shape_at (shapes_of machine.library) number → AreBeside shape wider higher width height →
    Stays input (checked_beside kept number wider higher) machine →
    Stays input (λ later before text at. from_beside_sizes later before kept number width height at) machine
beside_here input kept number wider higher width height shape machine is beside c =
    let same : shape ≡ numbered input c.before number =
    is ∙ ap (λ (l : List Pixels). shape_at l number) (keeps_shapes input c.before machine.library c.keeps) in
    let wide : wide_of (ink_box_of (numbered input c.before number)) wider ≡ width =
    ap (λ (s : Pixels). wide_of (ink_box_of s) wider) (sym same) ∙ sym beside.wide in
    let high : high_of (ink_box_of (numbered input c.before number)) higher ≡ height =
    ap (λ (s : Pixels). high_of (ink_box_of s) higher) (sym same) ∙ sym beside.high in
    along input (checked_beside kept number wider higher) (λ later before text at. from_beside_sizes later before kept number width height at)
    (λ before at. Stands input.chunk at machine.coder) machine.library machine.picture machine.units c c.text
    (λ later. ap (λ (w : ℤ). from_beside_sizes (with_chunk input later) c.before kept number w
    (high_of (ink_box_of (numbered input c.before number)) higher) c.at) wide
    ∙ ap (λ (h : ℤ). from_beside_sizes (with_chunk input later) c.before kept number width h c.at) high)

pub beside_sized : (input : Input) (kept : Use) (number : ℕ) (wider higher width height : ℤ) (columns rows : ℕ) (shape : Pixels) (machine : Machine) →
    shape ≡ shape_at (shapes_of machine.library) number → AreBeside shape wider higher width height →
    Sizes input machine.library width height (Ok (columns, rows)) → Stays input (checked_beside kept number wider higher) machine →
    Holds input (step.Beside kept number columns rows) machine
unfolding rest_of
beside_sized input kept number wider higher width height columns rows shape machine is beside told c =
    let here : Stays input (λ later before text at. from_beside_sizes later before kept number width height at) machine =
    beside_here input kept number wider higher width height shape machine is beside c in
    let sized = told here.before here.keeps in
    let next : Stays input (λ later before text at. from_beside later before kept number (unsigned width) (unsigned height) at) machine =
    passed_by input (λ later before. shape_fault later before width height)
    (λ later before text at. from_beside later before kept number (unsigned width) (unsigned height) at) machine here sized.0 (λ later none. none) in
    subst (λ (h : ℕ). Stays input (λ later before text at. from_beside later before kept number columns h at) machine) (sym sized.2)
    (subst (λ (w : ℕ). Stays input (λ later before text at. from_beside later before kept number w (unsigned height) at) machine) (sym sized.1) next)

pub beside_refused : (input : Input) (kept : Use) (number : ℕ) (wider higher width height : ℤ) (found : FaultKind) (shape : Pixels) (machine : Machine) →
    shape ≡ shape_at (shapes_of machine.library) number → AreBeside shape wider higher width height →
    Sizes input machine.library width height (Err found) → Stays input (checked_beside kept number wider higher) machine →
    Answers input (answer.Refused found) machine
beside_refused input kept number wider higher width height found shape machine is beside told c =
    let here : Stays input (λ later before text at. from_beside_sizes later before kept number width height at) machine =
    beside_here input kept number wider higher width height shape machine is beside c in
    refused input (λ later before. shape_fault later before width height)
    (λ later before text at. from_beside later before kept number (unsigned width) (unsigned height) at) machine found here (told here.before here.keeps)

-- ---- pixels of a shape that refines another

pub refined_holds : (input : Input) (kept : Use) (number : ℕ) (reader : Refinement) (shape : Pixels) (old : Machine) (parts : Parts) →
    (holds : Holds input (step.Refined kept number reader) old) →
    Comes input.chunk (read_refined input.chunk reader.matched reader.sketch.shape.width reader.sketch.shape.height holds.at) shape parts →
    Holds input (step.Shape (origin.Refined number) kept shape) (record old { coder = parts })
unfolding rest_of
refined_holds input kept number reader shape old parts holds came =
    let there : Comes input.chunk (read_refined input.chunk (numbered input holds.before number) reader.sketch.shape.width reader.sketch.shape.height
    holds.at) shape parts =
    subst (λ (m : Pixels). Comes input.chunk (read_refined input.chunk m reader.sketch.shape.width reader.sketch.shape.height holds.at) shape parts)
    holds.stands_there.1 came in
    answered input (λ later before at. read_refined later.chunk (numbered later before number) reader.sketch.shape.width reader.sketch.shape.height at)
    (λ later before text shape at. from_shape later before (origin.Refined number) kept shape at)
    (λ before at. Waits input (step.Refined kept number reader) old.coder before at) old.library old.picture old.units shape parts holds there
    (λ later becomes. refined_reaches input.chunk (numbered input holds.before number) reader.sketch.shape.width reader.sketch.shape.height shape holds.at
    there.next holds.sound there.got later becomes)

-- what waits, said in another way
goes_waits : {A R : Type 0} (view : R → A) (source : Chunk) (told : Read A) (first last : Type 0) (halts : Stop) (parts : Parts) → (first → last) →
    Goes view source told first (Err halts) parts →
    Goes view source told last (Err halts) parts
goes_waits view source told first last stop.NeedBytes parts on (stopped, waits) = (stopped, on waits)
goes_waits view source told first last (stop.Refused kind) parts on stopped = stopped
goes_waits view source told first last stop.OutOfMemory parts on (within, waits) = (within, on waits)

-- where the sides and the matched shape are told in other words
abbrev Halts : Input → Use → ℕ → Refinement → (List Record → Coder → Type 0) → Machine → Parts → Stop → Pixels → ℕ → ℕ → Type 0
Halts input kept number last waits old parts halts matched width height =
    (c : Continues input (λ later before text at. from_beside later before kept number width height at) waits old.library old.picture old.units) →
    matched ≡ numbered input c.before number →
    GoesShape input.chunk last.sketch.shape (read_refined input.chunk matched width height c.at)
    (HalfShape input.chunk (Some matched) width height c.at last.sketch parts) (Err halts) parts →
    HaltsAt input (halt_of halts (step.Refined kept number last)) (record old { coder = parts })

refined_stops : (input : Input) (kept : Use) (number : ℕ) (last : Refinement) (waits : List Record → Coder → Type 0) (old : Machine) (parts : Parts)
    (halts : Stop) →
    Halts input kept number last waits old parts halts last.matched last.sketch.shape.width last.sketch.shape.height
unfolding rest_of
refined_stops input kept number last waits old parts halts c there goes =
    asked_halts (λ (u : Unit {0}). last.sketch.shape) input (step.Refined kept number last) (record old { coder = parts }) waits
    (read_refined input.chunk last.matched last.sketch.shape.width last.sketch.shape.height c.at)
    (λ shape at. from_shape input c.before (origin.Refined number) kept shape at) halts c
    (ap (λ (m : Pixels). then_read (read_refined input.chunk m last.sketch.shape.width last.sketch.shape.height c.at)
    (λ shape at. from_shape input c.before (origin.Refined number) kept shape at)) (sym there))
    (goes_waits (λ (u : Unit {0}). last.sketch.shape) input.chunk (read_refined input.chunk last.matched last.sketch.shape.width last.sketch.shape.height
    c.at)
    (HalfShape input.chunk (Some last.matched) last.sketch.shape.width last.sketch.shape.height c.at last.sketch parts)
    (Waits input (step.Refined kept number last) parts c.before c.at) halts parts
    (λ half. (half, there)) goes)

pub refined_halts : (input : Input) (kept : Use) (number : ℕ) (first last : Refinement) (old : Machine) (parts : Parts) (halts : Stop) (result : Halt) →
    result ≡ halt_of halts (step.Refined kept number last) →
    last.matched ≡ first.matched → last.sketch.shape.width ≡ first.sketch.shape.width → last.sketch.shape.height ≡ first.sketch.shape.height →
    (holds : Holds input (step.Refined kept number first) old) →
    GoesShape input.chunk last.sketch.shape (read_refined input.chunk first.matched first.sketch.shape.width first.sketch.shape.height holds.at)
    (HalfShape input.chunk (Some first.matched) first.sketch.shape.width first.sketch.shape.height holds.at last.sketch parts) (Err halts) parts →
    HaltsAt input result (record old { coder = parts })
unfolding rest_of
refined_halts input kept number first last old parts halts result is matched columns rows holds goes =
    let waits : List Record → Coder → Type 0 = λ before at. Waits input (step.Refined kept number first) old.coder before at in
    let stops : Halts input kept number last waits old parts halts first.matched first.sketch.shape.width first.sketch.shape.height =
    subst (λ (h : ℕ). Halts input kept number last waits old parts halts first.matched first.sketch.shape.width h) rows
    (subst (λ (w : ℕ). Halts input kept number last waits old parts halts first.matched w last.sketch.shape.height) columns
    (subst (λ (m : Pixels). Halts input kept number last waits old parts halts m last.sketch.shape.width last.sketch.shape.height) matched
    (refined_stops input kept number last waits old parts halts))) in
    subst (λ (h : Halt). HaltsAt input h (record old { coder = parts })) (sym is) (stops holds holds.stands_there.1 goes)

-- ---- behind the pixels

-- the shape is another one's value
pub at_shape : (input : Input) (made : Origin) (kept : Use) (shape other : Pixels) (machine : Machine) → other ≡ shape →
    Holds input (step.Shape made kept shape) machine → Holds input (step.Shape made kept other) machine
at_shape input made kept shape other machine same holds = subst (λ (s : Pixels). Holds input (step.Shape made kept s) machine) (sym same) holds

pub shape_stays : (input : Input) (made : Origin) (kept : Use) (shape other : Pixels) (machine : Machine) → other ≡ shape →
    Holds input (step.Shape made kept shape) machine →
    Stays input (λ later before text at. from_shape later before made kept other at) machine
unfolding rest_of
shape_stays input made kept shape other machine same holds = subst (λ (s : Pixels). Stays input
    (λ later before text at. from_shape later before made kept s at) machine) (sym same) holds
