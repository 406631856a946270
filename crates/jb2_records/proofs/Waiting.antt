-- What callers of a coder use: how a question begins, and how many decisions were counted where it waits.
use Rattle.std.proofs.Common.{◌≡◌, ◌≤◌, ◌+◌, ℕ, ℤ, Bool, List, [], length, refl, sym, ap, subst, ◌∙◌, arith}
use Rattle.std.specs.Prelude.{Option}
use Rattle.djvu_base.specs.Meter.{ticked, TicksExactly}
use Rattle.djvu_base.proofs.Ticks.{ticked_none, ticked_more}
use Rattle.zp_decoder.specs.Chunk.{Chunk, chunk}
use Rattle.zp_decoder.specs.States.{States, AreBelow}
use Rattle.bit_plane.specs.Pixels.{Pixels}
use Rattle.jb2_numbers.specs.declared.roots.Root.{Root}
use Rattle.jb2_numbers.specs.Number.{Wanted, wanted, begun}
use Rattle.jb2_numbers.specs.Reader.{AreBounds, Reader, Reads, IsUnderway}
use Rattle.jb2_shapes.specs.declared.steps.ShapeStep.{ShapeStep}
use Rattle.jb2_shapes.specs.declared.steps.ShapeStep.TheVariants as shape
use Rattle.jb2_shapes.specs.Numbers as cells
use Rattle.jb2_shapes.specs.Shape as shapes
use Rattle.jb2_shapes.specs.Shape.{Progress, Sketch, progress, empty_sketch, reading_of}
use Rattle.jb2_shapes.proofs.Lemmas.{Leaves, leaves_room}
use Rattle.jb2_records.specs.Coding.{Coder, Read, shape_by}
use Rattle.jb2_records.specs.Taking.{Becomes, context_of}
use Rattle.jb2_records.specs.Telling.{Parts, IsReady, Stands, HalfNumber, HalfShape, read_shape, decisions_of, IsWithin}
use Rattle.jb2_records.proofs.Offering.{becomes_whole, standing_there}
use Rattle.jb2_records.proofs.Shaping.{shape_is}

-- ---- how a question begins

-- a reader that has read nothing
pub underway : (kind : Wanted) (reader : Reader) → Reads kind [] reader → IsUnderway kind reader
underway kind reader reads = ([], (reads, tt))

-- a number begins where a coder stands
pub number_begins : (source : Chunk) (root : Root) (low high : ℤ) (at : Coder) (reader : Reader) (parts : Parts) → IsReady parts → AreBounds low high →
    Reads (wanted root low high) [] reader → Stands source at parts → HalfNumber source root low high at reader parts
number_begins source root low high at reader parts ready bounds reads stands = record {
  bounds = bounds;
  pends = record {
    at = begun at.numbers at.place;
    takes = stands.takes;
    stands = record {
      reads = reads;
      states = stands.numbers;
      fed = stands.takes.fed;
      table = stands.takes.table;
      ended = refl;
      ticks = stands.count ∙ sym (ticked_none (ticked at.decisions 0));
    };
    possible = tt;
    ready = record { table = stands.sound.table; below = stands.sound.numbers; standing = stands.takes.standing };
    goes = λ later becomes. refl;
  };
  feeds = ready.feeds;
  pixels = stands.pixels;
  flag = stands.flag;
  row = stands.row;
  sound = stands.sound;
}

-- and so does a shape
pub shape_begins : (source : Chunk) (matched : Option Pixels) (width height : ℕ) (at : Coder) (parts : Parts) → IsReady parts → Stands source at parts →
    HalfShape source matched width height at (empty_sketch width height) parts
shape_begins source matched width height at parts ready stands = record {
  draws = record {
    place = at.place;
    takes = stands.takes;
    ready = record {
      table = stands.sound.table;
      below = subst (AreBelow (length source.table)) (sym stands.pixels) stands.sound.pixels;
      standing = stands.takes.standing;
    };
    goes = λ later becomes.
        ap (λ (s : States). reading_of (context_of matched width height) later.table later.payload later.ended
        (progress (empty_sketch width height) s at.place))
        stands.pixels;
  };
  feeds = ready.feeds;
  columns = refl;
  rows = refl;
  numbers = stands.numbers;
  flag = stands.flag;
  row = stands.row;
  count =
      let sum : at.decisions ≡ at.decisions + 0 = omega arith in
      subst (λ (n : ℕ). TicksExactly n 0 parts.count) sum stands.count;
  sound = stands.sound;
}

-- ---- how it waits

made_by : (given : ShapeStep) (reading : Progress) (at : Coder) → decisions_of (shape_by given reading at) ≡ at.decisions + reading.sketch.number
made_by shape.Done reading at = refl
made_by shape.NeedBytes reading at = refl
made_by shape.Exhausted reading at = refl

-- a shape that waits has no more decisions than the definition
pub shape_within : (source : Chunk) (matched : Option Pixels) (width height : ℕ) (at : Coder) (sketch : Sketch) (parts : Parts) →
    HalfShape source matched width height at sketch parts → IsWithin (read_shape source matched width height at) parts
shape_within source matched width height at sketch parts half =
    let draws = half.draws in
    let context : Pixels → ℤ → ℤ → List Bool = context_of matched width height in
    let here : Progress = progress sketch (cells.states_of parts.pixels) draws.place in
    let all : shapes.Reading = reading_of context source.table source.payload source.ended (progress (empty_sketch width height) at.pixels at.place) in
    let rest : shapes.Reading = reading_of context source.table source.payload source.ended here in
    let becomes : Becomes (chunk source.table draws.takes.taken parts.zp.ended) source =
    becomes_whole source draws.place parts.unread parts.zp half.feeds draws.takes in
    let leaves : Leaves source.payload here rest =
    leaves_room context source.table source.payload source.ended here draws.ready.table draws.ready.below
    (standing_there source draws.place parts.unread parts.zp draws.takes) in
    let fewer : sketch.number ≤ all.at.sketch.number =
    subst (λ (r : shapes.Reading). sketch.number ≤ r.at.sketch.number) (draws.goes source becomes) leaves.more in
    let less : ticked (at.decisions + sketch.number) 0 ≤ ticked (at.decisions + all.at.sketch.number) 0 =
    ticked_more (at.decisions + sketch.number) (at.decisions + all.at.sketch.number) (omega (arith, fewer)) in
    let same : decisions_of (read_shape source matched width height at) ≡ at.decisions + all.at.sketch.number =
    ap (λ (r : Read Pixels). decisions_of r) (sym (shape_is source matched width height at)) ∙ made_by all.answer all.at at in
    subst (λ (n : ℕ). n ≤ ticked (decisions_of (read_shape source matched width height at)) 0) (sym half.count)
    (subst (λ (n : ℕ). ticked (at.decisions + sketch.number) 0 ≤ ticked n 0) (sym same) less)
