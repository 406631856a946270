-- What a coder's question for a shape comes to, by what its decoder and the reader answer.
use Rattle.std.proofs.Common.{◌≡◌, ◌≤◌, ◌+◌, ◌-◌, ℕ, refl, sym, ap, subst, ◌∙◌, arith}
use Rattle.std.specs.Prelude.{Option, Some, None, Result}
use Rattle.djvu_base.specs.Meter.{TicksExactly}
use Rattle.djvu_base.proofs.Ticks.{ticks_both}
use Rattle.zp_decoder.specs.Chunk.{Chunk}
use Rattle.zp_decoder.specs.Runs.{room}
use Rattle.bit_plane.specs.Pixels.{Pixels}
use Rattle.jb2_numbers.specs.Kept.{states_of}
use Rattle.jb2_shapes.specs.declared.steps.ShapeStep.{ShapeStep}
use Rattle.jb2_shapes.specs.declared.steps.ShapeStep.TheVariants as shape
use Rattle.jb2_shapes.specs.Numbers as cells
use Rattle.jb2_shapes.specs.Shape as shapes
use Rattle.jb2_shapes.specs.Shape.{Sketch, Progress, progress, empty_sketch, reading_of}
use Rattle.jb2_records.specs.declared.stops.Stop.{Stop}
use Rattle.jb2_records.specs.Coding.{Coder, Read, Got, after_shape, shape_by, shape_of}
use Rattle.jb2_records.specs.Growth.{IsSound}
use Rattle.jb2_records.specs.Taking.{Feeds, context_of, IsOf, DrawsOn, HasDrawn}
use Rattle.jb2_records.specs.Telling.{Parts, HalfShape, read_shape, Goes, shape_result}
use Rattle.jb2_records.proofs.Keeping.{direct_leaves, refined_leaves}
use Rattle.jb2_records.proofs.Leaving.{stays_at}

-- what the reading of a shape did with the parts of a coder
pub record Shapes (given : Option Pixels) (old new : Parts) (first last : Sketch) (step : ShapeStep) : Type 0 where
  pub drawn : (source : Chunk) (matched : Option Pixels) (width height : ℕ) (start : Progress) → IsOf matched width height given first →
      DrawsOn (context_of matched width height) source start first (cells.states_of old.pixels) old.unread old.zp →
      HasDrawn (reading_of (context_of matched width height) source.table source.payload source.ended start) source step last
      (cells.states_of new.pixels) new.unread new.zp
  pub waits : (source : Chunk) (matched : Option Pixels) (width height : ℕ) (start : Progress) → step ≡ shape.NeedBytes →
      IsOf matched width height given first →
      DrawsOn (context_of matched width height) source start first (cells.states_of old.pixels) old.unread old.zp →
      DrawsOn (context_of matched width height) source start last (cells.states_of new.pixels) new.unread new.zp
  pub width : last.shape.width ≡ first.shape.width
  pub height : last.shape.height ≡ first.shape.height
  pub grows : first.number ≤ last.number
  pub ticks : TicksExactly (last.number - first.number) old.count new.count
  pub feeds : Feeds new.unread new.zp
  pub numbers : new.numbers ≡ old.numbers
  pub flag : new.flag ≡ old.flag
  pub row : new.row ≡ old.row

pub shape_is : (source : Chunk) (matched : Option Pixels) (width height : ℕ) (at : Coder) →
    shape_of at (reading_of (context_of matched width height) source.table source.payload source.ended
    (progress (empty_sketch width height) at.pixels at.place)) ≡
    read_shape source matched width height at
shape_is source None width height at = refl
shape_is source (Some matched) width height at = refl

shape_sound : (source : Chunk) (matched : Option Pixels) (width height : ℕ) (at next : Coder) (value : Pixels) → IsSound source at →
    read_shape source matched width height at ≡ Got value next → IsSound source next
shape_sound source None width height at next value sound got =
    ((direct_leaves source (room source.payload at.place) at.decisions width height at (stays_at source at sound)).got value next got).sound
shape_sound source (Some matched) width height at next value sound got =
    ((refined_leaves source (room source.payload at.place) at.decisions matched width height at (stays_at source at sound)).got value next got).sound

module _ (source : Chunk) (matched : Option Pixels) (width height : ℕ) (at : Coder) (old new : Parts) (first last : Sketch) where
  abbrev start : Progress
  start = progress (empty_sketch width height) at.pixels at.place

  abbrev reading : shapes.Reading
  reading = reading_of (context_of matched width height) source.table source.payload source.ended start

  has : (step : ShapeStep) → Shapes matched old new first last step → HalfShape source matched width height at first old →
      HasDrawn reading source step last (cells.states_of new.pixels) new.unread new.zp
  has step on half = on.drawn source matched width height start (record { same = refl; columns = half.columns; rows = half.rows }) half.draws

  drawn_count : (step : ShapeStep) → Shapes matched old new first last step → HalfShape source matched width height at first old →
      TicksExactly (at.decisions + last.number) 0 new.count
  drawn_count step on half =
      let grows = on.grows in
      let sum : at.decisions + first.number + (last.number - first.number) ≡ at.decisions + last.number = omega (arith, grows) in
      subst (λ (n : ℕ). TicksExactly n 0 new.count) sum
      (ticks_both (at.decisions + first.number) (last.number - first.number) 0 old.count new.count half.count on.ticks)

  half_drawn : Shapes matched old new first last shape.NeedBytes → HalfShape source matched width height at first old →
      HalfShape source matched width height at last new
  half_drawn on half = record {
    draws = on.waits source matched width height start refl (record { same = refl; columns = half.columns; rows = half.rows }) half.draws;
    feeds = on.feeds;
    columns = on.width ∙ half.columns;
    rows = on.height ∙ half.rows;
    numbers = ap states_of on.numbers ∙ half.numbers;
    flag = on.flag ∙ half.flag;
    row = on.row ∙ half.row;
    count = drawn_count shape.NeedBytes on half;
    sound = half.sound;
  }

  -- what the definition reads, for this answer
  told_by : (step : ShapeStep) → HasDrawn reading source step last (cells.states_of new.pixels) new.unread new.zp →
      read_shape source matched width height at ≡ shape_by step reading.at at
  told_by step drawn = sym (shape_is source matched width height at) ∙ ap (λ (s : ShapeStep). shape_by s reading.at at) (sym drawn.answer)

  count_there : (step : ShapeStep) → Shapes matched old new first last step → (half : HalfShape source matched width height at first old) →
      TicksExactly (at.decisions + reading.at.sketch.number) 0 new.count
  count_there step on half = subst (λ (s : Sketch). TicksExactly (at.decisions + s.number) 0 new.count) (has step on half).sketch_is (drawn_count step on half)

  shape_goes : (step : ShapeStep) → Shapes matched old new first last step → HalfShape source matched width height at first old →
      Goes (λ (r : Unit {0}). last.shape) source (read_shape source matched width height at) (HalfShape source matched width height at last new)
      (shape_result step) new
  shape_goes shape.Done on half =
      let drawn = has shape.Done on half in
      let got : read_shape source matched width height at ≡ Got last.shape (after_shape at reading.at) =
      told_by shape.Done drawn ∙ ap (λ (s : Sketch). let r : Read Pixels = Got s.shape (after_shape at reading.at) in r) (sym drawn.sketch_is) in
      record {
        next = after_shape at reading.at;
        got = got;
        stands = record {
          numbers = ap states_of on.numbers ∙ half.numbers;
          pixels = drawn.states_are;
          flag = on.flag ∙ half.flag;
          row = on.row ∙ half.row;
          takes = drawn.takes;
          count = count_there shape.Done on half;
          sound = shape_sound source matched width height at (after_shape at reading.at) last.shape half.sound got;
        };
      }
  shape_goes shape.NeedBytes on half = (
    record {
      decisions = at.decisions + reading.at.sketch.number;
      stops = told_by shape.NeedBytes (has shape.NeedBytes on half);
      count = count_there shape.NeedBytes on half;
    },
    half_drawn on half,
  )
  shape_goes shape.Exhausted on half = record {
    decisions = at.decisions + reading.at.sketch.number;
    stops = told_by shape.Exhausted (has shape.Exhausted on half);
    count = count_there shape.Exhausted on half;
  }

pub shape_told : (matched : Option Pixels) (old new : Parts) (first last : Sketch) (step : ShapeStep) (result : Result (Unit {0}) Stop) →
    Shapes matched old new first last step → result ≡ shape_result step →
    (source : Chunk) (width height : ℕ) (at : Coder) → HalfShape source matched width height at first old →
    Goes (λ (r : Unit {0}). last.shape) source (read_shape source matched width height at) (HalfShape source matched width height at last new) result new
shape_told matched old new first last step result on is source width height at half =
    subst (λ (r : Result (Unit {0}) Stop). Goes (λ (r : Unit {0}). last.shape) source (read_shape source matched width height at)
    (HalfShape source matched width height at last new) r new) (sym is)
    (shape_goes source matched width height at old new first last step on half)
