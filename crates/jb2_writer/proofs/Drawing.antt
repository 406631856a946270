-- The bits of a shape that are decided are read as this shape, pixel by pixel.
use Rattle.std.proofs.Common.{◌≡◌, ℕ, zero, suc, ◌+◌, ◌-◌, ◌*◌, ◌/◌, ◌%◌, ◌<◌, ◌≤◌, Bool, true, false, ◌&&◌, ◌||◌, eqb, ltb, List, ◌++◌, ℤ, pos, negsuc, refl, sym, ap, subst, ◌∙◌, arith, inl, inr}
use Rattle.std.specs.Prelude.{Option, slice_index_or}
use Rattle.std.proofs.lemmas.Bool.{cases_Bool, cases_lt, cases_eq, and_parts, and_from, eqb-true, eq-eqb, le-ltb}
use Rattle.std.proofs.lemmas.Nat.{div_below, mod_below, div-add-mod', div-mul-add, mod-mul-add, mul-add-lt}
use Rattle.std.proofs.Math.Nat.{mul_comm}
use Rattle.zp_decoder.specs.declared.decoder.Decision.{Decision}
use Rattle.zp_decoder.specs.Decision.{Interval, Outcome}
use Rattle.zp_decoder.specs.States.{States}
use Rattle.zp_decoder.specs.Chunk.{Chunk}
use Rattle.bit_plane.specs.Pixels.{Pixels, IsPlane, is_black, is_black_at, is_place, pixels_where, blank}
use Rattle.bit_plane.specs.Ink.{ink_box_of}
use Rattle.bit_plane.proofs.Lemmas.{set_is_black, wide}
use Rattle.jb2_shapes.specs.declared.steps.ShapeStep.TheVariants as step
use Rattle.jb2_shapes.specs.Shape.{Sketch, empty_sketch, column_of, row_of, with_pixel, Progress, progress, Reading, stands, after_decision, read_pixels, reading_of, direct_context}
use Rattle.jb2_shapes.specs.Refined.{refined_context, column_shift, row_shift}
use Rattle.jb2_records.specs.Coding.{Coder, after_shape, shape_of, read_direct, read_refined}
use Rattle.jb2_writer.specs.Coded.{Coded, Pixel, pixel_at, pixels_coded, shape_coded, direct_coded, refined_coded}
use Rattle.jb2_writer.specs.Decided.{AreDecided, coder_behind, coder_outcome}
use Rattle.jb2_writer.proofs.Joining.{Codes}

-- what the laws of planes give
pub record PlaneLaws : Type 0 where
  pub blank_is : (width height : ℕ) (x y : ℤ) → is_black (blank width height) x y ≡ false
  pub whole : (width height : ℕ) (test : ℕ → ℕ → Bool) → IsPlane (pixels_where width height test)
  pub same : (plane other : Pixels) → IsPlane plane → IsPlane other → plane.width ≡ other.width → plane.height ≡ other.height →
      ((x y : ℤ) → is_black plane x y ≡ is_black other x y) → plane ≡ other

-- ---- one pixel more

place_true : (x y a b : ℕ) → x ≡ a → y ≡ b → is_place (pos x) (pos y) a b ≡ true
place_true x y a b p q = and_from (eqb x a) (eqb y b) (eq-eqb x a p) (eq-eqb y b q)

place_false : (x y a b : ℕ) → (x ≡ a → y ≡ b → ⊥) → is_place (pos x) (pos y) a b ≡ false
place_false x y a b other =
    elim (cases_Bool (eqb x a && eqb y b)) [
      | inl same ↦ let parts = and_parts (eqb x a) (eqb y b) same in absurd (other (eqb-true x a parts.0) (eqb-true y b parts.1))
      | inr different ↦ different
    ]

number_after : (sketch : Sketch) (bit : Bool) → (with_pixel sketch bit).number ≡ sketch.number + 1
number_after sketch true = refl
number_after sketch false = refl

width_after : (sketch : Sketch) (bit : Bool) → (with_pixel sketch bit).shape.width ≡ sketch.shape.width
width_after sketch true = refl
width_after sketch false = refl

height_after : (sketch : Sketch) (bit : Bool) → (with_pixel sketch bit).shape.height ≡ sketch.shape.height
height_after sketch true = refl
height_after sketch false = refl

module _ (sketch : Sketch) (column : column_of sketch < sketch.shape.width) (row : row_of sketch < sketch.shape.height) (x y : ℕ) where
  colour_here : (bit : Bool) → x ≡ column_of sketch → y ≡ row_of sketch → is_black sketch.shape (pos x) (pos y) ≡ false →
      is_black (with_pixel sketch bit).shape (pos x) (pos y) ≡ bit
  colour_here true p q white =
      set_is_black sketch.shape (column_of sketch) (row_of sketch) (pos x) (pos y) column row
      ∙ ap (λ (t : Bool). t || is_black sketch.shape (pos x) (pos y)) (place_true x y (column_of sketch) (row_of sketch) p q)
  colour_here false p q white = white

  colour_elsewhere : (bit : Bool) → (x ≡ column_of sketch → y ≡ row_of sketch → ⊥) →
      is_black (with_pixel sketch bit).shape (pos x) (pos y) ≡ is_black sketch.shape (pos x) (pos y)
  colour_elsewhere true other =
      set_is_black sketch.shape (column_of sketch) (row_of sketch) (pos x) (pos y) column row
      ∙ ap (λ (t : Bool). t || is_black sketch.shape (pos x) (pos y)) (place_false x y (column_of sketch) (row_of sketch) other)
  colour_elsewhere false other = refl

-- ---- places in the order of reading

index : ℕ → ℕ → ℕ → ℕ → ℕ
index width height x y = (height - 1 - y) * width + x

place_at : (width height x y n : ℕ) → x < width → y < height → index width height x y ≡ n → (x ≡ n % width) × (y ≡ height - 1 - n / width)
unfolding index
place_at width height x y n p q e =
    let column : ((height - 1 - y) * width + x) % width ≡ x = mod-mul-add (height - 1 - y) width x p in
    let row : ((height - 1 - y) * width + x) / width ≡ height - 1 - y = div-mul-add (height - 1 - y) width x p in
    let back : height - 1 - (height - 1 - y) ≡ y = omega arith in (
      sym (ap (λ (m : ℕ). m % width) (sym e) ∙ column),
      sym (ap (λ (m : ℕ). height - 1 - m / width) (sym e) ∙ (ap (λ (m : ℕ). height - 1 - m) row ∙ back)),
    )

index_at : (width height x y n : ℕ) → n < width * height → x ≡ n % width → y ≡ height - 1 - n / width → index width height x y ≡ n
unfolding index
index_at width height x y n within p q =
    let some = wide width height n within in
    let below = div_below n width height some (omega (arith, mul_comm width height)) in
    let row : height - 1 - y ≡ n / width = omega arith in
    ap (λ (k : ℕ). k * width + x) row ∙ (ap (λ (m : ℕ). n / width * width + m) p ∙ div-add-mod' n width)

index_within : (width height x y : ℕ) → x < width → y < height → index width height x y < width * height
unfolding index
index_within width height x y p q =
    let row : height - 1 - y < height = omega arith in
    let all = mul-add-lt (height - 1 - y) width x height row p in
    omega (arith, all, mul_comm width height)

-- ---- outside of a plane

no_row : (a b c : Bool) → b ≡ false → ((a && b) && c) ≡ false
no_row true b c e = ap (λ (t : Bool). t && c) e
no_row false b c e = refl

right_of : (plane : Pixels) (x y : ℕ) → plane.width ≤ x → is_black plane (pos x) (pos y) ≡ false
right_of plane x y h =
    ap (λ (t : Bool). (t && ltb y plane.height) && slice_index_or plane.black (y * plane.width + x) false) (le-ltb x plane.width h)

above : (plane : Pixels) (x y : ℕ) → plane.height ≤ y → is_black plane (pos x) (pos y) ≡ false
above plane x y h = no_row (ltb x plane.width) (ltb y plane.height) (slice_index_or plane.black (y * plane.width + x) false) (le-ltb y plane.height h)

module _ (shape : Pixels) where
  -- the sketch with so many pixels more of the shape
  drawn : ℕ → Sketch → Sketch
  drawn zero sketch = sketch
  drawn (suc left) sketch = drawn left (with_pixel sketch (pixel_at shape sketch))

  -- the first pixels of the sketch are those of the shape, and the others are white
  record Agrees (sketch : Sketch) : Type 0 where
    width : sketch.shape.width ≡ shape.width
    height : sketch.shape.height ≡ shape.height
    whole : IsPlane sketch.shape
    read : (x y : ℕ) → x < shape.width → y < shape.height → index shape.width shape.height x y < sketch.number →
        is_black sketch.shape (pos x) (pos y) ≡ is_black shape (pos x) (pos y)
    white : (x y : ℕ) → x < shape.width → y < shape.height → sketch.number ≤ index shape.width shape.height x y →
        is_black sketch.shape (pos x) (pos y) ≡ false

  module _ (laws : PlaneLaws) where
    whole_after : (sketch : Sketch) (bit : Bool) → IsPlane sketch.shape → IsPlane (with_pixel sketch bit).shape
    whole_after sketch true is =
        laws.whole sketch.shape.width sketch.shape.height (λ a b. (eqb a (column_of sketch) && eqb b (row_of sketch)) || is_black_at sketch.shape a b)
    whole_after sketch false is = is

    module _ (sketch : Sketch) (agrees : Agrees sketch) (unread : sketch.number < shape.width * shape.height) where
      column_is : column_of sketch ≡ sketch.number % shape.width
      column_is = ap (λ (w : ℕ). sketch.number % w) agrees.width

      row_is : row_of sketch ≡ shape.height - 1 - sketch.number / shape.width
      row_is =
          ap (λ (h : ℕ). h - 1 - sketch.number / sketch.shape.width) agrees.height
          ∙ ap (λ (w : ℕ). shape.height - 1 - sketch.number / w) agrees.width

      some : 0 < shape.width
      some = wide shape.width shape.height sketch.number unread

      column_within : column_of sketch < sketch.shape.width
      column_within = let below = mod_below sketch.number shape.width some in omega (arith, below, column_is, agrees.width)

      row_within : row_of sketch < sketch.shape.height
      row_within =
          let below = div_below sketch.number shape.width shape.height some (omega (arith, mul_comm shape.width shape.height)) in
          omega (arith, below, row_is, agrees.height)

      elsewhere : (x y : ℕ) → (index shape.width shape.height x y ≡ sketch.number → ⊥) → x ≡ column_of sketch → y ≡ row_of sketch → ⊥
      elsewhere x y other p q = other (index_at shape.width shape.height x y sketch.number unread (p ∙ column_is) (q ∙ row_is))

      here : (x y : ℕ) → x < shape.width → y < shape.height → index shape.width shape.height x y ≡ sketch.number →
          (x ≡ column_of sketch) × (y ≡ row_of sketch)
      here x y p q e =
          let place = place_at shape.width shape.height x y sketch.number p q e in
          (place.0 ∙ sym column_is, place.1 ∙ sym row_is)

      next_read : (x y : ℕ) → x < shape.width → y < shape.height → index shape.width shape.height x y < sketch.number + 1 →
          is_black (with_pixel sketch (pixel_at shape sketch)).shape (pos x) (pos y) ≡ is_black shape (pos x) (pos y)
      next_read x y p q within =
          elim (cases_eq (index shape.width shape.height x y) sketch.number) [
            | inl e ↦
                let place = here x y p q e in
                colour_here sketch column_within row_within x y (pixel_at shape sketch) place.0 place.1 (agrees.white x y p q (omega (arith, e)))
                ∙ sym (ap (λ (a : ℕ). is_black shape (pos a) (pos y)) place.0 ∙ ap (λ (b : ℕ). is_black shape (pos (column_of sketch)) (pos b)) place.1)
            | inr other ↦
                let less : index shape.width shape.height x y < sketch.number =
                elim (cases_lt (index shape.width shape.height x y) sketch.number) [
                  | inl less ↦ less
                  | inr least ↦ absurd (other (omega (arith, within, least)))
                ] in
                colour_elsewhere sketch column_within row_within x y (pixel_at shape sketch) (elsewhere x y other) ∙ agrees.read x y p q less
          ]

      next_white : (x y : ℕ) → x < shape.width → y < shape.height → sketch.number + 1 ≤ index shape.width shape.height x y →
          is_black (with_pixel sketch (pixel_at shape sketch)).shape (pos x) (pos y) ≡ false
      next_white x y p q least =
          colour_elsewhere sketch column_within row_within x y (pixel_at shape sketch) (elsewhere x y (λ e. omega (arith, e, least)))
          ∙ agrees.white x y p q (omega (arith, least))

      agrees_on : Agrees (with_pixel sketch (pixel_at shape sketch))
      agrees_on =
          let number = number_after sketch (pixel_at shape sketch) in
          record {
            width = width_after sketch (pixel_at shape sketch) ∙ agrees.width;
            height = height_after sketch (pixel_at shape sketch) ∙ agrees.height;
            whole = whole_after sketch (pixel_at shape sketch) agrees.whole;
            read = λ x y p q within. next_read x y p q (omega (arith, number, within));
            white = λ x y p q least. next_white x y p q (omega (arith, number, least));
          }

    record Whole (sketch : Sketch) : Type 0 where
      agrees : Agrees sketch
      number : sketch.number ≡ shape.width * shape.height

    drawn_on : (left : ℕ) (sketch : Sketch) → Agrees sketch → sketch.number + left ≡ shape.width * shape.height → Whole (drawn left sketch)
    unfolding drawn
    drawn_on zero sketch agrees e = record { agrees = agrees; number = omega (arith, e) }
    drawn_on (suc left) sketch agrees e =
        let unread : sketch.number < shape.width * shape.height = omega (arith, e) in
        let number = number_after sketch (pixel_at shape sketch) in
        drawn_on left (with_pixel sketch (pixel_at shape sketch)) (agrees_on sketch agrees unread) (omega (arith, e, number))

    none_agrees : Agrees (empty_sketch shape.width shape.height)
    none_agrees = record {
      width = refl;
      height = refl;
      whole = laws.whole shape.width shape.height (λ x y. false);
      read = λ x y p q within. absurd (omega (arith, within));
      white = λ x y p q least. laws.blank_is shape.width shape.height (pos x) (pos y);
    }

    module _ (sketch : Sketch) (whole : Whole sketch) where
      inside_same : (x y : ℕ) → x < shape.width → y < shape.height → is_black sketch.shape (pos x) (pos y) ≡ is_black shape (pos x) (pos y)
      inside_same x y p q =
          let within = index_within shape.width shape.height x y p q in
          whole.agrees.read x y p q (omega (arith, within, whole.number))

      column_same : (x y : ℕ) → x < shape.width → is_black sketch.shape (pos x) (pos y) ≡ is_black shape (pos x) (pos y)
      column_same x y p =
          elim (cases_lt y shape.height) [
            | inl q ↦ inside_same x y p q
            | inr q ↦ above sketch.shape x y (omega (arith, q, whole.agrees.height)) ∙ sym (above shape x y q)
          ]

      place_same : (x y : ℕ) → is_black sketch.shape (pos x) (pos y) ≡ is_black shape (pos x) (pos y)
      place_same x y =
          elim (cases_lt x shape.width) [
            | inl p ↦ column_same x y p
            | inr p ↦ right_of sketch.shape x y (omega (arith, p, whole.agrees.width)) ∙ sym (right_of shape x y p)
          ]

      pixel_same : (x y : ℤ) → is_black sketch.shape x y ≡ is_black shape x y
      pixel_same (pos x) (pos y) = place_same x y
      pixel_same (pos x) (negsuc y) = refl
      pixel_same (negsuc x) y = refl

      shape_same : IsPlane shape → sketch.shape ≡ shape
      shape_same plane = laws.same sketch.shape shape whole.agrees.whole plane whole.agrees.width whole.agrees.height pixel_same

    sketch_of : Pixels → ℕ → Sketch
    sketch_of pixels number = record { shape = pixels; number = number }

    sketch_same : (sketch : Sketch) → sketch.shape ≡ shape → sketch.number ≡ shape.width * shape.height →
        sketch ≡ record { shape = shape; number = shape.width * shape.height }
    sketch_same sketch p q = λ i. record { shape = p i; number = q i }

    all_drawn : IsPlane shape → drawn (shape.width * shape.height) (empty_sketch shape.width shape.height) ≡
        record { shape = shape; number = shape.width * shape.height }
    all_drawn plane =
        let sketch : Sketch = drawn (shape.width * shape.height) (empty_sketch shape.width shape.height) in
        let whole = drawn_on (shape.width * shape.height) (empty_sketch shape.width shape.height) none_agrees (omega arith) in
        sketch_same sketch (shape_same sketch whole plane) whole.number

-- ---- the bits of a shape

module _ (context : Pixels → ℤ → ℤ → List Bool) (source : Chunk) (shape : Pixels) (to : Coder) (later : List Coded) where
  coder_with : Coder → States → Option Interval → ℕ → Coder
  coder_with at states place decisions = record {
    numbers = at.numbers;
    pixels = states;
    flag = at.flag;
    row = at.row;
    place = place;
    decisions = decisions;
  }

  -- so many pixels are read, and the later bits are decided from there on
  record Draws (left : ℕ) (sketch : Sketch) (at : Coder) : Type 0 where
    states : States
    place : Option Interval
    reading : read_pixels context source.table source.payload source.ended left (progress sketch at.pixels at.place) ≡
        stands step.Done (progress (drawn shape left sketch) states place)
    decided : AreDecided source (coder_with at states place (at.decisions + left)) later to

  pixels_read : (left : ℕ) (sketch : Sketch) (at : Coder) → AreDecided source at (pixels_coded context shape left sketch ++ later) to →
      Draws left sketch at
  unfolding drawn coder_with
  pixels_read zero sketch at given =
      let sum : at.decisions ≡ at.decisions + 0 = omega arith in
      record {
        states = at.pixels;
        place = at.place;
        reading = refl;
        decided = subst (λ (n : ℕ). AreDecided source (coder_with at at.pixels at.place n) later to) sum given;
      }
  pixels_read (suc left) sketch at given =
      let colours : List Bool = context sketch.shape (pos (column_of sketch)) (pos (row_of sketch)) in
      let bit : Bool = pixel_at shape sketch in
      let o : Outcome = coder_outcome source at (Pixel colours) in
      let more = pixels_read left (with_pixel sketch bit) (coder_behind at (Pixel colours) o) given.1 in
      let sum : at.decisions + 1 + left ≡ at.decisions + suc left = omega arith in
      record {
        states = more.states;
        place = more.place;
        reading = ap (λ (answer : Decision). after_decision answer o colours (progress sketch at.pixels at.place)
            (λ (next : Progress). read_pixels context source.table source.payload source.ended left next)) given.0 ∙ more.reading;
        decided = subst (λ (n : ℕ). AreDecided source (coder_with at more.states more.place n) later to) sum more.decided;
      }

pub shape_codes : (context : Pixels → ℤ → ℤ → List Bool) (source : Chunk) (shape : Pixels) → PlaneLaws → IsPlane shape →
    Codes Pixels source (shape_coded context shape)
    (λ at.
    shape_of at (reading_of context source.table source.payload source.ended (progress (empty_sketch shape.width shape.height) at.pixels at.place)))
    shape
unfolding coder_with
shape_codes context source shape laws plane at to later given =
    let size : ℕ = shape.width * shape.height in
    let start : Progress = progress (empty_sketch shape.width shape.height) at.pixels at.place in
    let draws = pixels_read context source shape to later (shape.width * shape.height) (empty_sketch shape.width shape.height) at given in
    let count : shape.width * shape.height - 0 ≡ shape.width * shape.height = omega arith in
    let sketch : Sketch = record { shape = shape; number = shape.width * shape.height } in
    let all : reading_of context source.table source.payload source.ended start ≡ stands step.Done (progress sketch draws.states draws.place) =
    ap (λ (n : ℕ). read_pixels context source.table source.payload source.ended n start) count
    ∙ (draws.reading ∙ ap (λ (s : Sketch). stands step.Done (progress s draws.states draws.place)) (all_drawn shape laws plane)) in
    record {
      next = after_shape at (progress sketch draws.states draws.place);
      got = ap (λ (reading : Reading). shape_of at reading) all;
      decided = draws.decided;
    }

pub direct_codes : (source : Chunk) (shape : Pixels) → PlaneLaws → IsPlane shape →
    Codes Pixels source (direct_coded shape) (λ at. read_direct source shape.width shape.height at) shape
direct_codes source shape laws plane = shape_codes direct_context source shape laws plane

pub refined_codes : (source : Chunk) (matched shape : Pixels) → PlaneLaws → IsPlane shape →
    Codes Pixels source (refined_coded matched shape) (λ at. read_refined source matched shape.width shape.height at) shape
refined_codes source matched shape laws plane =
    shape_codes (refined_context matched (column_shift shape (ink_box_of matched)) (row_shift shape (ink_box_of matched))) source shape laws plane
