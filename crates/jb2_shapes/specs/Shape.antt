-- Shapes (DjVu 3 reference, JB2): one pixel after the other, each decided in the context of pixels near it.
use Rattle.std.specs.Prelude.{◌≡◌, ℕ, zero, suc, ◌+◌, ◌-◌, ◌*◌, ◌/◌, ◌%◌, ◌<◌, Bool, true, false, List, [], ◌∷◌, Option, ℤ, pos, ◌+ℤ◌, ◌-ℤ◌}
use Rattle.zp_table.specs.declared.rows.Row.{Row}
use Rattle.zp_decoder.specs.declared.decoder.Decision.{Decision}
use Rattle.zp_decoder.specs.declared.decoder.Decision.TheVariants as decision
use Rattle.zp_decoder.specs.Decision.{Interval, Outcome, Adaptive, outcome_of}
use Rattle.bit_plane.specs.Pixels.{Pixels, is_black, blank, with_black}
use Rattle.jb2_shapes.specs.declared.steps.ShapeStep.{ShapeStep}
use Rattle.jb2_shapes.specs.declared.steps.ShapeStep.TheVariants as step
use Rattle.zp_decoder.specs.States.{States, with_state}

-- the colours of the ten pixels near (x, y) that were read before it: three two rows above, five one row above and two
-- to the left
abbrev pub direct_context : Pixels → ℤ → ℤ → List Bool
direct_context shape x y =
    is_black shape (x -ℤ pos 1) (y +ℤ pos 2) ∷ is_black shape x (y +ℤ pos 2) ∷ is_black shape (x +ℤ pos 1) (y +ℤ pos 2)
    ∷ is_black shape (x -ℤ pos 2) (y +ℤ pos 1) ∷ is_black shape (x -ℤ pos 1) (y +ℤ pos 1) ∷ is_black shape x (y +ℤ pos 1)
    ∷ is_black shape (x +ℤ pos 1) (y +ℤ pos 1) ∷ is_black shape (x +ℤ pos 2) (y +ℤ pos 1)
    ∷ is_black shape (x -ℤ pos 2) y ∷ is_black shape (x -ℤ pos 1) y ∷ []

-- a shape of which so many pixels were read: from the top row down, each row from the left
pub record Sketch : Type 0 where
  pub shape : Pixels
  pub number : ℕ

-- nothing of a shape of this size was read
abbrev pub empty_sketch : ℕ → ℕ → Sketch
empty_sketch width height = record { shape = blank width height; number = 0 }

-- the place of the pixel that is read next
abbrev pub column_of : Sketch → ℕ
column_of sketch = sketch.number % sketch.shape.width

abbrev pub row_of : Sketch → ℕ
row_of sketch = sketch.shape.height - 1 - sketch.number / sketch.shape.width

-- how many pixels have still to be read
abbrev pub left_of : Sketch → ℕ
left_of sketch = sketch.shape.width * sketch.shape.height - sketch.number

-- every pixel was read
abbrev pub IsWhole : Sketch → Type 0
IsWhole sketch = sketch.number ≡ sketch.shape.width * sketch.shape.height

-- a pixel hasn't been read
abbrev pub IsUnread : Sketch → Type 0
IsUnread sketch = sketch.number < sketch.shape.width * sketch.shape.height

-- one pixel more was read
abbrev pub with_pixel : Sketch → Bool → Sketch
with_pixel sketch true = record { shape = with_black sketch.shape (column_of sketch) (row_of sketch); number = sketch.number + 1 }
with_pixel sketch false = record { shape = sketch.shape; number = sketch.number + 1 }

-- where the reading of a shape stands
pub record Progress : Type 0 where
  pub sketch : Sketch
  pub states : States
  pub place : Option Interval

abbrev pub progress : Sketch → States → Option Interval → Progress
progress sketch states place = record { sketch = sketch; states = states; place = place }

-- what it answers, and where it stands then
pub record Reading : Type 0 where
  pub answer : ShapeStep
  pub at : Progress

abbrev pub stands : ShapeStep → Progress → Reading
stands answer at = record { answer = answer; at = at }

-- after a decision: a bit is the next pixel, of which 1 is black, and moves its context; without one the reading stands
-- where it stood
abbrev pub after_decision : Decision → Outcome → List Bool → Progress → (Progress → Reading) → Reading
after_decision (decision.Bit bit) outcome colours at rest =
    rest (progress (with_pixel at.sketch bit) (with_state at.states colours outcome.state) outcome.place)
after_decision decision.NeedBytes outcome colours at rest = stands step.NeedBytes at
after_decision decision.Exhausted outcome colours at rest = stands step.Exhausted at

abbrev pub after_outcome : Outcome → List Bool → Progress → (Progress → Reading) → Reading
after_outcome outcome colours at rest = after_decision outcome.answer outcome colours at rest

-- the next pixel is decided in this context
abbrev pub read_pixel : List Row → List ℕ → Bool → List Bool → Progress → (Progress → Reading) → Reading
read_pixel rows payload ended colours at rest =
    after_outcome (outcome_of rows (Adaptive (at.states colours)) payload ended at.place) colours at rest

-- so many pixels are read, as far as the bytes go. The context of a pixel is made of the shape so far and its place
abbrev pub read_pixels : (Pixels → ℤ → ℤ → List Bool) → List Row → List ℕ → Bool → ℕ → Progress → Reading
read_pixels context rows payload ended zero at = stands step.Done at
read_pixels context rows payload ended (suc left) at =
    read_pixel rows payload ended (context at.sketch.shape (pos (column_of at.sketch)) (pos (row_of at.sketch))) at
    (λ next. read_pixels context rows payload ended left next)

abbrev pub reading_of : (Pixels → ℤ → ℤ → List Bool) → List Row → List ℕ → Bool → Progress → Reading
reading_of context rows payload ended at = read_pixels context rows payload ended (left_of at.sketch) at

-- a direct shape is read on, with a state table, after these bytes of the chunk, which are all of it or not
abbrev pub direct_reading : List Row → List ℕ → Bool → Progress → Reading
direct_reading rows payload ended at = reading_of direct_context rows payload ended at
