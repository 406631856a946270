-- A reader of a refined shape keeps the shifts of the definition.
use Rattle.std.proofs.Common.{◌≡◌, ℕ, Bool, List, Option, ap, ◌∙◌}
use Rattle.zp_table.specs.declared.rows.Row.{Row}
use Rattle.zp_decoder.specs.Decision.{Interval}
use Rattle.bit_plane.specs.Ink.{ink_box_of}
use Rattle.zp_decoder.specs.States.{States}
use Rattle.jb2_shapes.specs.Shape.{Sketch, progress, reading_of}
use Rattle.jb2_shapes.specs.Refined.{Matching, Refinement, column_shift, row_shift, matching_context, refined_context, refined_reading}

pub refined_is : (m : Matching) (canvas : Sketch) (reader : Refinement) (rows : List Row) (payload : List ℕ) (ended : Bool) (states : States) (place : Option Interval) →
    m.right ≡ column_shift canvas.shape (ink_box_of m.matched) → m.up ≡ row_shift canvas.shape (ink_box_of m.matched) →
    (let here : Refinement = record { matched = m.matched; sketch = canvas } in here ≡ reader) →
    reading_of (matching_context m) rows payload ended (progress canvas states place) ≡ refined_reading reader.matched rows payload ended (progress reader.sketch states place)
refined_is m canvas reader rows payload ended states place right up is =
    ap (λ r. reading_of (refined_context m.matched r m.up) rows payload ended (progress canvas states place)) right
    ∙ ap (λ u. reading_of (refined_context m.matched (column_shift canvas.shape (ink_box_of m.matched)) u) rows payload ended (progress canvas states place)) up
    ∙ ap (λ (r : Refinement). refined_reading r.matched rows payload ended (progress r.sketch states place)) is
