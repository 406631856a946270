use Rattle.std.proofs.Common.{◌+◌, ap, sym, subst, refl, ◌∙◌, arith, w64}
use Rattle.std.proofs.lemmas.Int.{to_z-of_z}
use Rattle.std.proofs.lemmas.List.{with_items_is}
use Rattle.bit_plane.specs.Pixels.{painted}
use Rattle.bit_plane.specs.Packed.{pixels_of, IsPacked}
use Rattle.bit_plane.specs.Spans.{IsSpan, Misses}
use Rattle.bit_plane.proofs.PaintLemmas.{rows_room, painted_apart_columns, painted_apart_rows, painted_is, packed_still}
use Rattle.bit_plane.proofs.PixelLaws.{same_width, same_height, painted_pixels}
use Rattle.bit_plane.proofs.planes.Plane.paint.Goals as goal

pub or_rows-requires-clause-room : goal.or_rows-requires-clause-room
or_rows-requires-clause-room c =
    omega (arith, c.deref_mut.ensures.len, rows_room c.self.inside.columns c.self.inside.rows (c.in-Some-overlap.rows.to + c.in-Some-overlap.rows.count) c.self.inside.words.items c.self.invariant c.in-Some-overlap.ensures.target)

pub or_rows-requires-clause-other_room : goal.or_rows-requires-clause-other_room
or_rows-requires-clause-other_room c =
    omega (arith, c.deref.ensures.len, rows_room c.shape.inside.columns c.shape.inside.rows (c.in-Some-overlap.rows.from + c.in-Some-overlap.rows.count) c.shape.inside.words.items c.shape.invariant c.in-Some-overlap.ensures.source)

pub invariant_of-self : goal.invariant_of-self
invariant_of-self c =
    let columns = subst (λ z. IsSpan z c.shape.inside.columns c.self.inside.columns c.in-Some.columns) (to_z-of_z w64 c.args.left c.ranges.left) c.in-Some.ensures in
    let rows = subst (λ z. IsSpan z c.shape.inside.rows c.self.inside.rows c.in-Some-overlap.rows) (to_z-of_z w64 c.args.bottom c.ranges.bottom) c.in-Some-overlap.ensures in
    let inside = rw (c.deref_mut.ensures.value, c.deref.ensures.value) at c.or_rows.ensures.inside in
    let outside = rw c.deref_mut.ensures.value at c.or_rows.ensures.outside in
    subst (IsPacked c.self.inside.columns c.self.inside.rows) (sym (with_items_is c.self.inside.words c.or_rows.new.words (omega arith)))
    (packed_still c.self.inside.columns c.self.inside.rows c.shape.inside.columns c.shape.inside.rows
    c.self.inside.words.items c.or_rows.new.words c.shape.inside.words.items c.args.left c.args.bottom
    c.in-Some.columns c.in-Some-overlap.rows columns rows inside outside c.self.invariant (omega arith))

pub returns-in_default : goal.returns-in_default
returns-in_default c =
    let misses = subst (λ z. Misses z c.shape.inside.columns c.self.inside.columns) (to_z-of_z w64 c.args.left c.ranges.left) c.in_default.ensures in
    let value =
    sym c.self.view_is
    ∙ painted_apart_columns c.self.inside.columns c.self.inside.rows c.shape.inside.columns c.shape.inside.rows
    c.self.inside.words.items c.self.inside.words.items c.shape.inside.words.items c.args.left c.args.bottom misses (λ i. refl)
    ∙ ap (λ plane. painted plane (pixels_of c.shape.inside.columns c.shape.inside.rows c.shape.inside.words.items) c.args.left c.args.bottom) c.self.view_is
    ∙ ap (λ shape. painted c.args.self.now shape c.args.left c.args.bottom) c.shape.view_is in
    record {
      value = value;
      width = same_width _ (painted c.args.self.now c.args.shape.now c.args.left c.args.bottom) value;
      height = same_height _ (painted c.args.self.now c.args.shape.now c.args.left c.args.bottom) value;
      pixels = painted_pixels c.args.self.now c.args.shape.now _ c.args.left c.args.bottom value;
    }

pub returns-in_default-overlap : goal.returns-in_default-overlap
returns-in_default-overlap c =
    let misses = subst (λ z. Misses z c.shape.inside.rows c.self.inside.rows) (to_z-of_z w64 c.args.bottom c.ranges.bottom) c.in_default-overlap.ensures in
    let value =
    sym c.self.view_is
    ∙ painted_apart_rows c.self.inside.columns c.self.inside.rows c.shape.inside.columns c.shape.inside.rows
    c.self.inside.words.items c.self.inside.words.items c.shape.inside.words.items c.args.left c.args.bottom misses (λ i. refl)
    ∙ ap (λ plane. painted plane (pixels_of c.shape.inside.columns c.shape.inside.rows c.shape.inside.words.items) c.args.left c.args.bottom) c.self.view_is
    ∙ ap (λ shape. painted c.args.self.now shape c.args.left c.args.bottom) c.shape.view_is in
    record {
      value = value;
      width = same_width _ (painted c.args.self.now c.args.shape.now c.args.left c.args.bottom) value;
      height = same_height _ (painted c.args.self.now c.args.shape.now c.args.left c.args.bottom) value;
      pixels = painted_pixels c.args.self.now c.args.shape.now _ c.args.left c.args.bottom value;
    }

pub returns : goal.returns
returns c =
    let columns = subst (λ z. IsSpan z c.shape.inside.columns c.self.inside.columns c.in-Some.columns) (to_z-of_z w64 c.args.left c.ranges.left) c.in-Some.ensures in
    let rows = subst (λ z. IsSpan z c.shape.inside.rows c.self.inside.rows c.in-Some-overlap.rows) (to_z-of_z w64 c.args.bottom c.ranges.bottom) c.in-Some-overlap.ensures in
    let inside = rw (c.deref_mut.ensures.value, c.deref.ensures.value) at c.or_rows.ensures.inside in
    let outside = rw c.deref_mut.ensures.value at c.or_rows.ensures.outside in
    let value =
    ap (pixels_of c.self.inside.columns c.self.inside.rows) (with_items_is c.self.inside.words c.or_rows.new.words (omega arith))
    ∙ painted_is c.self.inside.columns c.self.inside.rows c.shape.inside.columns c.shape.inside.rows
    c.self.inside.words.items c.or_rows.new.words c.shape.inside.words.items c.args.left c.args.bottom
    c.in-Some.columns c.in-Some-overlap.rows columns rows inside outside
    ∙ ap (λ plane. painted plane (pixels_of c.shape.inside.columns c.shape.inside.rows c.shape.inside.words.items) c.args.left c.args.bottom) c.self.view_is
    ∙ ap (λ shape. painted c.args.self.now shape c.args.left c.args.bottom) c.shape.view_is in
    record {
      value = value;
      width = same_width _ (painted c.args.self.now c.args.shape.now c.args.left c.args.bottom) value;
      height = same_height _ (painted c.args.self.now c.args.shape.now c.args.left c.args.bottom) value;
      pixels = painted_pixels c.args.self.now c.args.shape.now _ c.args.left c.args.bottom value;
    }
