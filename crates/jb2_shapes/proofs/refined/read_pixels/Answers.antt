use Rattle.std.proofs.Common.{◌*◌, sym, ap, pos, eqb-true}
use Rattle.jb2_shapes.specs.Numbers.{states_of}
use Rattle.jb2_shapes.specs.Refined.{matching_context}
use Rattle.jb2_shapes.specs.Shape.{column_of, row_of}
use Rattle.jb2_shapes.proofs.Going.{keeps_first, keeps_bit, whole_reading, needs_reading, exhausted_reading, decided_by, counts_same, still_unread, fewer_left}
use Rattle.jb2_shapes.proofs.Windowing.{colour_before}
use Rattle.jb2_shapes.proofs.RefinedWindowing.{refined_number, refined_is_number, refined_before}
use Rattle.jb2_shapes.proofs.refined.read_pixels.Goals as goal

pub pixels-init : goal.pixels-init
pixels-init g c = (
  still_unread c.args.canvas.now.number (c.args.canvas.now.shape.width * c.args.canvas.now.shape.height) c.is_whole.ensures.within c.if-is_whole.ensures.is,
  c.around-window.ensures,
  keeps_first (matching_context c.args.matching.now) c.args.zp.now c.args.canvas.now (states_of c.args.contexts.now)
      (g.M.Meter.count c.args.meter.now) c.requires,
)

pub read_pixel-requires-clause-number : goal.read_pixel-requires-clause-number
read_pixel-requires-clause-number g c =
    refined_is_number c.args.matching.now c.pixels.canvas.shape (pos (column_of c.pixels.canvas))
    (pos (row_of c.pixels.canvas)) c.pixels.window c.number.result c.pixels.invariant.1 c.number.ensures

pub returns-in-NeedBytes-clause-reads : goal.returns-in-NeedBytes-clause-reads
returns-in-NeedBytes-clause-reads g c =
    let stays = c.read_pixel.ensures.needs c.in-NeedBytes.is in
    needs_reading (matching_context c.args.matching.now) c.args.zp.now c.args.canvas.now (states_of c.args.contexts.now) (g.M.Meter.count c.args.meter.now)
    c.pixels.zp c.pixels.canvas (states_of c.pixels.contexts) (g.M.Meter.count c.pixels.meter) c.read_pixel.result
    c.read_pixel.new.zp c.read_pixel.new.canvas (states_of c.read_pixel.new.contexts) (g.M.Meter.count c.read_pixel.new.meter)
    c.pixels.invariant.2 c.pixels.invariant.0
    (decided_by (matching_context c.args.matching.now) c.pixels.zp c.pixels.canvas (states_of c.pixels.contexts)
    (g.M.Meter.count c.pixels.meter) c.read_pixel.result
    c.read_pixel.new.zp c.read_pixel.new.canvas (states_of c.read_pixel.new.contexts) (g.M.Meter.count c.read_pixel.new.meter) c.number.result
    (refined_number c.args.matching.now c.pixels.canvas.shape (pos (column_of c.pixels.canvas))
    (pos (row_of c.pixels.canvas)) c.pixels.window c.number.result c.pixels.invariant.1 c.number.ensures)
    c.read_pixel.ensures.answer c.read_pixel.ensures.fed c.read_pixel.ensures.states c.read_pixel.ensures.pixel c.read_pixel.ensures.below
    c.read_pixel.ensures.room c.read_pixel.ensures.table c.read_pixel.ensures.ended c.read_pixel.ensures.ticks)
    c.in-NeedBytes.is stays.0 (ap states_of stays.1) stays.2

pub returns-in-NeedBytes-clause-counts : goal.returns-in-NeedBytes-clause-counts
returns-in-NeedBytes-clause-counts g c =
    let stays = c.read_pixel.ensures.needs c.in-NeedBytes.is in
    counts_same (g.M.Meter.count c.args.meter.now) c.args.canvas.now c.pixels.canvas c.read_pixel.new.canvas (g.M.Meter.count c.pixels.meter)
    (g.M.Meter.count c.read_pixel.new.meter)
    c.pixels.invariant.2.counts stays.0 (ap (λ meter. g.M.Meter.count meter) stays.3)

pub returns-in-Exhausted-clause-reads : goal.returns-in-Exhausted-clause-reads
returns-in-Exhausted-clause-reads g c =
    let stays = c.read_pixel.ensures.exhausted c.in-Exhausted.is in
    exhausted_reading (matching_context c.args.matching.now) c.args.zp.now c.args.canvas.now (states_of c.args.contexts.now) (g.M.Meter.count c.args.meter.now)
    c.pixels.zp c.pixels.canvas (states_of c.pixels.contexts) (g.M.Meter.count c.pixels.meter) c.read_pixel.result
    c.read_pixel.new.zp c.read_pixel.new.canvas (states_of c.read_pixel.new.contexts) (g.M.Meter.count c.read_pixel.new.meter)
    c.pixels.invariant.2 c.pixels.invariant.0
    (decided_by (matching_context c.args.matching.now) c.pixels.zp c.pixels.canvas (states_of c.pixels.contexts)
    (g.M.Meter.count c.pixels.meter) c.read_pixel.result
    c.read_pixel.new.zp c.read_pixel.new.canvas (states_of c.read_pixel.new.contexts) (g.M.Meter.count c.read_pixel.new.meter) c.number.result
    (refined_number c.args.matching.now c.pixels.canvas.shape (pos (column_of c.pixels.canvas))
    (pos (row_of c.pixels.canvas)) c.pixels.window c.number.result c.pixels.invariant.1 c.number.ensures)
    c.read_pixel.ensures.answer c.read_pixel.ensures.fed c.read_pixel.ensures.states c.read_pixel.ensures.pixel c.read_pixel.ensures.below
    c.read_pixel.ensures.room c.read_pixel.ensures.table c.read_pixel.ensures.ended c.read_pixel.ensures.ticks)
    c.in-Exhausted.is stays.0 (ap states_of stays.1) stays.2

pub returns-in-Exhausted-clause-counts : goal.returns-in-Exhausted-clause-counts
returns-in-Exhausted-clause-counts g c =
    let stays = c.read_pixel.ensures.exhausted c.in-Exhausted.is in
    counts_same (g.M.Meter.count c.args.meter.now) c.args.canvas.now c.pixels.canvas c.read_pixel.new.canvas (g.M.Meter.count c.pixels.meter)
    (g.M.Meter.count c.read_pixel.new.meter)
    c.pixels.invariant.2.counts stays.0 (ap (λ meter. g.M.Meter.count meter) stays.3)

pub returns-then-is_whole-2-clause-reads : goal.returns-then-is_whole-2-clause-reads
returns-then-is_whole-2-clause-reads g c =
    let kept =
    keeps_bit (matching_context c.args.matching.now) c.args.zp.now c.args.canvas.now (states_of c.args.contexts.now) (g.M.Meter.count c.args.meter.now)
    c.pixels.zp c.pixels.canvas (states_of c.pixels.contexts) (g.M.Meter.count c.pixels.meter) c.read_pixel.result
    c.read_pixel.new.zp c.read_pixel.new.canvas (states_of c.read_pixel.new.contexts) (g.M.Meter.count c.read_pixel.new.meter) c.in-Bit.black
    c.pixels.invariant.2 c.pixels.invariant.0
    (decided_by (matching_context c.args.matching.now) c.pixels.zp c.pixels.canvas (states_of c.pixels.contexts)
    (g.M.Meter.count c.pixels.meter) c.read_pixel.result
    c.read_pixel.new.zp c.read_pixel.new.canvas (states_of c.read_pixel.new.contexts) (g.M.Meter.count c.read_pixel.new.meter) c.number.result
    (refined_number c.args.matching.now c.pixels.canvas.shape (pos (column_of c.pixels.canvas))
    (pos (row_of c.pixels.canvas)) c.pixels.window c.number.result c.pixels.invariant.1 c.number.ensures)
    c.read_pixel.ensures.answer c.read_pixel.ensures.fed c.read_pixel.ensures.states c.read_pixel.ensures.pixel c.read_pixel.ensures.below
    c.read_pixel.ensures.room c.read_pixel.ensures.table c.read_pixel.ensures.ended c.read_pixel.ensures.ticks)
    c.in-Bit.is in
    whole_reading (matching_context c.args.matching.now) c.args.zp.now c.args.canvas.now (states_of c.args.contexts.now) (g.M.Meter.count c.args.meter.now)
    c.read_pixel.new.zp c.read_pixel.new.canvas (states_of c.read_pixel.new.contexts) (g.M.Meter.count c.read_pixel.new.meter) kept
    (eqb-true c.read_pixel.new.canvas.number (c.read_pixel.new.canvas.shape.width * c.read_pixel.new.canvas.shape.height) (sym c.if-is_whole-2.ensures.is))

pub returns-then-is_whole-2-clause-counts : goal.returns-then-is_whole-2-clause-counts
returns-then-is_whole-2-clause-counts g c =
    let kept =
    keeps_bit (matching_context c.args.matching.now) c.args.zp.now c.args.canvas.now (states_of c.args.contexts.now) (g.M.Meter.count c.args.meter.now)
    c.pixels.zp c.pixels.canvas (states_of c.pixels.contexts) (g.M.Meter.count c.pixels.meter) c.read_pixel.result
    c.read_pixel.new.zp c.read_pixel.new.canvas (states_of c.read_pixel.new.contexts) (g.M.Meter.count c.read_pixel.new.meter) c.in-Bit.black
    c.pixels.invariant.2 c.pixels.invariant.0
    (decided_by (matching_context c.args.matching.now) c.pixels.zp c.pixels.canvas (states_of c.pixels.contexts)
    (g.M.Meter.count c.pixels.meter) c.read_pixel.result
    c.read_pixel.new.zp c.read_pixel.new.canvas (states_of c.read_pixel.new.contexts) (g.M.Meter.count c.read_pixel.new.meter) c.number.result
    (refined_number c.args.matching.now c.pixels.canvas.shape (pos (column_of c.pixels.canvas))
    (pos (row_of c.pixels.canvas)) c.pixels.window c.number.result c.pixels.invariant.1 c.number.ensures)
    c.read_pixel.ensures.answer c.read_pixel.ensures.fed c.read_pixel.ensures.states c.read_pixel.ensures.pixel c.read_pixel.ensures.below
    c.read_pixel.ensures.room c.read_pixel.ensures.table c.read_pixel.ensures.ended c.read_pixel.ensures.ticks)
    c.in-Bit.is in
    kept.counts

pub next-window-requires-clause-window : goal.next-window-requires-clause-window
next-window-requires-clause-window g c more =
    refined_before c.args.matching.now c.pixels.canvas c.read_pixel.new.canvas c.in-Bit.black c.pixels.window
    (c.read_pixel.ensures.pixel c.in-Bit.black c.in-Bit.is)
    c.pixels.invariant.0 c.pixels.invariant.1 more

pub next-window-requires-clause-colour : goal.next-window-requires-clause-colour
next-window-requires-clause-colour g c more =
    colour_before c.pixels.canvas c.read_pixel.new.canvas c.in-Bit.black (c.read_pixel.ensures.pixel c.in-Bit.black c.in-Bit.is)
    c.pixels.invariant.0 (c.read_pixel.ensures.colour c.in-Bit.black c.in-Bit.is) more

pub pixels-smaller : goal.pixels-smaller
pixels-smaller g c =
    fewer_left c.pixels.canvas c.read_pixel.new.canvas c.in-Bit.black c.pixels.invariant.0 (c.read_pixel.ensures.pixel c.in-Bit.black c.in-Bit.is)

pub pixels-preserved : goal.pixels-preserved
pixels-preserved g c =
    let kept =
    keeps_bit (matching_context c.args.matching.now) c.args.zp.now c.args.canvas.now (states_of c.args.contexts.now) (g.M.Meter.count c.args.meter.now)
    c.pixels.zp c.pixels.canvas (states_of c.pixels.contexts) (g.M.Meter.count c.pixels.meter) c.read_pixel.result
    c.read_pixel.new.zp c.read_pixel.new.canvas (states_of c.read_pixel.new.contexts) (g.M.Meter.count c.read_pixel.new.meter) c.in-Bit.black
    c.pixels.invariant.2 c.pixels.invariant.0
    (decided_by (matching_context c.args.matching.now) c.pixels.zp c.pixels.canvas (states_of c.pixels.contexts)
    (g.M.Meter.count c.pixels.meter) c.read_pixel.result
    c.read_pixel.new.zp c.read_pixel.new.canvas (states_of c.read_pixel.new.contexts) (g.M.Meter.count c.read_pixel.new.meter) c.number.result
    (refined_number c.args.matching.now c.pixels.canvas.shape (pos (column_of c.pixels.canvas))
    (pos (row_of c.pixels.canvas)) c.pixels.window c.number.result c.pixels.invariant.1 c.number.ensures)
    c.read_pixel.ensures.answer c.read_pixel.ensures.fed c.read_pixel.ensures.states c.read_pixel.ensures.pixel c.read_pixel.ensures.below
    c.read_pixel.ensures.room c.read_pixel.ensures.table c.read_pixel.ensures.ended c.read_pixel.ensures.ticks)
    c.in-Bit.is in (
      still_unread c.read_pixel.new.canvas.number (c.read_pixel.new.canvas.shape.width * c.read_pixel.new.canvas.shape.height)
          c.is_whole-in-pixels.ensures.within c.if-is_whole-2.ensures.is,
      c.next-window.ensures,
      kept,
    )
