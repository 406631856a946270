use Rattle.std.proofs.Common.{◌≡◌, ◌-◌, min, arith, pos, ◌∙◌, ap}
use Rattle.std.proofs.lemmas.Int.{ints}
use Rattle.bit_plane.proofs.RowRuns.{read_run, right_run}
use Rattle.bit_plane.proofs.planes.Plane.row_within.Goals as goal

pub returns-then-column-width : goal.returns-then-column-width
returns-then-column-width c =
    read_run c.args.self.now c.args.column c.args.row c.min.result c.bits.result (omega arith)
    (c.min.ensures ∙ ap (λ w. min (w - c.args.column) 64) c.width-width.ensures) c.bits.ensures.below c.bits.ensures.digits

pub returns-else-column-width : goal.returns-else-column-width
returns-else-column-width c =
    right_run c.args.self.now (pos c.args.column) (pos c.args.row) 64 (omega (arith, ints)) (λ a p e.
    let same : c.args.column ≡ a = omega (arith, ints, e) in omega arith)
