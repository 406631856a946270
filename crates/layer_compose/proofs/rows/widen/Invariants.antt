use Rattle.std.proofs.Common.{◌≡◌, ◌*◌, ◌/◌, min}
use Rattle.layer_compose.specs.Drawing.{picture_sample}
use Rattle.layer_compose.specs.Laying.{Lays, below}
use Rattle.layer_compose.proofs.rows.widen.Given as goal

abbrev pub invariant-loop-column : goal.invariant-loop-column
invariant-loop-column l = record {
  at : l.from ≡ min (l.column * l.by) l.width;
  lays : Lays (below l.from) (λ x channel. picture_sample l.raster (x / l.by) l.row channel) l.initial.out l.out;
}
