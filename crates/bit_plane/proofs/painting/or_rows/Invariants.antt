use Rattle.bit_plane.proofs.RowSteps.{RowsRan}
use Rattle.bit_plane.proofs.painting.or_rows.Given as goal

abbrev pub invariant-loop-row : goal.invariant-loop-row
invariant-loop-row l = RowsRan l.initial.words l.words l.width l.other l.other_width l.columns.to l.columns.from l.columns.count l.rows.to l.rows.from l.row
