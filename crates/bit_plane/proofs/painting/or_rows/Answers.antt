use Rattle.bit_plane.proofs.RowSteps.{rows_more}
use Rattle.bit_plane.proofs.painting.or_rows.Goals as goal

pub loop-row-preserved : goal.loop-row-preserved
loop-row-preserved c =
    rows_more c.args.words.now c.loop-row.words c.or_run.new.words c.args.width c.args.other.now c.args.other_width
    c.args.columns.to c.args.columns.from c.args.columns.count c.args.rows.to c.args.rows.from c.loop-row.row
    c.requires.within c.loop-row.invariant c.or_run.ensures.inside c.or_run.ensures.outside
