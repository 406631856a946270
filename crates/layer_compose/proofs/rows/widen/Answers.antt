use Rattle.layer_compose.specs.Drawing.{picture_sample}
use Rattle.layer_compose.proofs.Laying.{widened_more, next_start}
use Rattle.layer_compose.proofs.rows.widen.Goals as goal

pub loop-column-preserved : goal.loop-column-preserved
loop-column-preserved c =
    let l = c.loop-column in
    record {
      at = next_start c.args.by c.args.width l.column l.from c.min-to.result l.invariant.at c.min-to.ensures;
      lays =
          widened_more c.of-colour.result (λ x channel. picture_sample c.args.raster.now x c.args.row channel) c.args.by c.args.width l.column l.from c.min-to.result
          c.args.out.now l.out c.lay_run.new.out c.requires.by l.invariant.at c.min-to.ensures c.of-colour.ensures l.invariant.lays c.lay_run.ensures;
    }
