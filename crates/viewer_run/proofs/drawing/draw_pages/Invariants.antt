use Rattle.std.proofs.Common.{◌≡◌}
use Rattle.viewer_run.specs.Ended.{around}
use Rattle.viewer_run.specs.Plan.{numbers_of}
use Rattle.viewer_run.specs.Shown.{BrokenCounts}
use Rattle.viewer_run.proofs.AllPages.{DrewSo}
use Rattle.viewer_run.proofs.drawing.draw_pages.Given as goal

-- so many pages were drawn
abbrev pub invariant-loop-at : goal.invariant-loop-at
invariant-loop-at g l = record {
  drew : DrewSo (g.F.Folder.files l.fn.folder) l.table l.fn.names (numbers_of l.fn.names l.pages) l.at l.run l.refused
      (around (g.F.Folder.failures l.fn.folder) (g.S.Sink.given l.fn.out) (g.E.Sink.given l.fn.report) (g.M.Meter.count l.fn.meter))
      (around (g.F.Folder.failures l.folder) (g.S.Sink.given l.out) (g.E.Sink.given l.report) (g.M.Meter.count l.meter));
  files : g.F.Folder.files l.folder ≡ g.F.Folder.files l.fn.folder;
  counts : BrokenCounts l.run.broken (g.F.Folder.faults l.fn.folder) (g.F.Folder.faults l.folder);
  out_faults : g.S.Sink.faults l.out ≡ g.S.Sink.faults l.fn.out;
  report_faults : g.E.Sink.faults l.report ≡ g.E.Sink.faults l.fn.report;
}
