use Rattle.std.proofs.Common.{◌≡◌, ℕ, List, Option, Some, Ok, take}
use Rattle.djvu_base.specs.Library.{Files}
use Rattle.djvu_outside.specs.Puts.{sinks}
use Rattle.viewer_run.specs.Listed.{Lists}
use Rattle.viewer_run.specs.Shown.{BrokenCounts}
use Rattle.viewer_run.proofs.listing.list_pages.Given as goal

-- so many files were listed
abbrev pub invariant-loop-at : goal.invariant-loop-at
invariant-loop-at g l = record {
  listed : (told : Files) (out : Option (List ℕ)) → g.F.Folder.files l.fn.folder ≡ Some told
      → Lists told (take l.at l.pages) (Ok l.all) (g.F.Folder.failures l.fn.folder) (g.F.Folder.failures l.folder)
      (sinks out (g.E.Sink.given l.fn.report)) (sinks out (g.E.Sink.given l.report));
  files : g.F.Folder.files l.folder ≡ g.F.Folder.files l.fn.folder;
  counts : BrokenCounts l.all.broken (g.F.Folder.faults l.fn.folder) (g.F.Folder.faults l.folder);
  report_faults : g.E.Sink.faults l.report ≡ g.E.Sink.faults l.fn.report;
}
