use Rattle.std.proofs.Common.{◌≡◌}
use Rattle.viewer_run.specs.CoreRun.{unread}
use Rattle.viewer_run.proofs.Needing.{DrawsOn}
use Rattle.viewer_run.proofs.core_run.CoreRun.draw.Given as goal

-- the page was drawn up to where it needs a file
abbrev pub invariant-needs : goal.invariant-needs
invariant-needs g l = record {
  draws : DrawsOn (g.F.Folder.files l.fn.folder) l.page l.fn.self l.self l.lines.items (g.F.Folder.failures l.fn.folder) (g.F.Folder.failures l.folder)
      (g.F.Folder.faults l.fn.folder) (g.F.Folder.faults l.folder) (g.M.Meter.count l.fn.meter) (g.M.Meter.count l.meter);
  files : g.F.Folder.files l.folder ≡ g.F.Folder.files l.fn.folder;
}

-- files that weren't read
abbrev pub decreases-needs : goal.decreases-needs
decreases-needs g l = unread l.self.read.items
