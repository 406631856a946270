use Rattle.std.proofs.Common.{◌≡◌, ◌-◌, ◌≤◌, Some, IsSome, take, drop, vec_len}
use Rattle.djvu_base.specs.Library.{Files}
use Rattle.djvu_outside.specs.Reading.{Opened, bytes_in, moved_on}
use Rattle.djvu_outside.proofs.read.read_open.Given as goal

-- the bytes so far are the file's, and it stands behind them
abbrev pub invariant-loop-bytes : goal.invariant-loop-bytes
invariant-loop-bytes g l = record {
  within : vec_len l.bytes ≤ l.limit;
  is_open : IsSome (g.F.Folder.opened l.folder);
  moved : (here : Opened) → g.F.Folder.opened l.fn.folder ≡ Some here → g.F.Folder.opened l.folder ≡ Some (moved_on here (vec_len l.bytes));
  read : (told : Files) (here : Opened) → g.F.Folder.files l.fn.folder ≡ Some told → g.F.Folder.opened l.fn.folder ≡ Some here → l.bytes.items ≡ take (vec_len l.bytes) (drop here.position (bytes_in told here.name));
  failures : (told : Files) (here : Opened) → g.F.Folder.files l.fn.folder ≡ Some told → g.F.Folder.opened l.fn.folder ≡ Some here → g.F.Folder.failures l.folder ≡ g.F.Folder.failures l.fn.folder;
  files : g.F.Folder.files l.folder ≡ g.F.Folder.files l.fn.folder;
  faults : g.F.Folder.faults l.folder ≡ g.F.Folder.faults l.fn.folder;
}

abbrev pub decreases-loop-bytes : goal.decreases-loop-bytes
decreases-loop-bytes g l = l.limit - vec_len l.bytes
