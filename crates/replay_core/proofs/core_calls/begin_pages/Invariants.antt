use Rattle.std.proofs.Common.{◌≡◌, ◌≤◌, ◌-◌, length}
use Rattle.std.specs.Arc.{arc_value}
use Rattle.replay_core.proofs.Beginning.{AreBegun}
use Rattle.replay_core.proofs.core_calls.begin_pages.Given as goal

abbrev pub invariant-pages : goal.invariant-pages
invariant-pages l = record {
  place : l.place ≡ length l.begun.items;
  within : l.place ≤ length l.pages;
  are : AreBegun (arc_value l.table) (arc_value l.names) (length l.fn.files.items) l.pages l.begun.items l.files.items;
}

abbrev pub decreases-pages : goal.decreases-pages
decreases-pages l = length l.pages - l.place
