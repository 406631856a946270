use Rattle.std.proofs.Common.{◌≡◌, ◌+◌, drop}
use Rattle.viewer_run.specs.Plan.{number_of}
use Rattle.viewer_run.proofs.numbers.number_of.Given as goal

-- none of the names so far is the page's
abbrev pub invariant-loop-name : goal.invariant-loop-name
invariant-loop-name l = record {
  at : l.number ≡ l.name-index;
  rest : number_of l.names l.page ≡ l.name-index + number_of (drop l.name-index l.names) l.page;
}
