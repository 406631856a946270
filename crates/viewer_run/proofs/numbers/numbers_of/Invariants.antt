use Rattle.std.proofs.Common.{◌≡◌, take}
use Rattle.viewer_run.specs.Plan.{numbers_of}
use Rattle.viewer_run.proofs.numbers.numbers_of.Given as goal

-- the numbers of so many pages
abbrev pub invariant-loop-page : goal.invariant-loop-page
invariant-loop-page l = l.numbers.items ≡ numbers_of l.names (take l.page-index l.pages)
