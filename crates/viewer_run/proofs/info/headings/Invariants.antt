use Rattle.std.proofs.Common.{◌+◌, ◌*◌, length}
use Rattle.iff_chunks.specs.Told.{pending}
use Rattle.viewer_run.specs.Info.{Informs}
use Rattle.viewer_run.proofs.info.headings.Given as goal

abbrev pub invariant-loop-rest : goal.invariant-loop-rest
invariant-loop-rest l = Informs l.fn.file l.rest l.name l.lines.items l.walker

abbrev pub decreases-loop-rest : goal.decreases-loop-rest
decreases-loop-rest l = 2 * length l.rest + pending l.walker
