use Rattle.std.proofs.Common.{ℕ, ◌+◌, ◌*◌, ◌++◌, List, length}
use Rattle.iff_chunks.specs.Told.{pending}
use Rattle.include_graph.specs.Fed.{IsWalking, Reaches}
use Rattle.include_graph.proofs.file_walk.FileWalk.walk.Given as goal

abbrev pub invariant-events : goal.invariant-events
invariant-events l = (bytes : List ℕ) → IsWalking bytes l.piece l.fn.self → Reaches (bytes ++ l.piece) l.rest l.self

abbrev pub decreases-events : goal.decreases-events
decreases-events l = 2 * length l.rest + pending l.self.walker
