use Rattle.std.proofs.Common.{◌-◌, ◌≡◌, ◌+◌, ◌++◌, ◌≤◌, length, take}
use Rattle.iff_chunks.specs.Gathering.{gathered}
use Rattle.iff_chunks.proofs.gathering.Gathered.fill.Given as goal

abbrev pub invariant-loop-now : goal.invariant-loop-now
invariant-loop-now l =
    (gathered l.now ≡ gathered l.fn.self ++ take l.used l.piece) × (l.now.count ≡ l.fn.self.count + l.used) × (l.now.count ≤ l.wanted)
    × (l.used ≤ length l.piece) × (length l.now.bytes ≡ 8)

abbrev pub decreases-loop-now : goal.decreases-loop-now
decreases-loop-now l = l.wanted - l.now.count
