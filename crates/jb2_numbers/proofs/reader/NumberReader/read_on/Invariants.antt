use Rattle.std.proofs.Common.{◌≡◌, ◌≤◌, ◌-◌, ℕ, false, length}
use Rattle.zp_decoder.specs.Chunk.{Chunk}
use Rattle.zp_decoder.specs.States.{AreBelow}
use Rattle.jb2_numbers.specs.Contexts.{name}
use Rattle.jb2_numbers.specs.Kept.{IsCell, states_of}
use Rattle.jb2_numbers.specs.Number.{Wanted, Reading, steps}
use Rattle.jb2_numbers.specs.Phases.{is_known}
use Rattle.jb2_numbers.specs.Reader.{Stands, IsUnderway}
use Rattle.jb2_numbers.proofs.reader.NumberReader.read_on.Given as goal

abbrev pub invariant-decisions : goal.invariant-decisions
invariant-decisions g l = record {
  stands : (wanted : Wanted) (chunk : Chunk) (before : ℕ) (reading : Reading) →
      Stands wanted chunk before reading l.initial.self l.initial.contexts l.initial.zp (g.M.Meter.count l.initial.meter) →
      Stands wanted chunk before (steps (length l.self.decisions - length l.initial.self.decisions) wanted chunk reading) l.self l.contexts l.zp
      (g.M.Meter.count l.meter);
  more : length l.initial.self.decisions ≤ length l.self.decisions;
  unknown : is_known l.self.phase ≡ false;
  cell : IsCell l.contexts (name l.self.root l.self.decisions) l.at;
  underway : (wanted : Wanted) → IsUnderway wanted l.initial.self → IsUnderway wanted l.self;
  below : AreBelow (length l.zp.table) (states_of l.contexts);
  table : l.zp.table ≡ l.initial.zp.table;
  ended : l.zp.ended ≡ l.initial.zp.ended;
}

abbrev pub decreases-decisions : goal.decreases-decisions
decreases-decisions g l = 36 - length l.self.decisions
