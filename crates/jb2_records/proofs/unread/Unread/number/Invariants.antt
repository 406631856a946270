use Rattle.std.proofs.Common.{◌≡◌, ◌≤◌, ℕ, length}
use Rattle.std.specs.Prelude.{Option}
use Rattle.zp_decoder.specs.Decision.{Interval}
use Rattle.zp_decoder.specs.Chunk.{Chunk}
use Rattle.zp_decoder.specs.States.{AreBelow}
use Rattle.jb2_numbers.specs.Kept.{states_of}
use Rattle.jb2_numbers.specs.Contexts.{Name}
use Rattle.jb2_numbers.specs.Number.{Wanted}
use Rattle.jb2_numbers.specs.Reader.{AreBounds, IsUnderway}
use Rattle.jb2_records.specs.Taking.{room_of, Feeds, Pends}
use Rattle.jb2_records.proofs.unread.Unread.number.Given as goal

abbrev pub invariant-bytes : goal.invariant-bytes
invariant-bytes l = record {
  pends : (wanted : Wanted) (source : Chunk) (before : ℕ) (states : Name → ℕ) (place : Option Interval) → AreBounds wanted.low wanted.high →
      Pends wanted source before states place l.initial.reader l.initial.contexts l.initial.self l.initial.zp l.initial.meter →
      Pends wanted source before states place l.reader l.contexts l.self l.zp l.meter;
  underway : (wanted : Wanted) → AreBounds wanted.low wanted.high → IsUnderway wanted l.initial.reader → IsUnderway wanted l.reader;
  more : (wanted : Wanted) → AreBounds wanted.low wanted.high → IsUnderway wanted l.initial.reader → l.initial.meter ≤ l.meter;
  room : (wanted : Wanted) → AreBounds wanted.low wanted.high → IsUnderway wanted l.initial.reader →
      room_of l.self l.zp ≤ room_of l.initial.self l.initial.zp;
  feeds : Feeds l.self l.zp;
  below : AreBelow (length l.zp.table) (states_of l.contexts);
  table : l.zp.table ≡ l.initial.zp.table;
  ended : l.self.ended ≡ l.initial.self.ended;
}

abbrev pub decreases-bytes : goal.decreases-bytes
decreases-bytes l = length l.self.left
