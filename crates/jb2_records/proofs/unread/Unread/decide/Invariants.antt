use Rattle.std.proofs.Common.{◌≡◌, ◌<◌, ◌≤◌, length}
use Rattle.std.specs.Prelude.{Option}
use Rattle.zp_decoder.specs.Decision.{Interval}
use Rattle.zp_decoder.specs.Chunk.{Chunk}
use Rattle.jb2_records.specs.Taking.{room_of, Feeds, Takes}
use Rattle.jb2_records.proofs.unread.Unread.decide.Given as goal

abbrev pub invariant-bytes : goal.invariant-bytes
invariant-bytes l = record {
  takes : (source : Chunk) (place : Option Interval) → Takes source place l.initial.self l.initial.zp → Takes source place l.self l.zp;
  room : room_of l.self l.zp ≤ room_of l.initial.self l.initial.zp;
  feeds : Feeds l.self l.zp;
  state : l.state ≡ l.initial.state;
  count : l.meter ≡ l.initial.meter;
  below : l.state < length l.zp.table;
  table : l.zp.table ≡ l.initial.zp.table;
  ended : l.self.ended ≡ l.initial.self.ended;
}

abbrev pub decreases-bytes : goal.decreases-bytes
decreases-bytes l = length l.self.left
