use Rattle.std.proofs.Common.{◌≡◌, ◌≤◌, ◌-◌, ℕ, length}
use Rattle.std.specs.Prelude.{Option}
use Rattle.djvu_base.specs.Meter.{TicksExactly}
use Rattle.zp_decoder.specs.Chunk.{Chunk}
use Rattle.zp_decoder.specs.States.{AreBelow}
use Rattle.bit_plane.specs.Pixels.{Pixels}
use Rattle.jb2_shapes.specs.Numbers.{states_of}
use Rattle.jb2_shapes.specs.Shape.{Progress}
use Rattle.jb2_records.specs.Taking.{room_of, Feeds, context_of, IsOf, DrawsOn}
use Rattle.jb2_records.proofs.unread.Unread.shape.Given as goal

abbrev pub invariant-bytes : goal.invariant-bytes
invariant-bytes g l = record {
  draws : (source : Chunk) (of : Option Pixels) (width height : ℕ) (start : Progress) →
      IsOf of width height (g.R.ShapeReader.matched l.initial.reader) (g.R.ShapeReader.sketch l.initial.reader) →
      DrawsOn (context_of of width height) source start (g.R.ShapeReader.sketch l.initial.reader) (states_of l.initial.contexts) l.initial.self l.initial.zp →
      DrawsOn (context_of of width height) source start (g.R.ShapeReader.sketch l.reader) (states_of l.contexts) l.self l.zp;
  is_of : (of : Option Pixels) (width height : ℕ) → IsOf of width height (g.R.ShapeReader.matched l.initial.reader) (g.R.ShapeReader.sketch l.initial.reader) →
      IsOf of width height (g.R.ShapeReader.matched l.reader) (g.R.ShapeReader.sketch l.reader);
  matched : g.R.ShapeReader.matched l.reader ≡ g.R.ShapeReader.matched l.initial.reader;
  width : (g.R.ShapeReader.sketch l.reader).shape.width ≡ (g.R.ShapeReader.sketch l.initial.reader).shape.width;
  height : (g.R.ShapeReader.sketch l.reader).shape.height ≡ (g.R.ShapeReader.sketch l.initial.reader).shape.height;
  grows : (g.R.ShapeReader.sketch l.initial.reader).number ≤ (g.R.ShapeReader.sketch l.reader).number;
  ticks : TicksExactly ((g.R.ShapeReader.sketch l.reader).number - (g.R.ShapeReader.sketch l.initial.reader).number) l.initial.meter l.meter;
  room : room_of l.self l.zp ≤ room_of l.initial.self l.initial.zp;
  feeds : Feeds l.self l.zp;
  below : AreBelow (length l.zp.table) (states_of l.contexts);
  table : l.zp.table ≡ l.initial.zp.table;
  ended : l.self.ended ≡ l.initial.self.ended;
}

abbrev pub decreases-bytes : goal.decreases-bytes
decreases-bytes g l = length l.self.left
