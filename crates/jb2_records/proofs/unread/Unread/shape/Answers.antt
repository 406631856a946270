use Rattle.std.proofs.Common.{List, length, sym, subst, ◌∙◌, arith}
use Rattle.zp_table.specs.declared.rows.Row.{Row}
use Rattle.zp_decoder.specs.States.{AreBelow}
use Rattle.jb2_shapes.specs.Numbers.{states_of}
use Rattle.jb2_records.specs.Taking.{context_of}
use Rattle.jb2_records.proofs.Sketching.{drawn_end, drawn_need, draws_more, drawn_ticks}
use Rattle.jb2_records.proofs.unread.Unread.shape.Goals as goal

pub returns-then-not-is_unfinished-clause-drawn : goal.returns-then-not-is_unfinished-clause-drawn
returns-then-not-is_unfinished-clause-drawn g c source of width height start is draws =
    drawn_end c.cuts_change_nothing.ensures (context_of of width height) source c.bytes.self c.bytes.zp c.read_on-step.new.zp
    (g.R.ShapeReader.sketch c.bytes.reader) (g.R.ShapeReader.sketch c.read_on-step.new.self) (states_of c.bytes.contexts)
    (states_of c.read_on-step.new.contexts) c.read_on-step.result
    (c.read_on-step.ensures.advances of width height (c.bytes.invariant.is_of of width height is)) start c.bytes.invariant.feeds
    (c.bytes.invariant.draws source of width height start is draws)
    (c.is_unfinished.ensures.others c.if-not-is_unfinished.true)

pub returns-then-not-offer-clause-drawn : goal.returns-then-not-offer-clause-drawn
returns-then-not-offer-clause-drawn g c source of width height start is draws =
    drawn_need c.cuts_change_nothing.ensures (context_of of width height) source c.bytes.self c.bytes.zp c.read_on-step.new.zp
    (g.R.ShapeReader.sketch c.bytes.reader) (g.R.ShapeReader.sketch c.read_on-step.new.self) (states_of c.bytes.contexts)
    (states_of c.read_on-step.new.contexts) c.read_on-step.result
    (c.read_on-step.ensures.advances of width height (c.bytes.invariant.is_of of width height is)) start c.bytes.invariant.feeds
    (c.bytes.invariant.draws source of width height start is draws)
    (c.is_unfinished.ensures.wants c.if-not-is_unfinished.false) c.offer.new.self c.offer.new.zp
    (c.offer.ensures.all c.if-not-offer.true) c.offer.ensures.takes

pub returns-then-not-offer-clause-waits : goal.returns-then-not-offer-clause-waits
returns-then-not-offer-clause-waits g c source of width height start needs is draws =
    draws_more c.cuts_change_nothing.ensures (context_of of width height) source c.bytes.self c.bytes.zp c.read_on-step.new.zp
    (g.R.ShapeReader.sketch c.bytes.reader) (g.R.ShapeReader.sketch c.read_on-step.new.self) (states_of c.bytes.contexts)
    (states_of c.read_on-step.new.contexts) c.read_on-step.result
    (c.read_on-step.ensures.advances of width height (c.bytes.invariant.is_of of width height is)) start c.bytes.invariant.feeds
    (c.bytes.invariant.draws source of width height start is draws)
    needs c.offer.new.self c.offer.new.zp c.offer.ensures.feeds c.offer.ensures.takes

pub bytes-preserved : goal.bytes-preserved
bytes-preserved g c = record {
  draws = λ source of width height start is draws.
      draws_more c.cuts_change_nothing.ensures (context_of of width height) source c.bytes.self c.bytes.zp c.read_on-step.new.zp
      (g.R.ShapeReader.sketch c.bytes.reader) (g.R.ShapeReader.sketch c.read_on-step.new.self) (states_of c.bytes.contexts)
      (states_of c.read_on-step.new.contexts) c.read_on-step.result
      (c.read_on-step.ensures.advances of width height (c.bytes.invariant.is_of of width height is)) start c.bytes.invariant.feeds
      (c.bytes.invariant.draws source of width height start is draws)
      (c.is_unfinished.ensures.wants c.if-not-is_unfinished.false) c.offer.new.self c.offer.new.zp c.offer.ensures.feeds c.offer.ensures.takes;
  is_of = λ of width height is.
      let was = c.bytes.invariant.is_of of width height is in
      record {
        same = c.read_on-step.ensures.matched ∙ was.same;
        columns = c.read_on-step.ensures.width ∙ was.columns;
        rows = c.read_on-step.ensures.height ∙ was.rows;
      };
  matched = c.read_on-step.ensures.matched ∙ c.bytes.invariant.matched;
  width = c.read_on-step.ensures.width ∙ c.bytes.invariant.width;
  height = c.read_on-step.ensures.height ∙ c.bytes.invariant.height;
  grows = omega (arith, c.bytes.invariant.grows, c.read_on-step.ensures.grows);
  ticks = drawn_ticks (g.R.ShapeReader.sketch c.args.reader.now) (g.R.ShapeReader.sketch c.bytes.reader) (g.R.ShapeReader.sketch c.read_on-step.new.self)
      c.args.meter.now c.bytes.meter c.read_on-step.new.meter
      c.bytes.invariant.grows c.read_on-step.ensures.grows c.bytes.invariant.ticks c.read_on-step.ensures.ticks;
  room =
      let before = c.bytes.invariant.room in
      let after = c.read_on-step.ensures.room in
      let same = c.offer.ensures.room in
      omega (arith, before, after, same);
  feeds = c.offer.ensures.feeds;
  below = subst (λ (t : List Row). AreBelow (length t) (states_of c.read_on-step.new.contexts)) (sym c.offer.ensures.table) c.read_on-step.ensures.below;
  table = c.offer.ensures.table ∙ c.read_on-step.ensures.table ∙ c.bytes.invariant.table;
  ended = c.offer.ensures.ended ∙ c.bytes.invariant.ended;
}

pub returns-then-not-is_unfinished-clause-room : goal.returns-then-not-is_unfinished-clause-room
returns-then-not-is_unfinished-clause-room g c =
    let before = c.bytes.invariant.room in
    let after = c.read_on-step.ensures.room in
    omega (arith, before, after)

pub returns-then-not-offer-clause-room : goal.returns-then-not-offer-clause-room
returns-then-not-offer-clause-room g c =
    let before = c.bytes.invariant.room in
    let after = c.read_on-step.ensures.room in
    let same = c.offer.ensures.room in
    omega (arith, before, after, same)
