use Rattle.std.proofs.Common.{List, length, sym, subst, ◌∙◌, arith}
use Rattle.zp_table.specs.declared.rows.Row.{Row}
use Rattle.zp_decoder.specs.States.{AreBelow}
use Rattle.jb2_numbers.specs.Kept.{states_of}
use Rattle.jb2_records.proofs.Numbering.{counts_end, counts_need, pends_on, pends_more}
use Rattle.jb2_records.proofs.unread.Unread.number.Goals as goal

pub returns-then-not-is_unknown-clause-counts : goal.returns-then-not-is_unknown-clause-counts
returns-then-not-is_unknown-clause-counts c wanted source before states place some bounds pends =
    counts_end wanted source before states place c.bytes.reader c.advance-step.new.reader c.bytes.contexts c.advance-step.new.contexts
    c.bytes.self c.bytes.zp c.advance-step.new.zp c.bytes.meter c.advance-step.new.meter c.advance-step.result bounds c.advance-step.ensures.advances
    c.bytes.invariant.feeds (c.bytes.invariant.pends wanted source before states place bounds pends) some
    (c.is_unknown.ensures.others c.if-not-is_unknown.true)

pub returns-then-not-is_unknown-clause-pends : goal.returns-then-not-is_unknown-clause-pends
returns-then-not-is_unknown-clause-pends c wanted source before states place bounds pends =
    pends_on wanted source before states place c.bytes.reader c.advance-step.new.reader c.bytes.contexts c.advance-step.new.contexts
    c.bytes.self c.bytes.zp c.advance-step.new.zp c.bytes.meter c.advance-step.new.meter c.advance-step.result bounds c.advance-step.ensures.advances
    c.bytes.invariant.feeds (c.bytes.invariant.pends wanted source before states place bounds pends)

pub returns-then-not-offer-clause-counts : goal.returns-then-not-offer-clause-counts
returns-then-not-offer-clause-counts c wanted source before states place some bounds pends =
    counts_need wanted source before states place c.bytes.reader c.advance-step.new.reader c.bytes.contexts c.advance-step.new.contexts
    c.bytes.self c.bytes.zp c.advance-step.new.zp c.bytes.meter c.advance-step.new.meter c.advance-step.result bounds c.advance-step.ensures.advances
    c.bytes.invariant.feeds (c.bytes.invariant.pends wanted source before states place bounds pends) some
    (c.is_unknown.ensures.wants c.if-not-is_unknown.false)
    c.offer.new.self c.offer.new.zp (c.offer.ensures.all c.if-not-offer.true) c.offer.ensures.takes

pub returns-then-not-offer-clause-pends : goal.returns-then-not-offer-clause-pends
returns-then-not-offer-clause-pends c wanted source before states place bounds pends =
    pends_more wanted source before states place c.bytes.reader c.advance-step.new.reader c.bytes.contexts c.advance-step.new.contexts
    c.bytes.self c.bytes.zp c.advance-step.new.zp c.bytes.meter c.advance-step.new.meter c.advance-step.result bounds c.advance-step.ensures.advances
    c.bytes.invariant.feeds (c.bytes.invariant.pends wanted source before states place bounds pends)
    c.offer.new.self c.offer.new.zp c.offer.ensures.feeds c.offer.ensures.takes

pub bytes-preserved : goal.bytes-preserved
bytes-preserved c = record {
  pends = λ wanted source before states place bounds pends.
      pends_more wanted source before states place c.bytes.reader c.advance-step.new.reader c.bytes.contexts c.advance-step.new.contexts
      c.bytes.self c.bytes.zp c.advance-step.new.zp c.bytes.meter c.advance-step.new.meter c.advance-step.result bounds c.advance-step.ensures.advances
      c.bytes.invariant.feeds (c.bytes.invariant.pends wanted source before states place bounds pends)
      c.offer.new.self c.offer.new.zp c.offer.ensures.feeds c.offer.ensures.takes;
  underway = λ wanted bounds underway. (c.advance-step.ensures.within wanted bounds (c.bytes.invariant.underway wanted bounds underway)).goes;
  more = λ wanted bounds underway.
      let before = c.bytes.invariant.more wanted bounds underway in
      let after = c.advance-step.ensures.more wanted (c.bytes.invariant.underway wanted bounds underway) in
      omega (arith, before, after);
  room = λ wanted bounds underway.
      let before = c.bytes.invariant.room wanted bounds underway in
      let after = c.advance-step.ensures.room wanted (c.bytes.invariant.underway wanted bounds underway) in
      let same = c.offer.ensures.room in
      omega (arith, before, after, same);
  feeds = c.offer.ensures.feeds;
  below = subst (λ (t : List Row). AreBelow (length t) (states_of c.advance-step.new.contexts)) (sym c.offer.ensures.table) c.advance-step.ensures.below;
  table = c.offer.ensures.table ∙ c.advance-step.ensures.table ∙ c.bytes.invariant.table;
  ended = c.offer.ensures.ended ∙ c.bytes.invariant.ended;
}

pub returns-then-not-is_unknown-clause-more : goal.returns-then-not-is_unknown-clause-more
returns-then-not-is_unknown-clause-more c wanted bounds underway =
    let before = c.bytes.invariant.more wanted bounds underway in
    let after = c.advance-step.ensures.more wanted (c.bytes.invariant.underway wanted bounds underway) in
    omega (arith, before, after)

pub returns-then-not-offer-clause-more : goal.returns-then-not-offer-clause-more
returns-then-not-offer-clause-more c wanted bounds underway =
    let before = c.bytes.invariant.more wanted bounds underway in
    let after = c.advance-step.ensures.more wanted (c.bytes.invariant.underway wanted bounds underway) in
    omega (arith, before, after)

pub returns-then-not-is_unknown-clause-room : goal.returns-then-not-is_unknown-clause-room
returns-then-not-is_unknown-clause-room c wanted bounds underway =
    let before = c.bytes.invariant.room wanted bounds underway in
    let after = c.advance-step.ensures.room wanted (c.bytes.invariant.underway wanted bounds underway) in
    omega (arith, before, after)

pub returns-then-not-offer-clause-room : goal.returns-then-not-offer-clause-room
returns-then-not-offer-clause-room c wanted bounds underway =
    let before = c.bytes.invariant.room wanted bounds underway in
    let after = c.advance-step.ensures.room wanted (c.bytes.invariant.underway wanted bounds underway) in
    let same = c.offer.ensures.room in
    omega (arith, before, after, same)
