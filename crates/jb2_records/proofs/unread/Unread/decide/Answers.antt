use Rattle.std.proofs.Common.{◌<◌, ◌≤◌, ℕ, List, length, sym, ap, subst, ◌∙◌, arith}
use Rattle.zp_table.specs.declared.rows.Row.{Row}
use Rattle.zp_decoder.specs.Decision.{counted}
use Rattle.zp_decoder.specs.Decoder.{Decoder}
use Rattle.jb2_records.specs.Taking.{room_of, Takes, Decides}
use Rattle.jb2_records.proofs.Offering.{Decodes, decided_end, decided_need, decoded_room, takes_more}
use Rattle.jb2_records.proofs.unread.Unread.decide.Goals as goal

pub returns-then-not-is_undetermined-clause-decides : goal.returns-then-not-is_undetermined-clause-decides
returns-then-not-is_undetermined-clause-decides c source place takes =
    let on : Decodes c.bytes.zp c.decode-decision.new.self c.bytes.state c.decode-decision.new.ctx c.decode-decision.result = record {
      answer = c.decode-decision.ensures.answer;
      fed = c.decode-decision.ensures.fed;
      context = c.decode-decision.ensures.context;
      standing = c.was_fed.ensures.standing;
      table = c.decode-decision.ensures.table;
    } in
    subst (λ (s : ℕ). Decides source place s c.args.meter.now c.decode-decision.result c.decode-decision.new.ctx c.bytes.self c.decode-decision.new.self
    c.decode-decision.new.meter) c.bytes.invariant.state
    (decided_end source place c.bytes.self c.bytes.zp c.decode-decision.new.self c.bytes.state c.decode-decision.new.ctx c.args.meter.now
    c.decode-decision.new.meter c.decode-decision.result on c.bytes.invariant.feeds c.bytes.invariant.below (c.bytes.invariant.takes source place takes)
    (c.decode-decision.ensures.ticks ∙ ap (counted c.decode-decision.result) c.bytes.invariant.count)
    (c.is_undetermined.ensures.others c.if-not-is_undetermined.true))

pub returns-then-not-offer-clause-decides : goal.returns-then-not-offer-clause-decides
returns-then-not-offer-clause-decides c source place takes =
    let on : Decodes c.bytes.zp c.decode-decision.new.self c.bytes.state c.decode-decision.new.ctx c.decode-decision.result = record {
      answer = c.decode-decision.ensures.answer;
      fed = c.decode-decision.ensures.fed;
      context = c.decode-decision.ensures.context;
      standing = c.was_fed.ensures.standing;
      table = c.decode-decision.ensures.table;
    } in
    let needs = c.is_undetermined.ensures.wants c.if-not-is_undetermined.false in
    subst (λ (s : ℕ). Decides source place s c.args.meter.now c.decode-decision.result c.decode-decision.new.ctx c.offer.new.self c.offer.new.zp
    c.decode-decision.new.meter) c.bytes.invariant.state
    (decided_need source place c.bytes.self c.bytes.zp c.decode-decision.new.self c.bytes.state c.decode-decision.new.ctx c.args.meter.now
    c.decode-decision.new.meter c.decode-decision.result on c.bytes.invariant.feeds c.bytes.invariant.below (c.bytes.invariant.takes source place takes)
    (c.decode-decision.ensures.ticks ∙ ap (counted c.decode-decision.result) c.bytes.invariant.count) needs (c.decode-decision.ensures.needs needs).0
    c.offer.new.self c.offer.new.zp (c.offer.ensures.all c.if-not-offer.true) c.offer.ensures.takes)

pub bytes-preserved : goal.bytes-preserved
bytes-preserved c =
    let needs = c.is_undetermined.ensures.wants c.if-not-is_undetermined.false in
    let stays = c.decode-decision.ensures.needs needs in
    record {
      takes = λ source place takes. takes_more source place c.bytes.self c.offer.new.self c.decode-decision.new.self c.offer.new.zp c.offer.ensures.takes
          (subst (λ (z : Decoder). Takes source place c.bytes.self z) (sym stays.0) (c.bytes.invariant.takes source place takes));
      room =
          let before = c.bytes.invariant.room in
          let same = c.offer.ensures.room ∙ ap (λ (z : Decoder). room_of c.bytes.self z) stays.0 in
          subst (λ (n : ℕ). n ≤ room_of c.args.self.now c.args.zp.now) (sym same) before;
      feeds = c.offer.ensures.feeds;
      state = stays.1 ∙ c.bytes.invariant.state;
      count = stays.2 ∙ c.bytes.invariant.count;
      below = subst (λ (t : List Row). c.decode-decision.new.ctx < length t) (sym c.offer.ensures.table) c.decode-decision.ensures.below;
      table = c.offer.ensures.table ∙ c.decode-decision.ensures.table ∙ c.bytes.invariant.table;
      ended = c.offer.ensures.ended ∙ c.bytes.invariant.ended;
    }

pub returns-then-not-is_undetermined-clause-room : goal.returns-then-not-is_undetermined-clause-room
returns-then-not-is_undetermined-clause-room c =
    let before = c.bytes.invariant.room in
    let after = decoded_room c.bytes.zp c.decode-decision.new.self c.decode-decision.result c.decode-decision.ensures.fewer
    (λ e. (c.decode-decision.ensures.needs e).0) (λ e. (c.decode-decision.ensures.exhausted e).0) in
    omega (arith, before, after)

pub returns-then-not-offer-clause-room : goal.returns-then-not-offer-clause-room
returns-then-not-offer-clause-room c =
    let before = c.bytes.invariant.room in
    let after = decoded_room c.bytes.zp c.decode-decision.new.self c.decode-decision.result c.decode-decision.ensures.fewer
    (λ e. (c.decode-decision.ensures.needs e).0) (λ e. (c.decode-decision.ensures.exhausted e).0) in
    let same = c.offer.ensures.room in
    omega (arith, before, after, same)
