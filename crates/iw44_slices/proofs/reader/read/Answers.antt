use Rattle.zp_decoder.specs.declared.decoder.Decision.TheVariants as decision
use Rattle.iw44_slices.proofs.Advancing.{keeps_first, keeps_sought, keeps_bit, ends_slice, ends_needs, ends_exhausted, next_somewhere, same_somewhere}
use Rattle.iw44_slices.proofs.Advancing.{asked_known, reader_of, leaves_some, leaves_small, Decided}
use Rattle.iw44_slices.proofs.reader.read.Goals as goal

pub decisions-init : goal.decisions-init
decisions-init g c = keeps_first c.args.coefficients.now (reader_of c.args.contexts.now c.args.spot.now) c.args.zp.now (g.M.Meter.count c.args.meter.now)
    c.requires.somewhere c.requires.below

pub seek-requires : goal.seek-requires
seek-requires g c = leaves_some c.decisions.coefficients c.decisions.contexts c.decisions.spot c.decisions.invariant.somewhere

pub asked-requires-clause-left : goal.asked-requires-clause-left
asked-requires-clause-left g c =
    let sought = keeps_sought c.args.coefficients.now (reader_of c.args.contexts.now c.args.spot.now) c.args.zp.now (g.M.Meter.count c.args.meter.now)
    c.decisions.coefficients c.decisions.contexts c.decisions.spot c.seek.new.self c.decisions.zp (g.M.Meter.count c.decisions.meter) c.decisions.invariant
    c.seek.ensures.left in
    leaves_some c.decisions.coefficients c.decisions.contexts c.seek.new.self sought.somewhere

pub returns-in_default-clause-ends : goal.returns-in_default-clause-ends
returns-in_default-clause-ends g c =
    let sought = keeps_sought c.args.coefficients.now (reader_of c.args.contexts.now c.args.spot.now) c.args.zp.now (g.M.Meter.count c.args.meter.now)
    c.decisions.coefficients c.decisions.contexts c.decisions.spot c.seek.new.self c.decisions.zp (g.M.Meter.count c.decisions.meter) c.decisions.invariant
    c.seek.ensures.left in
    ends_slice c.args.coefficients.now (reader_of c.args.contexts.now c.args.spot.now) c.args.zp.now (g.M.Meter.count c.args.meter.now)
    c.decisions.coefficients c.decisions.contexts c.seek.new.self c.next_slice.new.self c.decisions.zp (g.M.Meter.count c.decisions.meter) sought
    c.in_default.ensures.next
    (λ s course left. c.next_slice.ensures s course c.decisions.coefficients left)

pub returns-in_default-clause-somewhere : goal.returns-in_default-clause-somewhere
returns-in_default-clause-somewhere g c =
    let sought = keeps_sought c.args.coefficients.now (reader_of c.args.contexts.now c.args.spot.now) c.args.zp.now (g.M.Meter.count c.args.meter.now)
    c.decisions.coefficients c.decisions.contexts c.decisions.spot c.seek.new.self c.decisions.zp (g.M.Meter.count c.decisions.meter) c.decisions.invariant
    c.seek.ensures.left in
    next_somewhere c.decisions.coefficients c.decisions.contexts c.seek.new.self c.next_slice.new.self sought.somewhere c.in_default.ensures.next
    (λ s course left. c.next_slice.ensures s course c.decisions.coefficients left)

pub decide-requires-clause-known : goal.decide-requires-clause-known
decide-requires-clause-known g c =
    let sought = keeps_sought c.args.coefficients.now (reader_of c.args.contexts.now c.args.spot.now) c.args.zp.now (g.M.Meter.count c.args.meter.now)
    c.decisions.coefficients c.decisions.contexts c.decisions.spot c.seek.new.self c.decisions.zp (g.M.Meter.count c.decisions.meter) c.decisions.invariant
    c.seek.ensures.left in
    asked_known c.decisions.coefficients c.decisions.contexts c.seek.new.self c.in-Some.question sought.somewhere c.in-Some.ensures.next

pub take-requires-clause-left : goal.take-requires-clause-left
take-requires-clause-left g c =
    let sought = keeps_sought c.args.coefficients.now (reader_of c.args.contexts.now c.args.spot.now) c.args.zp.now (g.M.Meter.count c.args.meter.now)
    c.decisions.coefficients c.decisions.contexts c.decisions.spot c.seek.new.self c.decisions.zp (g.M.Meter.count c.decisions.meter) c.decisions.invariant
    c.seek.ensures.left in
    leaves_small c.decisions.coefficients c.decisions.contexts c.seek.new.self sought.somewhere

pub decisions-preserved : goal.decisions-preserved
decisions-preserved g c =
    let sought = keeps_sought c.args.coefficients.now (reader_of c.args.contexts.now c.args.spot.now) c.args.zp.now (g.M.Meter.count c.args.meter.now)
    c.decisions.coefficients c.decisions.contexts c.decisions.spot c.seek.new.self c.decisions.zp (g.M.Meter.count c.decisions.meter) c.decisions.invariant
    c.seek.ensures.left in
    let decided : Decided c.in-Some.question c.decisions.contexts c.decisions.zp (g.M.Meter.count c.decisions.meter) (decision.Bit c.in-Bit.bit)
    c.decide.new.self c.decide.new.zp (g.M.Meter.count c.decide.new.meter) =
    record {
      answers = c.in-Bit.ensures.answer;
      fed = c.in-Bit.ensures.fed;
      states = c.in-Bit.ensures.states;
      below = c.in-Bit.ensures.below;
      table = c.in-Bit.ensures.table;
      ended = c.in-Bit.ensures.ended;
      ticks = c.in-Bit.ensures.ticks;
    } in
    keeps_bit c.args.coefficients.now (reader_of c.args.contexts.now c.args.spot.now) c.args.zp.now (g.M.Meter.count c.args.meter.now)
    c.decisions.coefficients c.take.new.coefficients c.decisions.contexts c.decide.new.self c.seek.new.self c.take.new.self c.decisions.zp c.decide.new.zp
    (g.M.Meter.count c.decisions.meter) (g.M.Meter.count c.decide.new.meter) c.in-Some.question c.in-Bit.bit sought c.in-Some.ensures.next decided
    c.take.ensures.left
    (c.decide.ensures.fewer c.in-Bit.bit c.in-Bit.is) c.take.ensures.width c.take.ensures.height

pub returns-in-NeedBytes-clause-ends : goal.returns-in-NeedBytes-clause-ends
returns-in-NeedBytes-clause-ends g c =
    let sought = keeps_sought c.args.coefficients.now (reader_of c.args.contexts.now c.args.spot.now) c.args.zp.now (g.M.Meter.count c.args.meter.now)
    c.decisions.coefficients c.decisions.contexts c.decisions.spot c.seek.new.self c.decisions.zp (g.M.Meter.count c.decisions.meter) c.decisions.invariant
    c.seek.ensures.left in
    let decided : Decided c.in-Some.question c.decisions.contexts c.decisions.zp (g.M.Meter.count c.decisions.meter) decision.NeedBytes c.decide.new.self
    c.decide.new.zp (g.M.Meter.count c.decide.new.meter) =
    record {
      answers = c.in-NeedBytes.ensures.answer;
      fed = c.in-NeedBytes.ensures.fed;
      states = c.in-NeedBytes.ensures.states;
      below = c.in-NeedBytes.ensures.below;
      table = c.in-NeedBytes.ensures.table;
      ended = c.in-NeedBytes.ensures.ended;
      ticks = c.in-NeedBytes.ensures.ticks;
    } in
    let stays = c.decide.ensures.needs c.in-NeedBytes.is in
    ends_needs c.args.coefficients.now (reader_of c.args.contexts.now c.args.spot.now) c.args.zp.now (g.M.Meter.count c.args.meter.now)
    c.decisions.coefficients c.decisions.contexts c.decide.new.self c.seek.new.self c.decisions.zp c.decide.new.zp
    (g.M.Meter.count c.decisions.meter) (g.M.Meter.count c.decide.new.meter) c.in-Some.question sought c.in-Some.ensures.next decided stays.0 stays.1

pub returns-in-NeedBytes-clause-somewhere : goal.returns-in-NeedBytes-clause-somewhere
returns-in-NeedBytes-clause-somewhere g c =
    let sought = keeps_sought c.args.coefficients.now (reader_of c.args.contexts.now c.args.spot.now) c.args.zp.now (g.M.Meter.count c.args.meter.now)
    c.decisions.coefficients c.decisions.contexts c.decisions.spot c.seek.new.self c.decisions.zp (g.M.Meter.count c.decisions.meter) c.decisions.invariant
    c.seek.ensures.left in
    let stays = c.decide.ensures.needs c.in-NeedBytes.is in
    same_somewhere c.decisions.coefficients c.decisions.contexts c.decide.new.self c.seek.new.self stays.0 sought.somewhere

pub returns-in-Exhausted-clause-ends : goal.returns-in-Exhausted-clause-ends
returns-in-Exhausted-clause-ends g c =
    let sought = keeps_sought c.args.coefficients.now (reader_of c.args.contexts.now c.args.spot.now) c.args.zp.now (g.M.Meter.count c.args.meter.now)
    c.decisions.coefficients c.decisions.contexts c.decisions.spot c.seek.new.self c.decisions.zp (g.M.Meter.count c.decisions.meter) c.decisions.invariant
    c.seek.ensures.left in
    let decided : Decided c.in-Some.question c.decisions.contexts c.decisions.zp (g.M.Meter.count c.decisions.meter) decision.Exhausted c.decide.new.self
    c.decide.new.zp (g.M.Meter.count c.decide.new.meter) =
    record {
      answers = c.in-Exhausted.ensures.answer;
      fed = c.in-Exhausted.ensures.fed;
      states = c.in-Exhausted.ensures.states;
      below = c.in-Exhausted.ensures.below;
      table = c.in-Exhausted.ensures.table;
      ended = c.in-Exhausted.ensures.ended;
      ticks = c.in-Exhausted.ensures.ticks;
    } in
    let stays = c.decide.ensures.exhausted c.in-Exhausted.is in
    ends_exhausted c.args.coefficients.now (reader_of c.args.contexts.now c.args.spot.now) c.args.zp.now (g.M.Meter.count c.args.meter.now)
    c.decisions.coefficients c.decisions.contexts c.decide.new.self c.seek.new.self c.decisions.zp c.decide.new.zp
    (g.M.Meter.count c.decisions.meter) (g.M.Meter.count c.decide.new.meter) c.in-Some.question sought c.in-Some.ensures.next decided stays.0 stays.1

pub returns-in-Exhausted-clause-somewhere : goal.returns-in-Exhausted-clause-somewhere
returns-in-Exhausted-clause-somewhere g c =
    let sought = keeps_sought c.args.coefficients.now (reader_of c.args.contexts.now c.args.spot.now) c.args.zp.now (g.M.Meter.count c.args.meter.now)
    c.decisions.coefficients c.decisions.contexts c.decisions.spot c.seek.new.self c.decisions.zp (g.M.Meter.count c.decisions.meter) c.decisions.invariant
    c.seek.ensures.left in
    let stays = c.decide.ensures.exhausted c.in-Exhausted.is in
    same_somewhere c.decisions.coefficients c.decisions.contexts c.decide.new.self c.seek.new.self stays.0 sought.somewhere
