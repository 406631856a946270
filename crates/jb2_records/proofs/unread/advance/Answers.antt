use Rattle.jb2_records.proofs.Numbering.{ahead}
use Rattle.jb2_records.proofs.unread.advance.Goals as goal

pub returns-clause-advances : goal.returns-clause-advances
returns-clause-advances c = record {
  answer = c.advance-step.ensures.answer;
  stands = c.advance-step.ensures.stands;
  out_of_memory = c.advance-step.ensures.out_of_memory;
  standing = c.was_fed-2.ensures.standing;
  table = c.advance-step.ensures.table;
  ended = c.advance-step.ensures.ended;
}

pub returns-clause-more : goal.returns-clause-more
returns-clause-more c wanted underway =
    let some = c.was_fed.ensures.some in
    (ahead wanted c.args.reader.now c.advance-step.new.self c.args.contexts.now c.advance-step.new.contexts c.args.zp.now c.advance-step.new.zp
    c.args.meter.now c.advance-step.new.meter c.advance-step.result (returns-clause-advances c) some.0 some.1 some.2
    (c.was_fed.ensures.standing some.0 some.1 some.2) c.requires.table c.requires.below underway).more

pub returns-clause-room : goal.returns-clause-room
returns-clause-room c wanted underway =
    let some = c.was_fed.ensures.some in
    (ahead wanted c.args.reader.now c.advance-step.new.self c.args.contexts.now c.advance-step.new.contexts c.args.zp.now c.advance-step.new.zp
    c.args.meter.now c.advance-step.new.meter c.advance-step.result (returns-clause-advances c) some.0 some.1 some.2
    (c.was_fed.ensures.standing some.0 some.1 some.2) c.requires.table c.requires.below underway).room
