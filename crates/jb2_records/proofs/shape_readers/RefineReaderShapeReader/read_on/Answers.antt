use Rattle.std.specs.Prelude.{Some}
use Rattle.jb2_shapes.specs.Numbers.{states_of}
use Rattle.jb2_records.proofs.Sketching.{sketched}
use Rattle.jb2_records.proofs.shape_readers.RefineReaderShapeReader.read_on.Goals as goal

pub returns-clause-advances : goal.returns-clause-advances
returns-clause-advances c matched width height is =
    sketched matched (Some c.args.self.now.matched) width height c.args.zp.now c.advance-step.new.zp c.args.self.now.sketch c.advance-step.new.self.sketch
    (states_of c.args.contexts.now) (states_of c.advance-step.new.contexts) c.advance-step.result is
    (record {
      reads = λ payload place fed. record {
        answer = c.advance-step.ensures.answer payload place fed;
        sketch = c.advance-step.ensures.sketch payload place fed;
        states = c.advance-step.ensures.states payload place fed;
        fed = c.advance-step.ensures.fed payload place fed;
      };
      standing = c.was_fed.ensures.standing;
      table = c.advance-step.ensures.table;
      ended = c.advance-step.ensures.ended;
      done = c.advance-step.ensures.done;
    })
