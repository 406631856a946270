use Rattle.std.proofs.Common.{◌≡◌, Some, None, refl, sym, subst}
use Rattle.page_decoder.specs.declared.file_reader.ChunkAtHand.{ChunkAtHand}
use Rattle.page_decoder.specs.FileSteps.{Advances}
use Rattle.page_decoder.proofs.file_reader.FileReader.advance.Goals as goal

pub returns-in-NeedBytes-clause-advances : goal.returns-in-NeedBytes-clause-advances
returns-in-NeedBytes-clause-advances g c =
    let after : ChunkAtHand = record { head = c.in-Some.chunk.head; opened = c.advance.new.self } in
    subst (λ before. Advances None c.args.self.now.file before (Some after)) (sym c.in-Some.is) (record {
      head_is = refl;
      unfinished = λ table decoded bytes kept o short e. (
        (c.in-NeedBytes.ensures.advances table c.in-Some.chunk.head decoded bytes kept o short).answers,
        c.in-NeedBytes.ensures.opens table c.in-Some.chunk.head decoded bytes kept o refl,
      );
      fails = λ table decoded bytes kept o short stop e no. absurd (cc);
      decisions = λ table decoded bytes kept o short no. (c.in-NeedBytes.ensures.advances table c.in-Some.chunk.head decoded bytes kept o short).all (λ e. cc);
      at_most = λ table decoded bytes kept o short. (c.in-NeedBytes.ensures.advances table c.in-Some.chunk.head decoded bytes kept o short).at_most;
    })
