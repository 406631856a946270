use Rattle.std.proofs.Common.{◌≡◌, Some, refl, sym, subst}
use Rattle.page_decoder.specs.declared.file_reader.ChunkAtHand.{ChunkAtHand}
use Rattle.page_decoder.specs.FileSteps.{TakesData}
use Rattle.page_decoder.proofs.file_reader.FileReader.at_data.Goals as goal

pub returns-in-Ok-clause-chunk : goal.returns-in-Ok-clause-chunk
returns-in-Ok-clause-chunk c e =
    let after : ChunkAtHand = record { head = c.in-Some.chunk.head; opened = c.push.new.self } in
    subst (λ before. TakesData c.args.taken.now before (Some after)) (sym c.in-Some.is) (record {
      head_is = refl;
      same = c.push.ensures.decisions;
      opens = λ table decoded bytes kept o room. c.in-Ok.ensures.opens table c.in-Some.chunk.head decoded bytes kept o room;
    })
