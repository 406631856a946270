use Rattle.zp_decoder.specs.Chunk.{chunk}
use Rattle.jb2_writer.proofs.Listing.{all_read}
use Rattle.jb2_writer.proofs.Deciding.{written_decided}
use Rattle.jb2_writer.specs.Fields.{records_coded}
use Rattle.std.specs.Prelude.{true, []}
use Rattle.jb2_writer.proofs.laws.written_records_are_read.Goals as goal

pub returns : goal.returns
returns c rows payload inherited purpose records table few whole none written =
    let leads = written_decided rows payload (records_coded inherited [] records) written in
    all_read (chunk rows payload true) inherited purpose
    (record {
      reached = c.numbers_are_reached.ensures.reached;
      own = λ number value count bit bounds from to e. c.numbers_are_reached.ensures.implied number value count bit bounds from to e;
    })
    (record { blank_is = c.pixel_laws.ensures.blank; whole = c.pixel_laws.ensures.whole; same = c.pixel_laws.ensures.same })
    few records leads.to
    (λ count more. c.records_end.ensures.count (record { chunk = chunk rows payload true; inherited = inherited; purpose = purpose }) count table more)
    whole none leads.decided
