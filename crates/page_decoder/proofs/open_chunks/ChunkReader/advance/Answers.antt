use Rattle.std.proofs.Common.{subst}
use Rattle.page_decoder.specs.declared.open_chunks.ChunkReader.{ChunkReader}
use Rattle.page_decoder.specs.Opened.{ReadsOn}
use Rattle.page_decoder.proofs.Opening.{HasAdvanced, front_advances}
use Rattle.page_decoder.proofs.open_chunks.ChunkReader.advance.Goals as goal

pub returns-in-Front-clause-advances : goal.returns-in-Front-clause-advances
returns-in-Front-clause-advances g c of table decoded bytes left offset reads some =
    let e = c.advance_layer.ensures in
    let has : HasAdvanced c.advance_layer.result c.in-Front.reader c.advance_layer.new.reader =
    record { answers = e.answers; decisions = e.decisions; at_most = e.at_most } in
    front_advances c.advance_layer.result c.in-Front.reader c.advance_layer.new.reader of table decoded bytes left offset has
    (subst (λ (r : ChunkReader). ReadsOn r of table decoded bytes left) c.in-Front.is reads) some
