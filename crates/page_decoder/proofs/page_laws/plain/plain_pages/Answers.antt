use Rattle.page_decoder.proofs.PlainFiles.{read_so}
use Rattle.page_decoder.proofs.page_laws.plain.plain_pages.Goals as goal

pub returns : goal.returns
returns c given is page plain =
    read_so (record { laid = c.layout.ensures.laid; order = c.order.ensures })
    (record { ended = c.records_end.ensures.ended; memory = c.records_end.ensures.memory }) given is page plain
