use Rattle.page_decoder.specs.Kinds.{kind_of}
use Rattle.page_decoder.proofs.Completing.{complete_some}
use Rattle.page_decoder.proofs.page_laws.chunks.complete_chunks_come_to_something.Goals as goal

pub returns : goal.returns
returns c table head bytes decoded is ready =
    complete_some table is (c.records_end.ensures.ended, c.records_end.ensures.memory) c.complete_chunks_are_answered.ensures
    c.layers_go_on.ensures.last (kind_of head.id) bytes head.offset decoded ready
