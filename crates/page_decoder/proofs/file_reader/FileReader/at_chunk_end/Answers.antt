use Rattle.std.proofs.Common.{◌≡◌, sym, ◌∙◌, subst}
use Rattle.page_decoder.specs.declared.file_reader.FileReader.{FileReader}
use Rattle.page_decoder.specs.FileSteps.{HasClosed}
use Rattle.page_decoder.proofs.ChunkEnds.{chunk_comes}
use Rattle.page_decoder.proofs.file_reader.FileReader.at_chunk_end.Goals as goal

pub returns-in-Some-clause-comes : goal.returns-in-Some-clause-comes
returns-in-Some-clause-comes g c given rest taken t =
    let reader : FileReader = c.args.self.now in
    chunk_comes given rest taken reader (record { laid = c.layout.ensures.laid; order = c.order.ensures }) c.bounds.ensures.few_chunks t c.in-Some.chunk
    (sym c.take.ensures.value ∙ c.in-Some.is) c.close.result c.close.new.self
    (subst (λ k. HasClosed c.in-Some.chunk c.close.result (record reader { chunk = k }) c.close.new.self) c.take.ensures.after c.close.ensures.closes)
