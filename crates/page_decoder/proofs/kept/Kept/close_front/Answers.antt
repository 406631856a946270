use Rattle.std.proofs.Common.{true, sym, ap, ◌∙◌, subst}
use Rattle.iw44_image.specs.Layer.{data_of}
use Rattle.page_decoder.specs.declared.closing.Closed.{Closed}
use Rattle.page_decoder.specs.ChunkData.{Came, front_came}
use Rattle.page_decoder.specs.Opened.{ClosesTo}
use Rattle.page_decoder.proofs.kept.Kept.close_front.Goals as goal

pub returns-clause-closes : goal.returns-clause-closes
returns-clause-closes g c table head decoded bytes keeps reads =
    let it : Came = front_came decoded.layers table (data_of bytes true) decoded in
    subst (λ (r : Closed). ClosesTo r c.args.chunks table head decoded it c.front_came-came.new.self)
    (sym (c.of.ensures ∙ ap (λ d. record { came = c.front_came-came.result; decisions = d }) c.decisions.ensures))
    (c.front_came-came.ensures.closes table head decoded bytes keeps reads)
