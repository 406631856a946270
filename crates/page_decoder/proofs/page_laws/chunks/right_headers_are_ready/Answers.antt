use Rattle.page_decoder.proofs.Numbering.{number_below}
use Rattle.page_decoder.proofs.Preparing.{page_ready}
use Rattle.page_decoder.proofs.page_laws.chunks.right_headers_are_ready.Goals as goal

pub returns : goal.returns
returns c home known acts left now head bytes page through header size =
    page_ready home known (number_below home.names) acts left now head bytes page through header size
