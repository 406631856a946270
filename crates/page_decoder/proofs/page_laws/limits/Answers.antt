use Rattle.page_decoder.proofs.Numbering.{number_below}
use Rattle.page_decoder.proofs.Limiting.{whole_bytes, at_most}
use Rattle.page_decoder.proofs.page_laws.limits.Goals as goal

pub returns : goal.returns
returns c given page bytes =
    at_most given (number_below given.home.names) c.layers_go_on.ensures.last (whole_bytes c.layout.ensures.laid c.order.ensures given.bytes bytes) page
