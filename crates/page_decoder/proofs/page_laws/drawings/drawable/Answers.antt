use Rattle.page_decoder.proofs.Numbering.{number_below}
use Rattle.page_decoder.proofs.Limiting.{whole_bytes}
use Rattle.page_decoder.proofs.Drawable.{drawings_drawable}
use Rattle.page_decoder.proofs.page_laws.drawings.drawable.Goals as goal

pub returns : goal.returns
returns c given drawing bytes has =
    drawings_drawable given (number_below given.home.names) (whole_bytes c.layout.ensures.laid c.order.ensures given.bytes bytes) drawing has
