use Rattle.iw44_image.proofs.Growing.{open_grows}
use Rattle.iw44_image.proofs.laws.headers_stay.Goals as goal

pub returns : goal.returns
returns c = open_grows
