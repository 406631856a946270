use Rattle.djvu_session.proofs.Feeding.{owners_pieces}
use Rattle.djvu_session.proofs.laws.held_is_the_owners.Goals as goal

pub returns : goal.returns
returns c session feeders owner file pass keeps are inside one e own = owners_pieces session feeders owner file pass keeps are inside one e own
