use Rattle.page_decoder.proofs.Finishing.{drawing_there, end_there}
use Rattle.page_decoder.proofs.laws.ends.Goals as goal

pub returns-clause-drawn : goal.returns-clause-drawn
returns-clause-drawn c rows mark bytes = drawing_there c.layout.ensures.laid rows mark bytes

pub returns-clause-known : goal.returns-clause-known
returns-clause-known c rows mark bytes = end_there rows mark bytes
