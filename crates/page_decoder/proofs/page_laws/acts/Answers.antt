use Rattle.page_decoder.proofs.Running.{from_acts}
use Rattle.page_decoder.proofs.page_laws.acts.Goals as goal

pub returns : goal.returns
returns c home known close acts others left = from_acts home known close acts others left
