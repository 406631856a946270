use Rattle.djvu_outside.proofs.CallLemmas.{count_from-le}
use Rattle.djvu_outside.proofs.calls.Calls.new.Goals as goal

pub returns-clause-room : goal.returns-clause-room
returns-clause-room c = count_from-le 0 _
