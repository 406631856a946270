use Rattle.iff_chunks.proofs.Ordering.{events_order}
use Rattle.iff_chunks.proofs.laws.order.Goals as goal

pub returns : goal.returns
returns c bytes = events_order bytes
