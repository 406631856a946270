use Rattle.bit_plane.proofs.PixelLaws.{painted_twice, painted_any_order, painted_nothing, painted_stays}
use Rattle.bit_plane.proofs.laws.paint_laws.Goals as goal

pub returns-clause-twice : goal.returns-clause-twice
returns-clause-twice c = painted_twice

pub returns-clause-any_order : goal.returns-clause-any_order
returns-clause-any_order c = painted_any_order

pub returns-clause-empty_shape : goal.returns-clause-empty_shape
returns-clause-empty_shape c = painted_nothing

pub returns-clause-black_stays : goal.returns-clause-black_stays
returns-clause-black_stays c = painted_stays
