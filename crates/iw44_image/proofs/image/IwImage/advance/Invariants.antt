use Rattle.iw44_image.specs.Keeping.{work}
use Rattle.iw44_image.proofs.Looping.{Goes}
use Rattle.iw44_image.proofs.image.IwImage.advance.Given as goal

abbrev pub invariant-steps : goal.invariant-steps
invariant-steps g l = Goes l.initial.self l.self (g.M.Meter.count l.initial.meter) (g.M.Meter.count l.meter)

abbrev pub decreases-steps : goal.decreases-steps
decreases-steps g l = work l.self
