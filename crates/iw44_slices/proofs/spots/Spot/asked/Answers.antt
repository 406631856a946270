use Rattle.iw44_slices.proofs.Naming.{root_asked, sign_asked, end_next}
use Rattle.iw44_slices.proofs.spots.Spot.asked.Goals as goal

pub returns-in-Root-clause-next : goal.returns-in-Root-clause-next
returns-in-Root-clause-next c slice course left = root_asked slice course c.args.coefficients.now c.args.self.now c.in-Root.is left

pub returns-in-Sign-clause-next : goal.returns-in-Sign-clause-next
returns-in-Sign-clause-next c slice course left = sign_asked slice course c.args.coefficients.now c.args.self.now c.in-Sign.is left

pub returns-in-End-clause-next : goal.returns-in-End-clause-next
returns-in-End-clause-next c slice course left = end_next slice course c.args.coefficients.now c.args.self.now c.in-End.is left
