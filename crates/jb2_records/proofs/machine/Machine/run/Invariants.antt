use Rattle.jb2_records.specs.Reading.{Input}
use Rattle.jb2_records.specs.Machine.{Fits, IsLater, Holds, measure_of}
use Rattle.jb2_records.proofs.machine.Machine.run.Given as goal

abbrev pub invariant-steps : goal.invariant-steps
invariant-steps l =
    Fits l.at l.self.library l.self.picture × IsLater l.initial.self l.self ×
    ((input : Input) → Holds input l.initial.at l.initial.self → Holds input l.at l.self)

abbrev pub decreases-steps : goal.decreases-steps
decreases-steps l = measure_of l.at l.self.coder
