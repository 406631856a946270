use Rattle.std.proofs.Common.{ap, subst}
use Rattle.std.specs.Prelude.{IsTrue}
use Rattle.jb2_numbers.specs.Kept.{side_in, phase_in}
use Rattle.jb2_numbers.specs.Phases.{Phase, Doubling, Halving}
use Rattle.jb2_numbers.specs.Steps.{is_sound}
use Rattle.jb2_numbers.proofs.Sound.{doubling_some, doubling_below, next_sound_at}
use Rattle.jb2_numbers.proofs.phases.Phase.next.Goals as goal

pub doubled-requires-clause-some : goal.doubled-requires-clause-some
doubled-requires-clause-some c =
    doubling_some c.args.count (side_in c.in-Doubling.side) c.in-Doubling.cutoff
    (subst (λ (phase : Phase). IsTrue (is_sound c.args.count phase)) (ap phase_in c.in-Doubling.is) c.requires.sound)

pub doubled-requires-clause-below : goal.doubled-requires-clause-below
doubled-requires-clause-below c =
    doubling_below c.args.count (side_in c.in-Doubling.side) c.in-Doubling.cutoff
    (subst (λ (phase : Phase). IsTrue (is_sound c.args.count phase)) (ap phase_in c.in-Doubling.is) c.requires.sound)

pub returns-in-Doubling-clause-sound : goal.returns-in-Doubling-clause-sound
returns-in-Doubling-clause-sound c =
    next_sound_at c.args.count (phase_in c.args.self) (Doubling (side_in c.in-Doubling.side) c.in-Doubling.cutoff) c.args.decision
    (phase_in c.doubled.result) c.requires.sound c.requires.allowed (ap phase_in c.in-Doubling.is) c.doubled.ensures

pub returns-in-Halving-clause-sound : goal.returns-in-Halving-clause-sound
returns-in-Halving-clause-sound c =
    next_sound_at c.args.count (phase_in c.args.self) (Halving (side_in c.in-Halving.side) c.in-Halving.cutoff c.in-Halving.range) c.args.decision
    (phase_in c.halved.result) c.requires.sound c.requires.allowed (ap phase_in c.in-Halving.is) c.halved.ensures
