use Rattle.zp_encoder.proofs.StandingLemmas.{twice_codes, twice_sound}
use Rattle.zp_encoder.proofs.standing.Standing.lengthen_by_one.Goals as goal

pub returns-then-self-lt8-clause-codes : goal.returns-then-self-lt8-clause-codes
returns-then-self-lt8-clause-codes c = twice_codes c.args.self.now

pub returns-then-self-lt8-clause-sound : goal.returns-then-self-lt8-clause-sound
returns-then-self-lt8-clause-sound c = twice_sound c.args.self.now c.requires.sound c.requires.high c.requires.below c.if-self-lt8.true
