use Rattle.zp_decoder.proofs.Keeping.{cut_less, cut_more}
use Rattle.zp_decoder.proofs.standing.Standing.cut.Goals as goal

pub returns-then-self-z-clause-stands : goal.returns-then-self-z-clause-stands
returns-then-self-z-clause-stands c payload at stands = cut_less payload c.args.z at c.args.self stands c.if-self-z.true

pub returns-else-self-z-clause-stands : goal.returns-else-self-z-clause-stands
returns-else-self-z-clause-stands c payload at stands = cut_more payload c.args.z at c.args.self stands c.if-self-z.false
