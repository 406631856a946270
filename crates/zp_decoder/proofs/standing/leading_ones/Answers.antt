use Rattle.std.proofs.Common.{◌<◌, ◌≤◌, ◌-◌, ℕ, zero, suc, arith}
use Rattle.std.specs.Int.Count.{count_leading_zeros}
use Rattle.zp_decoder.proofs.Moving.{Leads, leads}
use Rattle.zp_decoder.proofs.standing.leading_ones.Goals as goal

some_of : (k a : ℕ) → Leads k a → 0x8000 ≤ a → 0 < k
some_of zero a l high = absurd (omega (arith, l.enough))
some_of (suc k) a l high = omega arith

pub returns-clause-some : goal.returns-clause-some
returns-clause-some c = some_of (count_leading_zeros 16 (0xFFFF - c.args.a)) c.args.a (leads c.args.a c.requires.below) c.requires.high

pub returns-clause-whole : goal.returns-clause-whole
returns-clause-whole c = (leads c.args.a c.requires.below).whole

pub returns-clause-enough : goal.returns-clause-enough
returns-clause-enough c = (leads c.args.a c.requires.below).enough
