use Rattle.std.proofs.Common.{◌≡◌, ◌<◌, ℕ}
use Rattle.zp_decoder.specs.Decision.{most_bits}
use Rattle.zp_decoder.proofs.Lemmas.{IsEnough}
use Rattle.zp_encoder.specs.Codes.{lengthened}
use Rattle.zp_encoder.specs.Encoder.{codes_of, IsSound}
use Rattle.zp_encoder.proofs.standing.Standing.lengthen.Given as goal

abbrev pub invariant-loop-self : goal.invariant-loop-self
invariant-loop-self l = record {
  sound : IsSound l.self;
  below : l.self.a < 0x10000;
  steps : (most : ℕ) × (lengthened most (codes_of l.self) ≡ lengthened most_bits (codes_of l.fn.self)) × IsEnough most l.self.a;
}

abbrev pub decreases-loop-self : goal.decreases-loop-self
decreases-loop-self l = l.self.a
