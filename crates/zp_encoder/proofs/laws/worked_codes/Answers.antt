use Rattle.std.proofs.Common.{refl, lit<, lit≤, arith, ◌<◌, ◌+◌, ◌∷◌, []}
use Rattle.zp_decoder.specs.Decision.{most_bits}
use Rattle.zp_decoder.specs.Bits.{bits_from}
use Rattle.zp_encoder.proofs.laws.worked_codes.Goals as goal

pub returns-clause-codes : goal.returns-clause-codes
unfolding most_bits
returns-clause-codes c =
    (lit< tt, refl, (lit< tt, refl, (lit< tt, refl, (lit< tt, refl, (lit< tt, refl, (lit< tt, refl, (tt, refl, (tt, refl, refl))))))))

pub returns-clause-among : goal.returns-clause-among
returns-clause-among c = record { least = lit≤ tt; most = lit< tt; within = lit≤ tt }

pub returns-clause-above : goal.returns-clause-above
returns-clause-above c among = let most : bits_from (0x45 ∷ []) 0 22 + 0x5136 < 0x10a0c6 + 0x10000 = among.most in absurd (omega arith)

pub returns-clause-number : goal.returns-clause-number
returns-clause-number c = refl
