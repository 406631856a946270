use Rattle.std.proofs.Common.{◌/◌, ◌%◌, arith, tests, get_or}
use Rattle.std.proofs.lemmas.Nat.Bits.{shr_and_one}
use Rattle.bit_plane.specs.Bits.{bit, digit}
use Rattle.bit_plane.proofs.words.is_set.Goals as goal

pub returns : goal.returns
unfolding bit digit
returns c = grind (arith, tests, shr_and_one (get_or c.args.words.now (c.args.at / 64) 0) (c.args.at % 64))
