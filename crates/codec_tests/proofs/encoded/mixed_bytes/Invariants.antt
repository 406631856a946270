use Rattle.std.proofs.Common.{◌<◌, length}
use Rattle.codec_tests.proofs.encoded.mixed_bytes.Given as goal

abbrev pub invariant-loop-digit : goal.invariant-loop-digit
invariant-loop-digit l = l.state < length l.zp.table
