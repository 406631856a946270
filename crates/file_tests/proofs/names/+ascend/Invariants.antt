use Rattle.std.proofs.Common.{length}
use Rattle.file_tests.proofs.names.+ascend.Given as goal

abbrev pub decreases-ascend : goal.decreases-ascend
decreases-ascend l = length l.names.now
