use Rattle.std.proofs.Common.{length}
use Rattle.run_tests.proofs.runs.+ascend.Given as goal

abbrev pub decreases-ascend : goal.decreases-ascend
decreases-ascend l = length l.files.now
