use Rattle.std.proofs.Common.{◌≡◌}
use Rattle.page_tests.proofs.fed.Reading.read_on.Given as goal

abbrev pub invariant-steps : goal.invariant-steps
invariant-steps l = l.self.decoder.mark ≡ l.fn.self.decoder.mark
