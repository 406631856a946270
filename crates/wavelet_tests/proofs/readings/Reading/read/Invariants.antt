use Rattle.std.proofs.Common.{◌≡◌, length, Some, IsSome}
use Rattle.wavelet_tests.proofs.readings.Reading.read.Given as goal

abbrev pub invariant-loop : goal.invariant-loop
invariant-loop l = record {
  to_come : l.self.image.to_come ≡ Some (length l.left);
  known : (IsSome l.fn.self.size → IsSome l.fn.self.image.header) → IsSome l.self.size → IsSome l.self.image.header;
}
