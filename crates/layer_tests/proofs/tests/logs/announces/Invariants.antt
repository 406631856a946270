use Rattle.std.proofs.Common.{◌≡◌, false}
use Rattle.once_board.specs.Filled.{count_of}
use Rattle.port_log.specs.Logs.{IsSeatOf, MayAnnounce}
use Rattle.layer_tests.proofs.tests.logs.announces.Given as goal

abbrev pub invariant-loop-number : goal.invariant-loop-number
invariant-loop-number l = IsSeatOf l.log l.seat × MayAnnounce l.seat 0 × ((count_of l.seat.counts 0).filled ≡ l.number)
    × ((count_of l.seat.counts 0).ended ≡ false)
