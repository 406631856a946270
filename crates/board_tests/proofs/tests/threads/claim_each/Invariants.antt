use Rattle.std.proofs.Common.{◌≡◌, ℕ, ◌≤◌}
use Rattle.once_board.specs.Numbers.{times}
use Rattle.board_tests.proofs.tests.threads.claim_each.Given as goal

abbrev pub invariant-loop-place : goal.invariant-loop-place
invariant-loop-place l = (l.seat.board ≡ l.board.board) × (1 ≤ l.seat.hold.parts) × ((other : ℕ) → l.place ≤ other → times other l.seat.hold.claims ≡ 0)
