use Rattle.std.proofs.Common.{◌∙◌}
use Rattle.once_board.proofs.SplitStep.{cuts}
use Rattle.once_board.proofs.moves.split_seat.Goals as goal

pub split_seat-requires : goal.split_seat-requires
split_seat-requires g c = (
  c.requires.board.0,
  c.requires.board.1,
  cuts _ _ g.C.Chosen.right _ _ c.requires.idle.0 (λ x is. c.requires.held x (c.requires.chosen ∙ is)),
)
