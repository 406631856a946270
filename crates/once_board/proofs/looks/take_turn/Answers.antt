use Rattle.std.proofs.Common.{arith}
use Rattle.once_board.proofs.LookStep.{looks_next}
use Rattle.once_board.proofs.looks.take_turn.Goals as goal

pub compare_exchange-requires : goal.compare_exchange-requires
compare_exchange-requires g c = (
  c.requires.board.0,
  (let place = c.requires.place in let words = c.requires.board.1 in omega arith),
  looks_next _ _ _ _ c.args.place _ _ c.requires.board.2 c.requires.idle c.requires.place,
)
