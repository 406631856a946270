use Rattle.std.proofs.Common.{Some}
use Rattle.once_board.proofs.PutStep.{in_hand}
use Rattle.once_board.proofs.looks.copy_value.Goals as goal

pub exchange-requires : goal.exchange-requires
exchange-requires g c = (c.requires.board, (Some c.requires.turn.0, in_hand c.args.seat.now.me c.args.place (Some c.requires.turn.0) _ c.requires.turn.1))
