use Rattle.std.proofs.Common.{◌∙◌, ap}
use Rattle.once_board.proofs.JoinStep.{joins_seats, settles}
use Rattle.once_board.proofs.moves.join_seats.Goals as goal

pub join_seat-requires : goal.join_seat-requires
join_seat-requires g c = (
  c.requires.board.0,
  c.requires.board.1,
  c.requires.other.1,
  c.requires.words,
  joins_seats _ _ _ _ _ _ c.requires.idle.0 c.requires.other.0,
)

pub load-requires : goal.load-requires
load-requires g c = (
  c.join_seat.ensures.0 ∙ c.requires.board.0,
  c.requires.words,
  settles _ g.O.Owned.owners _ _ _ _ c.requires.key c.args.seat.now.me.0.hold c.args.other.me.0.hold (ap (λ m. m.0.stage) c.join_seat.ensures.2),
)
