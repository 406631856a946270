use Rattle.std.proofs.Common.{◌∙◌, ap}
use Rattle.once_board.specs.Holds.{rights_and_records}
use Rattle.once_board.proofs.JoinStep.{settles}
use Rattle.once_board.proofs.moves.tell_seat.Goals as goal

pub load-requires : goal.load-requires
load-requires g c = (
  c.tell_under_rights.ensures.same.0 ∙ c.requires.board.0,
  c.requires.words,
  settles _ g.O.Owned.owners _ _ _ _ c.requires.key c.args.to.now.me.0.hold (rights_and_records c.args.from.now.me.0.hold)
      (ap (λ m. m.0.stage) c.tell_under_rights.ensures.to),
)
