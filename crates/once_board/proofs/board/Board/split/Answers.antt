use Rattle.std.proofs.Common.{◌∙◌, ap, sym, subst, refl, ◌≤◌}
use Rattle.once_board.specs.Numbers.{times}
use Rattle.once_board.specs.Places.{record_of, unread}
use Rattle.once_board.specs.Told.{IsSound}
use Rattle.once_board.specs.Boards.{IsReady}
use Rattle.once_board.proofs.Records.{record_of-unread}
use Rattle.once_board.proofs.SplitStep.{kept_sound, off_sound}
use Rattle.once_board.proofs.board.Board.split.Goals as goal

pub split_seat-seat-requires-clause-chosen : goal.split_seat-seat-requires-clause-chosen
split_seat-seat-requires-clause-chosen g c = refl

pub split_seat-seat-requires-clause-held : goal.split_seat-seat-requires-clause-held
split_seat-seat-requires-clause-held g c = λ r is. subst (λ s. 1 ≤ times r s.hold.rights) (sym c.seat.view_is) (c.requires.right r is)

pub invariant_of-result : goal.invariant_of-result
invariant_of-result g c =
    let off = c.split_seat-seat.ensures.off in
    subst (λ m. IsReady g.T.Share.fits m) (sym off)
    (record {
      idles = refl;
      no_slot = refl;
      sound
          = off_sound g.T.Share.fits c.self.inside.table.shared.key c.args.right c.seat.inside.seat.me.0.hold c.seat.invariant.sound;
    })

pub invariant_of-seat : goal.invariant_of-seat
invariant_of-seat g c =
    let kept = c.split_seat-seat.ensures.kept in
    subst (λ m. IsReady g.T.Share.fits m) (sym kept)
    (record {
      idles = refl;
      no_slot = refl;
      sound
          = kept_sound g.T.Share.fits c.self.inside.table.shared.key c.args.right c.seat.inside.seat.me.0.hold c.seat.invariant.sound;
    })

pub returns-clause-places : goal.returns-clause-places
returns-clause-places g c = λ place.
    ap (λ m. record_of m.0.hold.places place) c.split_seat-seat.ensures.off
    ∙ (record_of-unread c.seat.inside.seat.me.0.hold.places place ∙ ap (λ s. unread (record_of s.hold.places place)) c.seat.view_is)

pub returns-clause-sound : goal.returns-clause-sound
returns-clause-sound g c = (
  subst (λ m. IsSound g.T.Share.fits m.0.hold) (sym c.split_seat-seat.ensures.kept)
      (kept_sound g.T.Share.fits c.self.inside.table.shared.key c.args.right c.seat.inside.seat.me.0.hold c.seat.invariant.sound),
  subst (λ m. IsSound g.T.Share.fits m.0.hold) (sym c.split_seat-seat.ensures.off)
      (off_sound g.T.Share.fits c.self.inside.table.shared.key c.args.right c.seat.inside.seat.me.0.hold c.seat.invariant.sound),
)
