use Rattle.std.proofs.Common.{subst, sym, refl, ◌∙◌, length}
use Rattle.once_board.specs.Told.{IsSound}
use Rattle.once_board.specs.Boards.{IsFirst, IsReady}
use Rattle.once_board.proofs.Starting.{starts_with, first_is, first_sound}
use Rattle.once_board.proofs.board.Board.new.Goals as goal

pub vacant-requires : goal.vacant-requires
vacant-requires g c = starts_with g.T.Share.fits c.of-owners.result (length c.slice-count.result.now) c.as_slice.result.now
    (c.as_slice.ensures.value ∙ c.in_ok-words.ensures)

pub returns-clause-seat : goal.returns-clause-seat
returns-clause-seat g c =
    let made = c.in_ok-table.ensures in
    subst (λ m. IsFirst m.0.hold) (sym made.4) (first_is g.T.Share.fits c.of-owners.result)

pub invariant_of-result-2 : goal.invariant_of-result-2
invariant_of-result-2 g c =
    let made = c.in_ok-table.ensures in
    subst (λ m. IsReady g.T.Share.fits m) (sym made.4) (record { idles = refl; no_slot = refl; sound = first_sound g.T.Share.fits c.of-owners.result })

pub returns-clause-sound : goal.returns-clause-sound
returns-clause-sound g c =
    let made = c.in_ok-table.ensures in
    subst (λ m. IsSound g.T.Share.fits m.0.hold) (sym made.4) (first_sound g.T.Share.fits c.of-owners.result)
